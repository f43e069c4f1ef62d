-- Places ascend in a file, so that the first token of a kind is the earliest, and warnings come by place.
use Rattle.std.specs.Prelude.{◌≡◌, refl, List, [], ◌∷◌, ◌++◌, map, ℕ, ◌≤◌, ◌<◌}
use Rattle.std.proofs.Common.{sym, ap, subst, ◌∙◌, arith}
use Rattle.std.proofs.Math.Option.{Option, none, some}
use Rattle.spec_lists.specs.Every.{Every, nil, cons}
use Rattle.spec_lists.proofs.laws.Every.{every_append, every_implies, every_map, every_unmap}
use Rattle.spec_lists.proofs.laws.Joined.{map_map}
use Rattle.spec_token.specs.Token.{Token}
use Rattle.spec_token.specs.Place.{Ascending, no_more, less}
use Rattle.spec_token.proofs.laws.Theorem.{places_ascend}
use Rattle.spec_grammar.specs.Sentence.{Tagged}
use Rattle.spec_file.specs.declared.Refusal.{Refusal}
use Rattle.spec_file.specs.declared.Warning.{Warning}
use Rattle.spec_file.specs.Contents.{place}
use Rattle.spec_file.specs.Refusal.{Context, contexts_after, contexts, Applies}
use Rattle.spec_file.specs.Acceptance.{TextReads, Caused, caused}
use Rattle.spec_file.specs.Warning.{warning_of, with_place, warnings}

-- what tokens say ascends as they do
pub said_ascending : {s : List ℕ} {xs : List Tagged} → TextReads s xs → Ascending (map place xs)
said_ascending {s} {xs} t =
    let e = map_map (λ (u : Token). u.place) (λ (x : Tagged). x.token) xs in
    subst Ascending (sym (ap (map (λ (u : Token). u.place)) t.reading.tokens) ∙ e) (places_ascend t.spelling)

-- ---- the earliest

later_more : {A : Type 0} (f : A → ℕ) (earlier : List A) (x : A) (later : List A) → Ascending (map f (earlier ++ (x ∷ later))) → Every (λ y. f x < f y) later
later_more f [] x later (less h a) = every_unmap f later h
later_more f (y ∷ earlier) x later (less h a) = later_more f earlier x later a

here_places : (b xs : List Tagged) → map (λ c. place c.here) (contexts_after b xs) ≡ map place xs
here_places b [] = refl
here_places b (x ∷ xs) = ap (λ (l : List ℕ). place x ∷ l) (here_places (x ∷ b) xs)

-- 01: "Within it, the earliest place": a refusal's place is no later than any token that gives it cause
pub earliest :
    {s : List ℕ} {xs : List Tagged} {r : Refusal} {p : ℕ} → TextReads s xs → Caused xs r p
    → Every (λ c. Applies c r → p ≤ place c.here) (contexts xs)
earliest {xs = xs} t (caused {c} earlier later e a w soonest) =
    let u : Ascending (map (λ d. place d.here) (contexts xs)) = subst Ascending (sym (here_places [] xs)) (said_ascending t) in
    let v = later_more (λ d. place d.here) earlier c later (subst (λ (l : List Context). Ascending (map (λ d. place d.here) l)) e u) in
    rw e (every_append (every_implies (λ d n b. absurd (n b)) w) (cons (λ b. omega arith) (every_implies (λ d l b. omega arith) v)))

-- ---- warnings

every_warned : (P : ℕ → Type 0) {xs : List Tagged} → Every (λ x. P (place x)) xs → Every (λ w. P w.place) (warnings xs)
every_warned P nil = nil
every_warned P (cons {x = x} {xs = xs} h e) = go (warning_of x) (every_warned P e)
  where
    go : (o : Option Warning) → Every (λ w. P w.place) (warnings xs) → Every (λ w. P w.place) (with_place o x (warnings xs))
    go none d = d
    go (some w) d = cons h d

warned_ascending : (xs : List Tagged) → Ascending (map place xs) → Ascending (map (λ w. w.place) (warnings xs))
warned_ascending [] a = no_more
warned_ascending (x ∷ xs) (less h a) = go (warning_of x) (warned_ascending xs a)
  where
    go : (o : Option Warning) → Ascending (map (λ w. w.place) (warnings xs)) → Ascending (map (λ w. w.place) (with_place o x (warnings xs)))
    go none b = b
    go (some w) b = less (every_map (λ v. v.place) (every_warned (λ n. place x < n) (every_unmap place xs h))) b

-- the warnings of a text come by place
pub warnings_by_place : {s : List ℕ} {xs : List Tagged} → TextReads s xs → Ascending (map (λ w. w.place) (warnings xs))
warnings_by_place {xs = xs} t = warned_ascending xs (said_ascending t)
