-- A text is refused under a number from 1 to 10 or under 12, at a place in the text or at its end.
use Rattle.std.specs.Prelude.{◌≡◌, refl, Bool, true, false, cond, List, [], ◌∷◌, ◌++◌, map, ◌⊎◌, ℕ, ◌≤◌, leb, length}
use Rattle.std.proofs.Common.{ap, subst, inl, inr, arith, length-append}
use Rattle.std.proofs.Math.Option.{Option, none, some}
use Rattle.spec_lists.specs.Text.{bytes}
use Rattle.spec_lists.specs.Every.{Every, nil, cons}
use Rattle.spec_lists.proofs.laws.Every.{every_head, every_split, every_implies}
use Rattle.spec_token.specs.Token.{Token, Spelled}
use Rattle.spec_token.specs.Place.{StandsIn, bare, in_quotes}
use Rattle.spec_token.proofs.laws.Theorem.{tokens_stand, bad_within}
use Rattle.spec_grammar.specs.Sentence.{Tagged, Stops, at_token, at_end}
use Rattle.spec_file.specs.declared.Refusal.{Refusal}
use Rattle.spec_file.specs.declared.Refusal.TheVariants as cause
use Rattle.spec_file.specs.Limit.{most_braces}
use Rattle.spec_file.specs.Contents.{place}
use Rattle.spec_file.specs.Depth.{opened, too_deep}
use Rattle.spec_file.specs.Refusal.{number, Context, contexts}
use Rattle.spec_file.proofs.laws.Counted.{every_context}
use Rattle.spec_file.specs.Refusal.{Applies, long, many, again, nowhere_defined, level, word, calculation}
use Rattle.spec_file.specs.Acceptance.{Caused, caused, HasCause, bad_byte, deep_brace, no_file, for_cause, Refusable, long_file, in_limit}

-- ---- a token's place lies in the text

stands_within : (s : List ℕ) (t : Token) → StandsIn s t → t.place ≤ length s
stands_within s t (bare before behind e n) = let l = ap length e in let m = length-append before (t.text ++ behind) in omega arith
stands_within s t (in_quotes before behind e n k) = let l = ap length e in let m = length-append before (bytes "\"" ++ (t.text ++ (bytes "\"" ++ behind))) in omega arith

tokens_within : {s : List ℕ} {ts : List Token} → Spelled s ts → Every (λ t. t.place ≤ length s) ts
tokens_within {s} d = every_implies (stands_within s) (tokens_stand d)

-- ---- of each refusal

abbrev UpTo : ℕ → Option ℕ → Type 0
UpTo n none = Unit {0}
UpTo n (some p) = p ≤ n

deep_within : (n k : ℕ) {ts : List Token} → Every (λ t. t.place ≤ n) ts → UpTo n (too_deep k ts)
deep_within n k nil = tt
deep_within n k (cons {x = t} {xs = ts} l e) = go (leb (opened t.kind k) most_braces) (deep_within n (opened t.kind k) e)
  where
    go : (b : Bool) → UpTo n (too_deep (opened t.kind k) ts) → UpTo n (cond b (too_deep (opened t.kind k) ts) (some t.place))
    go true h = h
    go false h = l

stops_within : {ts : List Token} {n p : ℕ} → Every (λ t. t.place ≤ n) ts → Stops ts n p → p ≤ n
stops_within {n = n} e (at_token before t behind i v d) = every_head (every_split before (rw i at e)).1
stops_within e (at_end v d) = omega arith

tagged_have : {P : Token → Type 0} (xs : List Tagged) → Every P (map (λ x. x.token) xs) → Every (λ x. P x.token) xs
tagged_have [] e = nil
tagged_have (x ∷ xs) (cons h e) = cons h (tagged_have xs e)

-- 1 to 10, or 12
abbrev pub OfAText : ℕ → Type 0
OfAText n = ((1 ≤ n) × (n ≤ 10)) ⊎ (n ≡ 12)

cause_of_a_text : {c : Context} {r : Refusal} → Applies c r → OfAText (number r)
cause_of_a_text (long h) = inl (omega arith)
cause_of_a_text (many h) = inl (omega arith)
cause_of_a_text (again h) = inl (omega arith)
cause_of_a_text (nowhere_defined h) = inr refl
cause_of_a_text (level h) = inl (omega arith)
cause_of_a_text (word h) = inl (omega arith)
cause_of_a_text (calculation h n) = inl (omega arith)

caused_within : (n : ℕ) {xs : List Tagged} {r : Refusal} {p : ℕ} → Every (λ x. place x ≤ n) xs → Caused xs r p → OfAText (number r) × (p ≤ n)
caused_within n {xs} e (caused earlier later i a w soonest) =
    let within : Every (λ c. place c.here ≤ n) (contexts xs) = every_context [] e in
    (cause_of_a_text a, every_head (every_split earlier (rw i at within)).1)

cause_numbered : {s : List ℕ} {r : Refusal} {p : ℕ} → HasCause s r p → OfAText (number r) × (p ≤ length s)
cause_numbered (bad_byte d) = let h = bad_within d in (inl (omega arith), omega arith)
cause_numbered {s} {p = p} (deep_brace {ts = ts} d e) = (inl (omega arith), subst (UpTo (length s)) e (deep_within (length s) 0 (tokens_within d)))
cause_numbered (no_file d e t) = (inl (omega arith), stops_within (tokens_within d) t)
cause_numbered {s} (for_cause {xs = xs} t e c) =
    let within : Every (λ u. u.place ≤ length s) t.spelled = tokens_within t.spelling in
    caused_within (length s) (tagged_have xs (rw (← t.reading.tokens) at within)) c

pub refusal_numbered : {s : List ℕ} {r : Refusal} {p : ℕ} → Refusable s r p → OfAText (number r) × (p ≤ length s)
refusal_numbered (long_file l) = (inl (omega arith), omega arith)
refusal_numbered (in_limit l c) = cause_numbered c

-- no number is greater than 12
pub number_small : (r : Refusal) → number r ≤ 12
number_small cause.FileTooLong = omega arith
number_small cause.BadByte = omega arith
number_small cause.TooDeep = omega arith
number_small cause.Ungrammatical = omega arith
number_small cause.StringTooLong = omega arith
number_small cause.TooMany = omega arith
number_small cause.GivenAgain = omega arith
number_small cause.UndefinedGroup = omega arith
number_small cause.BadLevel = omega arith
number_small cause.UnknownWord = omega arith
number_small cause.BadCalculation = omega arith
number_small cause.NoRoom = omega arith
