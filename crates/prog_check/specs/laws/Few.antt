-- A file has no more warnings than bytes.
use Rattle.std.specs.Prelude.{◌≡◌, refl, List, [], ◌∷◌, map, suc, ◌≤◌, ℕ, length}
use Rattle.std.proofs.Common.{sym, ap, ◌∙◌, arith}
use Rattle.std.proofs.Math.Option.{Option, none, some}
use Rattle.spec_token.proofs.laws.Kinds.{spelled_few}
use Rattle.spec_grammar.specs.Sentence.{Tagged}
use Rattle.spec_file.specs.declared.Warning.{Warning}
use Rattle.spec_file.specs.Warning.{warning_of, with_place, warnings}
use Rattle.spec_file.specs.Limit.{most_bytes}
use Rattle.spec_file.specs.Load.{accept, verdict}
use Rattle.spec_file.proofs.laws.Theorem.{accepted_is}

pub length_map : {A B : Type 0} (f : A → B) (xs : List A) → length (map f xs) ≡ length xs
length_map f [] = refl
length_map f (x ∷ xs) = ap suc (length_map f xs)

few_among : (xs : List Tagged) → length (warnings xs) ≤ length xs
few_among [] = omega arith
few_among (x ∷ xs) = go (warning_of x) (few_among xs)
  where
    go : (o : Option Warning) → length (warnings xs) ≤ length xs → length (with_place o x (warnings xs)) ≤ suc (length xs)
    go none h = omega arith
    go (some w) h = omega arith

pub few_warnings : (s : List ℕ) (xs : List Tagged) → verdict s ≡ accept xs → length (warnings xs) ≤ most_bytes
few_warnings s xs e =
    let a = accepted_is s xs e in
    let t = spelled_few a.as_read.spelling in
    let l = sym (length_map (λ (x : Tagged). x.token) xs) ∙ ap length a.as_read.reading.tokens in
    let w = few_among xs in
    let b = a.short in
    omega arith
