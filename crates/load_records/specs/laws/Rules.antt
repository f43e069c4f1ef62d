-- The words of a rule.
use Rattle.std.specs.Prelude.{Bool, true, false, cond, List, [], ◌∷◌, ◌≡◌, refl, ℕ, ◌+◌, ◌-◌, ltb, length}
use Rattle.std.proofs.Math.Option.{Option, none, some}
use Rattle.std.proofs.Common.{ap, ltb-true, ltb-false}
use Rattle.spec_lists.specs.Runs.{Run}
use Rattle.spec_lists.specs.Words.{spelled_out}
use Rattle.spec_grammar.specs.Sentence.{Tagged}
use Rattle.spec_file.specs.Contents.{texts, head_of}
use Rattle.spec_table.specs.Written.{calculation_words}
use Rattle.load_tokens.specs.Arrays.{Arrays, role_of_number}
use Rattle.load_spans.specs.Roles.{RoleCode, tokens, gap}
use Rattle.load_flags.specs.Tokens.{cut, first_text}
use Rattle.load_records.specs.laws.Tokens.{first_in, none_in}

-- what stands for a calculation, from where the code finds it: at j, or nowhere before e
pub calculation_is :
    (s : List ℕ) (ar : Arrays) (roles : List ℕ) (q m i to e j o len : ℕ) → RoleCode q → RoleCode m
    → e ≡ i + gap q 5 roles i (to - i) → j ≡ i + gap m m roles i (e - i)
    → len ≡ length (first_text (role_of_number m) (cut (role_of_number q) (tokens s ar roles i to)))
    → cond (ltb j e) o 0 ∷ len ∷ []
    ≡ calculation_words
    (head_of (texts (role_of_number m) (cut (role_of_number q) (tokens s ar roles i to))))
    (record { first = o; count = length (first_text (role_of_number m) (cut (role_of_number q) (tokens s ar roles i to))) })
calculation_is s ar roles q m i to e j o len tq tm h g l = go (ltb j e) refl
  where
    xs : List Tagged
    xs = cut (role_of_number q) (tokens s ar roles i to)

    go :
        (b : Bool) → ltb j e ≡ b
        → cond b o 0 ∷ len ∷ []
        ≡ calculation_words (head_of (texts (role_of_number m) xs)) (record { first = o; count = length (first_text (role_of_number m) xs) })
    go true t =
        let z = first_in s ar roles q m i to e tq tm j h g (ltb-true j e t) in
        rw z (rw z at (ap (λ (n : ℕ). o ∷ n ∷ []) l))
    go false t =
        let z = none_in s ar roles q m i to e tq tm j h g (ltb-false j e t) in
        rw z (rw z at (ap (λ (n : ℕ). 0 ∷ n ∷ []) l))

pub rule_words :
    {f f' u u' h h' : ℕ} {c c' : List ℕ} (n : ℕ) → f ≡ f' → u ≡ u' → h ≡ h' → c ≡ c'
    → spelled_out (f ∷ n ∷ u ∷ (n + u) ∷ h ∷ c) ≡ spelled_out (f' ∷ n ∷ u' ∷ (n + u') ∷ h' ∷ c')
rule_words n e g k l = rw (e, g, k, l)

-- a rule has 14 bytes, with a calculation or without
pub rule_length : (a b c d e : ℕ) (o : Option (List ℕ)) (r : Run) → length (spelled_out (a ∷ b ∷ c ∷ d ∷ e ∷ calculation_words o r)) ≡ 14
rule_length a b c d e none r = refl
rule_length a b c d e (some t) r = refl
