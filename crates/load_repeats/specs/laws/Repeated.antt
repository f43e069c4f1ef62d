-- A token is given again if it is so in one of the five roles.
use Rattle.std.specs.Prelude.{Option, length, ◌≡◌, refl, Bool, true, false, not, ◌&&◌, ◌||◌, List, [], ◌∷◌, ℕ}
use Rattle.std.proofs.Common.{sym, ap, ◌∙◌}
use Rattle.spec_lists.specs.Select.{run}
use Rattle.spec_grammar.specs.declared.Role.{Role}
use Rattle.spec_grammar.specs.declared.Role.TheVariants.{UagName, HagName, AsgName, Input, RuleWord, CalcWord}
use Rattle.spec_grammar.specs.Codes.{same_role}
use Rattle.spec_grammar.specs.Sentence.{Tagged}
use Rattle.spec_file.specs.Contents.{has_role, until}
use Rattle.spec_file.specs.Refusal.{Context, given_again}
use Rattle.spec_file.proofs.laws.Counted.{role_is}
use Rattle.load_spans.specs.Roles.{arrays, tokens}
use Rattle.load_spans.specs.laws.Seek.{seek_same, seek_either}
use Rattle.load_tokens.specs.declared.Token.{Token}
use Rattle.load_tokens.specs.Views.{starts, ends, roles}
use Rattle.load_spans.specs.Search.{first_in, below, earlier_of}
use Rattle.load_spans.specs.laws.Tokens.{below_min}
use Rattle.load_repeats.specs.Repeated.{since, repeated, name_repeated}

module _ {A : Type 0} (p q : A → Bool) (e : (x : A) → p x ≡ q x) where
  pub run_same : (xs : List A) → run p xs ≡ run q xs
  run_same [] = refl
  run_same (x ∷ xs) = rw (e x, run_same xs)

run_all : {A : Type 0} (xs : List A) → run (λ x. true) xs ≡ xs
run_all [] = refl
run_all (x ∷ xs) = ap (λ (l : List _). x ∷ l) (run_all xs)

-- nothing ends the scope of a name
since_ever : (q : Role) (xs : List Tagged) → since q q xs ≡ xs
since_ever q xs = run_same _ (λ x. true) (λ x. go (has_role q x)) xs ∙ run_all xs
  where
    go : (b : Bool) → not (not b && b) ≡ true
    go true = refl
    go false = refl

-- the scope of a token of another role reaches back to the last token of the role stop
since_until : (q stop : Role) → same_role stop q ≡ false → (xs : List Tagged) → since q stop xs ≡ until stop xs
since_until q stop d xs = run_same _ _ (λ x. go x (has_role stop x) refl) xs
  where
    other : (b : Bool) → not (not b && false) ≡ true
    other true = refl
    other false = refl

    go : (x : Tagged) (b : Bool) → has_role stop x ≡ b → not (not (has_role q x) && b) ≡ not b
    go x true e = rw (ap (λ (r : Role). same_role r q) (role_is stop x e), d)
    go x false e = other (has_role q x)

-- the roles of 7, each with the role that ends its scope
abbrev repeated_any : Context → Bool
repeated_any c = name_repeated c || (repeated Input AsgName c || repeated CalcWord RuleWord c)

-- what is given again is given again in one of them
again_repeated : (c : Context) → given_again c ≡ repeated_any c
again_repeated c =
    rw (
      since_ever UagName c.backwards,
      since_ever HagName c.backwards,
      since_ever AsgName c.backwards,
      since_until Input AsgName refl c.backwards,
      since_until CalcWord RuleWord refl c.backwards,
    )

module _ (s : List ℕ) (ts : List Token) where
  -- the first of a file's tokens to which p applies
  abbrev first : (Context → Bool) → Option ℕ
  first p = first_in p s ts

  -- the first to which one of two tests applies
  first_either : (p q : Context → Bool) → first (λ c. p c || q c) ≡ earlier_of (first p) (first q)
  first_either p q =
      ap (below (length ts)) (seek_either p q [] (tokens s (arrays (starts ts) (ends ts)) (roles ts) 0 (length ts))) ∙ sym (below_min (length ts) _ _)

  -- the first name given again is the first of the three firsts
  pub first_name :
      first name_repeated ≡ earlier_of (first (repeated UagName UagName)) (earlier_of (first (repeated HagName HagName)) (first (repeated AsgName AsgName)))
  first_name =
      first_either (repeated UagName UagName) (λ c. repeated HagName HagName c || repeated AsgName AsgName c)
      ∙ ap (earlier_of (first (repeated UagName UagName))) (first_either (repeated HagName HagName) (repeated AsgName AsgName))

  -- the first token given again is the first of the names, the letters and the CALCs
  pub first_again :
      first given_again ≡ earlier_of (first name_repeated) (earlier_of (first (repeated Input AsgName)) (first (repeated CalcWord RuleWord)))
  first_again =
      ap (below (length ts))
      (seek_same given_again repeated_any again_repeated [] (tokens s (arrays (starts ts) (ends ts)) (roles ts) 0 (length ts)))
      ∙ first_either name_repeated (λ c. repeated Input AsgName c || repeated CalcWord RuleWord c)
      ∙ ap (earlier_of (first name_repeated)) (first_either (repeated Input AsgName) (repeated CalcWord RuleWord))
