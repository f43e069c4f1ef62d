-- Two roles, or two kinds, that `==` tells apart.
use denote.Enum.Bare.{sameb}
use Rattle.std.specs.Prelude.{◌≡◌, true, false, Bool, List, ℕ, eqb, get_or}
use Rattle.std.proofs.Common.{sym, ap, ◌∙◌, rules}
use Rattle.std.proofs.lemmas.Bool.{eqb-true, eqb-false}
use Rattle.spec_grammar.specs.declared.Role.{Role}
use Rattle.spec_grammar.specs.contracts.Role as role
use Rattle.spec_grammar.specs.Codes.{role_number}
use Rattle.load_tokens.specs.declared.Token.{Token}
use Rattle.load_tokens.specs.Arrays.{role_of_number}
use Rattle.load_tokens.specs.Views.{roles, blank}
use Rattle.load_tokens.specs.laws.Arrays.{role_back}
use Rattle.load_tokens.specs.laws.Views.{role_at}

pub role_equal : (a b : Role) → sameb role.the_type a b ≡ eqb (role_number a) (role_number b)
role_equal a b = search rules

-- the i-th token says r, from what `==` returned; it does not
module _ (ts : List Token) (i : ℕ) (r : Role) {b : Bool} (e : b ≡ sameb role.the_type (get_or ts i blank).role r) where
  pub says : b ≡ true → get_or (roles ts) i 0 ≡ role_number r
  says h = role_at ts i ∙ eqb-true _ _ (sym (role_equal (get_or ts i blank).role r) ∙ sym e ∙ h)

  pub says_other : b ≡ false → get_or (roles ts) i 0 ≡ role_number r → ⊥
  says_other h g = eqb-false _ _ (sym (role_equal (get_or ts i blank).role r) ∙ sym e ∙ h) (sym (role_at ts i) ∙ g)

-- the role of the i-th token
pub role_here : (ts : List Token) (i : ℕ) → role_of_number (get_or (roles ts) i 0) ≡ (get_or ts i blank).role
role_here ts i = ap role_of_number (role_at ts i) ∙ role_back (get_or ts i blank).role
