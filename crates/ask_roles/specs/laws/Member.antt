-- A member that begins as a role, and one that does not.
use Rattle.std.specs.Prelude.{◌≡◌, refl, Bool, true, false, ◌&&◌, List, [], ◌∷◌, ℕ, eqb, take, drop}
use Rattle.std.specs.Cmp.Lexicographic.{pointwise}
use Rattle.std.proofs.Common.{sym, ap, ap₂, ◌∙◌, eq-eqb, eqb-true, ne_eqb}
use Rattle.std.proofs.lemmas.Bool.{false≢true}
use Rattle.spec_lists.specs.Text.{same}
use Rattle.spec_lists.specs.Select.{any}
use Rattle.spec_rule.specs.Roles.{role_prefix}
use Rattle.spec_rule.specs.Rule.{begins, matches_client}

eqb_turned : (x y : ℕ) → eqb x y ≡ eqb y x
eqb_turned x y = go (eqb y x) refl
  where
    go : (b : Bool) → eqb y x ≡ b → eqb x y ≡ b
    go true e = eq-eqb x y (sym (eqb-true y x e))
    go false e = ne_eqb x y (λ q. false≢true (sym e ∙ eq-eqb y x (sym q)))

same_turned : (s t : List ℕ) → same s t ≡ pointwise eqb t s
same_turned [] [] = refl
same_turned [] (y ∷ t) = refl
same_turned (x ∷ s) [] = refl
same_turned (x ∷ s) (y ∷ t) = ap₂ (λ (a b : Bool). a && b) (eqb_turned x y) (same_turned s t)

module _ (user : List ℕ) (roles : List (List ℕ)) (member : List ℕ) where
  begins_by : {b : Bool} → pointwise eqb (take 5 member) role_prefix ≡ b → begins role_prefix member ≡ b
  begins_by e = same_turned role_prefix (take 5 member) ∙ e

  pub matched_by_role :
      {role : List ℕ} → pointwise eqb (take 5 member) role_prefix ≡ true → role ≡ drop 5 member
      → any (same role) roles ≡ matches_client user roles member
  matched_by_role e f = ap (λ (r : List ℕ). any (same r) roles) f ∙ rw (begins_by e)

  pub matched_by_user : pointwise eqb (take 5 member) role_prefix ≡ false → same user member ≡ matches_client user roles member
  matched_by_user e = rw (begins_by e)
