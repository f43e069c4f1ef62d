-- Comparing pair by pair, the first byte through a change of it.
use Rattle.std.specs.Prelude.{◌≡◌, refl, Bool, false, ◌&&◌, List, [], ◌∷◌, ◌≢◌, map, ℕ, eqb, length}
use Rattle.std.specs.List.{zip, list_all}
use Rattle.std.proofs.Common.{ap, sym, ◌∙◌, arith}
use Rattle.spec_lists.specs.Text.{same}
use Rattle.spec_lists.proofs.laws.Same.{same_length, unchanged}

abbrev pub alike_by : (ℕ → ℕ) → ℕ × ℕ → Bool
alike_by f p = eqb (f p.0) p.1

pub pairs_by : (f : ℕ → ℕ) (a b : List ℕ) → length a ≡ length b → list_all (alike_by f) (zip a b) ≡ same (map f a) b
pairs_by f [] [] h = refl
pairs_by f [] (y ∷ b) h = absurd (omega arith)
pairs_by f (x ∷ a) [] h = absurd (omega arith)
pairs_by f (x ∷ a) (y ∷ b) h = ap (λ t. eqb (f x) y && t) (pairs_by f a b (omega arith))

-- as they are
abbrev pub equal_pair : ℕ × ℕ → Bool
equal_pair p = eqb p.0 p.1

pub pairs_same : (a b : List ℕ) → length a ≡ length b → list_all equal_pair (zip a b) ≡ same a b
pairs_same a b h = pairs_by (λ x. x) a b h ∙ ap (λ (l : List ℕ). same l b) (unchanged a)

pub not_same : (a b : List ℕ) → length a ≢ length b → same a b ≡ false
not_same a b h = ap (λ (l : List ℕ). same l b) (sym (unchanged a)) ∙ same_length (λ x. x) a b h
