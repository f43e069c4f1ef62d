-- Writing from the start on, as far as there is room.
use Rattle.std.specs.Prelude.{◌≡◌, refl, List, [], ◌∷◌, ℕ, suc}
use Rattle.std.proofs.Common.{ap, ◌∙◌}
use Rattle.std.proofs.lemmas.List.Edits.{sets}
use Rattle.spec_load.specs.Listing.{laid_over}

-- there is no room
sets_none : (vs : List ℕ) (i : ℕ) → sets [] i vs ≡ []
sets_none [] i = refl
sets_none (v ∷ vs) i = sets_none vs (suc i)

-- the first value stays
sets_behind : (x : ℕ) (vs b : List ℕ) (i : ℕ) → sets (x ∷ b) (suc i) vs ≡ x ∷ sets b i vs
sets_behind x [] b i = refl
sets_behind x (v ∷ vs) b i = sets_behind x vs _ (suc i)

pub over : (vs b : List ℕ) → sets b 0 vs ≡ laid_over vs b
over [] [] = refl
over [] (x ∷ b) = refl
over (v ∷ vs) [] = sets_none vs 1
over (v ∷ vs) (x ∷ b) = sets_behind v vs b 0 ∙ ap (λ (l : List ℕ). v ∷ l) (over vs b)
