-- The parts of a line one behind the other, against what it asks.
use Rattle.std.specs.Prelude.{◌≡◌, refl, true, List, [], ◌∷◌, ℕ, ◌≤◌, ◌<◌, length, None, Some}
use Rattle.std.proofs.Common.{sym, ap, ◌∙◌, arith, le-leb}
use Rattle.std.proofs.lemmas.Bool.{lt-leb}
use Rattle.spec_calc.specs.declared.Reading.{Reading}
use Rattle.prog_line.specs.Line.{split, readings_named, refused, of_readings, of_parts, asks}
use Rattle.prog_line.specs.Parts.{behind, no_next, Next, LevelFirst}

-- ---- a line that ends too early, or has an empty part

pub no_next₁ : (ps : List (List ℕ)) → no_next ps ≡ true → of_parts ps ≡ refused
unfolding of_parts
no_next₁ [] e = refl
no_next₁ (g ∷ []) e = refl
no_next₁ (g ∷ u ∷ []) e = refl
no_next₁ (g ∷ u ∷ h ∷ []) e = refl
no_next₁ ([] ∷ u ∷ h ∷ d ∷ rs) e = refl
no_next₁ ((b ∷ g) ∷ u ∷ h ∷ d ∷ rs) e = let z : ◌≡◌ {A = ℕ} 0 1 = cc in absurd (omega arith)

pub no_next₂ : (g : List ℕ) (ps : List (List ℕ)) → no_next ps ≡ true → of_parts (g ∷ ps) ≡ refused
unfolding of_parts
no_next₂ g [] e = refl
no_next₂ g (u ∷ []) e = refl
no_next₂ g (u ∷ h ∷ []) e = refl
no_next₂ [] ([] ∷ h ∷ d ∷ rs) e = refl
no_next₂ (b ∷ g) ([] ∷ h ∷ d ∷ rs) e = refl
no_next₂ g ((b ∷ u) ∷ h ∷ d ∷ rs) e = let z : ◌≡◌ {A = ℕ} 0 1 = cc in absurd (omega arith)

pub no_next₃ : (g u : List ℕ) (ps : List (List ℕ)) → no_next ps ≡ true → of_parts (g ∷ u ∷ ps) ≡ refused
unfolding of_parts
no_next₃ g u [] e = refl
no_next₃ g u (h ∷ []) e = refl
no_next₃ [] u ([] ∷ d ∷ rs) e = refl
no_next₃ (b ∷ g) [] ([] ∷ d ∷ rs) e = refl
no_next₃ (b ∷ g) (c ∷ u) ([] ∷ d ∷ rs) e = refl
no_next₃ g u ((b ∷ h) ∷ d ∷ rs) e = let z : ◌≡◌ {A = ℕ} 0 1 = cc in absurd (omega arith)

-- ---- part by part

pub too_long : (l : List ℕ) → 255 < length l → asks l ≡ refused
unfolding asks
too_long l h = rw (lt-leb (length l) 255 h) refl

module _ (l : List ℕ) (k : length l ≤ 255) where
  by_parts : asks l ≡ of_parts (split l)
  unfolding asks
  by_parts = rw (le-leb (length l) 255 k) refl

  pub no_group : no_next (split l) ≡ true → asks l ≡ refused
  no_group e = by_parts ∙ no_next₁ (split l) e

  module _ {g l₁ : List ℕ} (a : Next l g l₁) where
    pub no_user : no_next (split l₁) ≡ true → asks l ≡ refused
    no_user e = by_parts ∙ ap of_parts a.reads ∙ no_next₂ g (split l₁) e

    module _ {u l₂ : List ℕ} (b : Next l₁ u l₂) where
      two : split l ≡ g ∷ u ∷ split l₂
      two = a.reads ∙ ap (λ (ps : List (List ℕ)). g ∷ ps) b.reads

      pub no_host : no_next (split l₂) ≡ true → asks l ≡ refused
      no_host e = by_parts ∙ ap of_parts two ∙ no_next₃ g u (split l₂) e

      module _ {h l₃ : List ℕ} (c : Next l₂ h l₃) where
        three : split l ≡ g ∷ u ∷ h ∷ split l₃
        three = two ∙ ap (λ (ps : List (List ℕ)). g ∷ u ∷ ps) c.reads

        pub no_level : ((g u h : List ℕ) → of_parts (g ∷ u ∷ h ∷ split l₃) ≡ refused) → asks l ≡ refused
        no_level f = by_parts ∙ ap of_parts three ∙ f g u h

        module _ {n : ℕ} {l₄ : List ℕ} (d : LevelFirst l₃ n l₄) where
          four : asks l ≡ of_readings g u h n (readings_named (behind l₄))
          unfolding of_parts
          four =
              by_parts
              ∙ ap of_parts (three ∙ ap (λ (ps : List (List ℕ)). g ∷ u ∷ h ∷ ps) d.reads)
              ∙ rw (a.fills, b.fills, c.fills, d.is) refl

          pub no_readings : None ≡ readings_named (behind l₄) → asks l ≡ refused
          no_readings e = four ∙ rw (← e) refl

          pub all_parts : {rs : List Reading} → Some rs ≡ readings_named (behind l₄) → asks l ≡ of_readings g u h n (Some rs)
          all_parts e = four ∙ ap (of_readings g u h n) (sym e)
