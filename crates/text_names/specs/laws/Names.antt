-- The names of a section, searched by their numbers.
use Rattle.std.specs.Prelude.{◌≡◌, refl, Bool, ◌&&◌, ◌||◌, List, [], ◌∷◌, ℕ, ◌+◌, ◌-◌, eqb, length, drop}
use Rattle.std.specs.List.{list_all, list_any, range_with_len}
use Rattle.std.proofs.Common.{ap, ap₂, ◌∙◌, arith}
use Rattle.std.proofs.lemmas.Bool.Decides.{nat_tests}
use Rattle.spec_lists.specs.Text.{same}
use Rattle.spec_lists.specs.Select.{all, any, joined}
use Rattle.spec_lists.proofs.laws.Any.{any_same}
use Rattle.spec_lists.proofs.laws.Every.{all_append}
use Rattle.spec_file.specs.Limit.{Section}
use Rattle.spec_table.specs.View.{view}
use Rattle.spec_table.specs.Policy.{name}
use Rattle.spec_text.specs.Faults.{repeated}
use Rattle.text_names.specs.Names.{names, name_at}
use Rattle.text_names.specs.laws.Numbered.{all_numbered, any_numbered, repeated_numbered}

eqb_turned : (a b : ℕ) → eqb a b ≡ eqb b a
eqb_turned a b = grind (arith, nat_tests)

same_turned : (s t : List ℕ) → same s t ≡ same t s
same_turned [] [] = refl
same_turned [] (c ∷ t) = refl
same_turned (b ∷ s) [] = refl
same_turned (b ∷ s) (c ∷ t) = ap₂ (λ (x y : Bool). x && y) (eqb_turned b c) (same_turned s t)

repeated_turned : (xs : List (List ℕ)) → repeated (λ x y. same y x) xs ≡ repeated same xs
repeated_turned [] = refl
repeated_turned (x ∷ xs) = ap₂ (λ (t u : Bool). t || u) (any_same (λ y. same y x) (same x) (λ y. same_turned y x) xs) (repeated_turned xs)

module _ (b : List ℕ) (s : Section) where
  pub names_all : (p : List ℕ → Bool) {n : ℕ} → n ≡ length ((view b).records s) → list_all (λ i. p (name_at b s i)) (range_with_len 0 (n - 0)) ≡ all p (names b s)
  names_all p e = all_numbered (name (view b) s) ((view b).records s) [] p 0 _ (omega arith)

  pub names_any :
      (p : List ℕ → Bool) (k : ℕ) {n : ℕ} → n ≡ length ((view b).records s)
      → list_any (λ i. p (name_at b s i)) (range_with_len k (n - k)) ≡ any p (drop k (names b s))
  names_any p k e = any_numbered (name (view b) s) ((view b).records s) [] p k _ (omega arith)

  -- a name that stands again behind it
  pub names_again :
      {n : ℕ} → n ≡ length ((view b).records s)
      → list_any (λ i. any (λ x. same x (name_at b s i)) (drop (i + 1) (names b s))) (range_with_len 0 (n - 0)) ≡ repeated same (names b s)
  names_again e =
      repeated_numbered (name (view b) s) ((view b).records s) [] (λ x y. same y x) 0 _ (omega arith) ∙ repeated_turned (names b s)

-- all of some joined lists pass a test if all of each do
all_joined : {A : Type 0} (p : A → Bool) (xss : List (List A)) → all p (joined xss) ≡ all (all p) xss
all_joined p [] = refl
all_joined p (xs ∷ xss) = all_append p xs (joined xss) ∙ ap (λ (x : Bool). all p xs && x) (all_joined p xss)
