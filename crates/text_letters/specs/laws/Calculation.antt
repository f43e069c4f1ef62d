-- A calculation by the letters that an array gives.
use Rattle.std.specs.Prelude.{◌≡◌, refl, Bool, true, false, not, ◌&&◌, cond, List, [], ◌∷◌, ℕ, eqb, take, drop}
use Rattle.std.proofs.Common.{sym, ap, ap₂, ◌∙◌, eqb-true}
use Rattle.std.proofs.lemmas.Bool.{false≢true}
use Rattle.std.proofs.Math.Option.{Option, none, some}
use Rattle.spec_lists.specs.Select.{all, any, holds_of, missing}
use Rattle.spec_lists.proofs.laws.Both.{both}
use Rattle.spec_calc.specs.Expression.{Tree}
use Rattle.spec_calc.specs.Value.{letters}
use Rattle.spec_calc.specs.Reader.{tree_of}
use Rattle.spec_file.specs.Limit.{rules}
use Rattle.spec_file.specs.Refusal.{letters_among}
use Rattle.spec_table.specs.Layout.{Content}
use Rattle.spec_table.specs.View.{view}
use Rattle.spec_table.specs.Table.{calculation_run, no_calculation}
use Rattle.spec_table.specs.Policy.{string, row}
use Rattle.spec_table.proofs.laws.Standing.{stands, calculation_there}
use Rattle.spec_text.specs.Faults.{calculation_faulty}
use Rattle.calc_letters.specs.Letters.{given_letter, byte_letters}
use Rattle.calc_letters.specs.laws.Letters.{bytes_same}
use Rattle.table_read.specs.Stored.{Stored}
use Rattle.text_letters.specs.Letters.{LettersAre, CalculationJudged}

all_same : {A : Type 0} (p q : A → Bool) → ((x : A) → p x ≡ q x) → (xs : List A) → all p xs ≡ all q xs
all_same p q e [] = refl
all_same p q e (x ∷ xs) = ap₂ (λ (s t : Bool). s && t) (e x) (all_same p q e xs)

no_text : (given : List Bool) → all (given_letter given) (byte_letters []) ≡ true
unfolding byte_letters
no_text given = refl

module _ (given : List Bool) (ls : List ℕ) (g : LettersAre given ls) where
  -- the bytes' letters of a calculation are those of its tree
  bytes_among : (s : List ℕ) → missing (tree_of s) ≡ false → all (given_letter given) (byte_letters s) ≡ holds_of (tree_of s) (letters_among ls)
  bytes_among s m = go (tree_of s) refl m
    where
      go : (o : Option Tree) → tree_of s ≡ o → missing o ≡ false → all (given_letter given) (byte_letters s) ≡ holds_of o (letters_among ls)
      go none e f = absurd (false≢true (sym f))
      go (some t) e f = bytes_same s t e given ∙ all_same (given_letter given) (λ i. any (eqb i) ls) g.each (letters t)

  module _ (c : Content) (w : List ℕ) where
    abbrev text : List ℕ
    text = string c (calculation_run w)

    judged_by :
        (n : Bool) → no_calculation (calculation_run w) ≡ n → (no_calculation (calculation_run w) ≡ false → missing (tree_of text) ≡ false)
        → not (all (given_letter given) (byte_letters text)) ≡ calculation_faulty ls (cond n none (some text))
    judged_by true e m =
        let z = both (eqb (calculation_run w).first 0) (eqb (calculation_run w).count 0) e in
        let k : text ≡ [] = ap (λ (x : ℕ). take x (drop (calculation_run w).first c.strings)) (eqb-true (calculation_run w).count 0 z.1) in
        ap not (ap (λ (s : List ℕ). all (given_letter given) (byte_letters s)) k ∙ no_text given)
    judged_by false e m = ap not (bytes_among text (m e))

pub judged :
    (b : List ℕ) (i : ℕ) → Stored b rules i → (given : List Bool) {s : List ℕ} {r : Bool} → s ≡ string (view b) (calculation_run (row (view b) rules i))
    → r ≡ all (given_letter given) (byte_letters s) → CalculationJudged b i given (not r)
judged b i h given e f ls g =
    let w = row (view b) rules i in
    ap not (f ∙ ap (λ (s : List ℕ). all (given_letter given) (byte_letters s)) e)
    ∙ judged_by given ls g (view b) w (no_calculation (calculation_run w)) refl (calculation_there (view b) (stands b h.table).1 i h.inside)
