-- The function that answers a calculation agrees with the relations of Answer.antt.
use Rattle.std.specs.Prelude.{◌≡◌, refl, Bool, true, false, List, ◌↔◌, ℕ, Float}
use Rattle.std.proofs.Common.{sym, ap, ◌∙◌, arith}
use Rattle.std.proofs.lemmas.Bool.{false≢true}
use Rattle.std.proofs.Math.Option.{Option, none, some}
use Rattle.spec_lists.specs.Select.{missing}
use Rattle.spec_lists.specs.Every.{Every}
use Rattle.spec_lists.proofs.laws.Every.{every_all, all_every}
use Rattle.spec_calc.specs.declared.Reading.{Reading}
use Rattle.spec_calc.specs.declared.Worth.{Worth}
use Rattle.spec_calc.specs.declared.Worth.TheVariants.{NoCalculation, BadBy, BadByArithmetic, Is}
use Rattle.spec_calc.specs.Expression.{Tree, Parses}
use Rattle.spec_calc.specs.Value.{reading, good, letters, value, evaluated, finite, finite_throughout, lowest_bad, worth_by, worth}
use Rattle.spec_calc.specs.Answer.{IsBadBy, InputsGood, IsBadByArithmetic, ComesTo}
use Rattle.spec_calc.specs.Reader.{tree_of}
use Rattle.spec_calc.proofs.laws.Lowest.{lowest_none, lowest_bad_is}
use Rattle.spec_calc.proofs.laws.Theorem.{parses_sound, parses_complete}

-- the letter, the value or neither, of a worth
abbrev letter_in : Worth → Option ℕ
letter_in NoCalculation = none
letter_in (BadBy i) = some i
letter_in BadByArithmetic = none
letter_in (Is x) = none

module _ (rs : List Reading) where
  abbrev letters_bad : Tree → Option ℕ
  letters_bad t = lowest_bad rs (letters t)

  -- no letter is found exactly if all are good
  none_good : (t : Tree) → letters_bad t ≡ none → InputsGood rs t
  none_good t e = all_every (λ i. good (reading rs i)) (letters t) (sym (lowest_none (λ i. good (reading rs i)) (letters t)) ∙ ap missing e)

  good_none : (t : Tree) → InputsGood rs t → letters_bad t ≡ none
  good_none t h = go (letters_bad t) refl
    where
      go : (o : Option ℕ) → letters_bad t ≡ o → o ≡ none
      go none e = refl
      go (some i) e =
          absurd (
          false≢true
          (ap missing (sym e) ∙ lowest_none (λ j. good (reading rs j)) (letters t) ∙ every_all (λ j. good (reading rs j)) h)
          )

  -- what a tree comes to, by the letter found and by whether every evaluated part is finite
  by_letter : (i : ℕ) (o : Option ℕ) (f : Bool) (x : Float) → worth_by o f x ≡ BadBy i → o ≡ some i
  by_letter i none true x e = let z : ◌≡◌ {A = ℕ} 0 1 = cc in absurd (omega arith)
  by_letter i none false x e = let z : ◌≡◌ {A = ℕ} 0 1 = cc in absurd (omega arith)
  by_letter i (some j) f x e = ap letter_in e

  by_arithmetic : (o : Option ℕ) (f : Bool) (x : Float) → worth_by o f x ≡ BadByArithmetic → (o ≡ none) × (f ≡ false)
  by_arithmetic none true x e = let z : ◌≡◌ {A = ℕ} 0 1 = cc in absurd (omega arith)
  by_arithmetic none false x e = (refl, refl)
  by_arithmetic (some j) f x e = let z : ◌≡◌ {A = ℕ} 0 1 = cc in absurd (omega arith)

  by_value : (v : Float) (o : Option ℕ) (f : Bool) (x : Float) → worth_by o f x ≡ Is v → (o ≡ none) × (f ≡ true) × (x ≡ v)
  by_value v none true x e = (refl, refl, cc)
  by_value v none false x e = let z : ◌≡◌ {A = ℕ} 0 1 = cc in absurd (omega arith)
  by_value v (some j) f x e = let z : ◌≡◌ {A = ℕ} 0 1 = cc in absurd (omega arith)

  module _ (s : List ℕ) where
    -- a worth that is not NoCalculation is that of a tree
    of_tree : {w : Worth} {P : Type 0} → (w ≡ NoCalculation → ⊥) → worth rs (tree_of s) ≡ w → ((t : Tree) → Parses s t → worth rs (some t) ≡ w → P) → P
    of_tree {w} {P} n e f = go (tree_of s) refl e
      where
        go : (o : Option Tree) → tree_of s ≡ o → worth rs o ≡ w → P
        go none p h = absurd (n (sym h))
        go (some t) p h = f t (parses_sound s t p) h

    pub bad_by_is : (i : ℕ) → (worth rs (tree_of s) ≡ BadBy i) ↔ IsBadBy rs s i
    bad_by_is i = (
      λ e.
          of_tree
          (λ z. let y : ◌≡◌ {A = ℕ} 0 1 = cc in omega arith)
          e
          (λ t p h.
          record { tree = t; says = p; letter = (lowest_bad_is rs (letters t) i).0 (by_letter i (letters_bad t) (finite_throughout rs t) (value rs t) h) }),
      λ b. rw (parses_complete s b.tree b.says, (lowest_bad_is rs (letters b.tree) i).1 b.letter),
    )

    pub bad_by_arithmetic_is : (worth rs (tree_of s) ≡ BadByArithmetic) ↔ IsBadByArithmetic rs s
    bad_by_arithmetic_is = (
      λ e.
          of_tree
          (λ z. let y : ◌≡◌ {A = ℕ} 0 1 = cc in omega arith)
          e
          (λ t p h.
          let y = by_arithmetic (letters_bad t) (finite_throughout rs t) (value rs t) h in
          record {
            tree = t;
            says = p;
            inputs = none_good t y.0;
            parts = λ f. false≢true (sym y.1 ∙ every_all (λ u. finite (value rs u)) f);
          }),
      λ b. rw (parses_complete s b.tree b.says, good_none b.tree b.inputs) (unsound b.tree b.parts),
    )
      where
        unsound : (t : Tree) → (Every (λ u. finite (value rs u) ≡ true) (evaluated rs t) → ⊥) → worth_by none (finite_throughout rs t) (value rs t) ≡ BadByArithmetic
        unsound t n = go (finite_throughout rs t) refl
          where
            go : (f : Bool) → finite_throughout rs t ≡ f → worth_by none f (value rs t) ≡ BadByArithmetic
            go true e = absurd (n (all_every (λ u. finite (value rs u)) (evaluated rs t) e))
            go false e = refl

    pub comes_to_is : (x : Float) → (worth rs (tree_of s) ≡ Is x) ↔ ComesTo rs s x
    comes_to_is x = (
      λ e.
          of_tree
          (λ z. let y : ◌≡◌ {A = ℕ} 0 1 = cc in omega arith)
          e
          (λ t p h.
          let y = by_value x (letters_bad t) (finite_throughout rs t) (value rs t) h in
          record {
            tree = t;
            says = p;
            inputs = none_good t y.0;
            parts = all_every (λ u. finite (value rs u)) (evaluated rs t) y.1;
            is = y.2;
          }),
      λ b.
          rw (
            parses_complete s b.tree b.says,
            good_none b.tree b.inputs,
            every_all (λ u. finite (value rs u)) b.parts,
            b.is,
          ),
    )
