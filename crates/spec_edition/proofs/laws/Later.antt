-- Our rules against the later edition's, rule by rule and then for the access.
use Rattle.std.specs.Prelude.{◌≡◌, refl, Bool, true, false, not, ◌&&◌, List, [], ◌∷◌, map, ℕ, ◌≤◌, leb}
use Rattle.std.proofs.Common.{sym, ap}
use Rattle.std.proofs.lemmas.Bool.{false≢true}
use Rattle.std.proofs.Math.Option.{Option, none, some}
use Rattle.spec_lists.specs.Text.{same, lowered}
use Rattle.spec_lists.specs.Select.{all, nonempty, select, prepend_if}
use Rattle.spec_lists.proofs.laws.Both.{both}
use Rattle.spec_lists.specs.Every.{Every, nil, cons}
use Rattle.spec_calc.specs.declared.Reading.{Reading}
use Rattle.spec_calc.specs.Expression.{Tree}
use Rattle.spec_calc.specs.Readings.{GoneBad}
use Rattle.spec_calc.proofs.laws.Readings.{bad_never_true}
use Rattle.spec_calc.specs.Reader.{tree_of}
use Rattle.spec_rule.specs.Question.{Question, reading_instead}
use Rattle.spec_rule.specs.Rule.{Rule, rank, belongs, matches_question, true_tree, calculation_holds, asks, passes, greater, greatest, access_by}
use Rattle.spec_rule.proofs.laws.Fewer.{greatest_fewer}
use Rattle.spec_file.specs.Contents.{RuleText, File}
use Rattle.spec_file.specs.Meaning.{rule_in}
use Rattle.spec_edition.specs.Edition.{Edition}
use Rattle.spec_edition.specs.Machine.{passes_later, access_by_rules}

-- ---- readings that have gone bad make no calculation true

tree_true : (rs qs : List Reading) → GoneBad rs qs → (o : Option Tree) → true_tree qs o ≡ true → true_tree rs o ≡ true
tree_true rs qs g none e = e
tree_true rs qs g (some t) e = bad_never_true rs qs g t e

pub calculation_worse : (rs qs : List Reading) → GoneBad rs qs → (c : Option (List ℕ)) → calculation_holds qs c ≡ true → calculation_holds rs c ≡ true
calculation_worse rs qs g none e = refl
calculation_worse rs qs g (some s) e = tree_true rs qs g (tree_of s) e

pub asks_worse : (r : Rule) (q : Question) (qs : List Reading) → GoneBad q.readings qs → asks r (reading_instead q qs) ≡ true → asks r q ≡ true
asks_worse r q qs g e =
    let user = belongs (matches_question q) r.uags in
    let host = belongs (same (lowered q.host)) r.hags in
    let calculation = calculation_holds qs r.calculation in
    let x = both (leb q.level r.level) (user && (host && calculation)) e in
    let y = both user (host && calculation) x.1 in
    let z = both host calculation y.1 in
    rw (x.0, y.0, z.0) (calculation_worse q.readings qs g r.calculation z.1)

-- ---- rule by rule

module _ (e : Edition) (f : File) (q : Question) where
  -- a rule that passes, whichever readings have gone bad, has no unknown predicate and passes in the edition
  pub passes_worse :
      (qs : List Reading) → GoneBad q.readings qs → (r : RuleText) → passes (reading_instead q qs) (rule_in f r) ≡ true
      → passes_later e f q r ≡ true
  passes_worse qs g r h = go r.unknown (both (not (nonempty r.unknown)) (asks (rule_in f r) (reading_instead q qs)) h)
    where
      go : (u : List ℕ) → (not (nonempty u) ≡ true) × (asks (rule_in f r) (reading_instead q qs) ≡ true) → all (λ p. e p q) u && asks (rule_in f r) q ≡ true
      go [] w = asks_worse (rule_in f r) q qs g w.1
      go (p ∷ ps) w = absurd (false≢true w.0)

  -- where the edition says no to its unknown predicates, a rule passes in both or in neither
  pub passes_alike : (r : RuleText) → Every (λ p. e p q ≡ false) r.unknown → passes q (rule_in f r) ≡ passes_later e f q r
  passes_alike r n = go r.unknown n
    where
      go : (u : List ℕ) → Every (λ p. e p q ≡ false) u → not (nonempty u) && asks (rule_in f r) q ≡ all (λ p. e p q) u && asks (rule_in f r) q
      go [] nil = refl
      go (p ∷ ps) (cons h c) = rw h

-- ---- the access

module _ (e : Edition) (f : File) (q : Question) where
  -- never above the edition's
  pub access_never_above :
      (qs : List Reading) → GoneBad q.readings qs → (rs : List RuleText)
      → rank (access_by (reading_instead q qs) (map (rule_in f) rs)) ≤ rank (access_by_rules e f q rs)
  access_never_above qs g =
      greatest_fewer (λ r. r.permission) (rule_in f) (passes (reading_instead q qs)) (passes_later e f q) (passes_worse e f q qs g)

  -- equal to the edition's, where that says no to every unknown predicate
  pub access_alike :
      (rs : List RuleText) → Every (λ r. Every (λ p. e p q ≡ false) r.unknown) rs → access_by q (map (rule_in f) rs) ≡ access_by_rules e f q rs
  access_alike [] nil = refl
  access_alike (r ∷ rs) (cons n c) = go (passes q (rule_in f r)) (passes_later e f q r) (passes_alike e f q r n) (access_alike rs c)
    where
      go :
          (a b : Bool) → a ≡ b → access_by q (map (rule_in f) rs) ≡ access_by_rules e f q rs
          → greatest (map (λ x. x.permission) (prepend_if a (rule_in f r) (select (passes q) (map (rule_in f) rs))))
          ≡ greatest (map (λ x. x.permission) (prepend_if b r (select (passes_later e f q) rs)))
      go true true h l = ap (greater r.permission) l
      go true false h l = absurd (false≢true (sym h))
      go false true h l = absurd (false≢true h)
      go false false h l = l
