-- A rule passes: the functions that decide it agree with what 001 asks.
use Rattle.std.specs.Prelude.{◌≡◌, refl, Bool, true, not, ◌&&◌, List, [], ◌∷◌, ◌↔◌, ℕ, leb}
use Rattle.std.proofs.Common.{sym, ap, subst, ◌∙◌, inl, inr, arith, leb-true, le-leb}
use Rattle.std.proofs.lemmas.Bool.{false≢true, not-true}
use Rattle.std.proofs.Math.Option.{Option, none, some}
use Rattle.std.specs.Float.Ieee.{lt}
use Rattle.spec_lists.specs.Text.{same, lowered}
use Rattle.spec_lists.specs.Select.{all, any}
use Rattle.spec_lists.proofs.laws.Both.{both}
use Rattle.spec_lists.proofs.laws.Same.{same_is}
use Rattle.spec_lists.proofs.laws.Every.{every_all, all_every}
use Rattle.spec_calc.specs.declared.Reading.{Reading}
use Rattle.spec_calc.specs.Expression.{Tree}
use Rattle.spec_calc.specs.Value.{reading, good, letters, value, finite, evaluated, finite_throughout, lower_bound, upper_bound, near_one}
use Rattle.spec_calc.specs.Reader.{tree_of}
use Rattle.spec_calc.proofs.laws.Readings.{holds_both}
use Rattle.spec_calc.proofs.laws.Theorem.{parses_sound, parses_complete}
use Rattle.spec_rule.specs.Question.{Question}
use Rattle.spec_rule.specs.Rule.{Rule, belongs, matches_question, true_tree, calculation_holds, asks, passes}
use Rattle.spec_rule.specs.Privilege.{Belongs, YieldsTrue, Asks, Passes}
use Rattle.spec_rule.proofs.laws.Matching.{matches_client_is}
use Rattle.spec_rule.proofs.laws.Such.{any_some, some_any}

module _ {Matches : List ℕ → Type 0} (matches : List ℕ → Bool) (decides : (m : List ℕ) → (matches m ≡ true) ↔ Matches m) where
  belongs_sound : (groups : List (List (List ℕ))) → belongs matches groups ≡ true → Belongs Matches groups
  belongs_sound [] e = inl refl
  belongs_sound (g ∷ gs) e = inr (any_some (any matches) (λ members. (any_some matches decides members, some_any matches decides)) (g ∷ gs) e)

  belongs_complete : (groups : List (List (List ℕ))) → Belongs Matches groups → belongs matches groups ≡ true
  belongs_complete [] b = refl
  belongs_complete (g ∷ gs) (inl e) = let z : ◌≡◌ {A = ℕ} 0 1 = cc in absurd (omega arith)
  belongs_complete (g ∷ gs) (inr s) = some_any (any matches) (λ members. (any_some matches decides members, some_any matches decides)) s

module _ (rs : List Reading) where
  yields : (s : List ℕ) → true_tree rs (tree_of s) ≡ true → YieldsTrue rs s
  yields s e = go (tree_of s) refl e
    where
      go : (o : Option Tree) → tree_of s ≡ o → true_tree rs o ≡ true → YieldsTrue rs s
      go none p h = absurd (false≢true h)
      go (some t) p h =
          let x = both (all (λ i. good (reading rs i)) (letters t)) (finite_throughout rs t && near_one (value rs t)) (sym (holds_both rs t) ∙ h) in
          let f = both (finite_throughout rs t) (near_one (value rs t)) x.1 in
          let y = both (lt lower_bound (value rs t)) (lt (value rs t) upper_bound) f.1 in
          record {
            tree = t;
            says = parses_sound s t p;
            inputs = all_every (λ i. good (reading rs i)) (letters t) x.0;
            parts = all_every (λ u. finite (value rs u)) (evaluated rs t) f.0;
            above = y.0;
            below = y.1;
          }

  calculation_sound : (o : Option (List ℕ)) → calculation_holds rs o ≡ true → (s : List ℕ) → o ≡ some s → YieldsTrue rs s
  calculation_sound none e s h = let z : ◌≡◌ {A = ℕ} 0 1 = cc in absurd (omega arith)
  calculation_sound (some u) e s h = let same : u ≡ s = cc in subst (YieldsTrue rs) same (yields u e)

  calculation_complete : (o : Option (List ℕ)) → ((s : List ℕ) → o ≡ some s → YieldsTrue rs s) → calculation_holds rs o ≡ true
  calculation_complete none f = refl
  calculation_complete (some s) f =
      let y = f s refl in
      ap (true_tree rs) (parses_complete s y.tree y.says)
      ∙ holds_both rs y.tree
      ∙ rw (every_all (λ i. good (reading rs i)) y.inputs, every_all (λ u. finite (value rs u)) y.parts, y.above, y.below)

  pub calculation_is : (s : List ℕ) → (calculation_holds rs (some s) ≡ true) ↔ YieldsTrue rs s
  calculation_is s = (λ e. calculation_sound (some s) e s refl, λ y. calculation_complete (some s) (λ u e. let same : s ≡ u = cc in subst (YieldsTrue rs) same y))

module _ (q : Question) (r : Rule) where
  asks_sound : asks r q ≡ true → Asks q r
  asks_sound e =
      let u = belongs (matches_question q) r.uags in
      let h = belongs (same (lowered q.host)) r.hags in
      let c = calculation_holds q.readings r.calculation in
      let y = both (leb q.level r.level) (u && (h && c)) e in
      let z = both u (h && c) y.1 in
      let w = both h c z.1 in
      record {
        level = leb-true q.level r.level y.0;
        user = belongs_sound (matches_question q) (matches_client_is q.user q.roles) r.uags z.0;
        host = belongs_sound (same (lowered q.host)) (same_is (lowered q.host)) r.hags w.0;
        calculation = calculation_sound q.readings r.calculation w.1;
      }

  asks_complete : Asks q r → asks r q ≡ true
  asks_complete p =
      rw (
        le-leb q.level r.level p.level,
        belongs_complete (matches_question q) (matches_client_is q.user q.roles) r.uags p.user,
        belongs_complete (same (lowered q.host)) (same_is (lowered q.host)) r.hags p.host,
        calculation_complete q.readings r.calculation p.calculation,
      )

  pub asks_is : (asks r q ≡ true) ↔ Asks q r
  asks_is = (asks_sound, asks_complete)

  passes_sound : passes q r ≡ true → Passes q r
  passes_sound e =
      let x = both (not r.switched_off) (asks r q) e in
      record { asked = asks_sound x.1; known = not-true r.switched_off x.0 }

  passes_complete : Passes q r → passes q r ≡ true
  passes_complete p = rw p.known (asks_complete p.asked)

  pub passes_is : (passes q r ≡ true) ↔ Passes q r
  passes_is = (passes_sound, passes_complete)
