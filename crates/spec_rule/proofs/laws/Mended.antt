-- What a letter tells: with readings that make the calculation of that rule true, the access is at least its permission.
use Rattle.std.specs.Prelude.{◌≡◌, refl, List, [], ◌∷◌, ◌++◌, ℕ, ◌≤◌}
use Rattle.std.proofs.Common.{sym, subst, ◌∙◌, arith, le_refl}
use Rattle.std.proofs.Math.Option.{Option, some}
use Rattle.spec_calc.specs.declared.Reading.{Reading}
use Rattle.spec_rule.specs.declared.Access.{Access}
use Rattle.spec_rule.specs.declared.Access.TheVariants as access
use Rattle.spec_rule.specs.declared.Stop.TheVariants.{Letter}
use Rattle.spec_rule.specs.declared.Decision.{Decision}
use Rattle.spec_rule.specs.Question.{Question, reading_instead}
use Rattle.spec_rule.specs.Rule.{Rule, rank}
use Rattle.spec_rule.specs.Privilege.{Some, here, further, FirstSuch, Answers, MakesTrue, Passes, Greatest, StoppedBy, StoppedAbove, Chosen}
use Rattle.spec_rule.specs.Privilege.{Determined, by_group, by_no_group}
use Rattle.spec_rule.specs.Letter.{Tells}
use Rattle.spec_rule.proofs.laws.Privilege.{answering_is}

-- the greatest access is at least each that is given
greatest_least : {Given : Access → Type 0} (a p : Access) → Greatest Given a → Given p → rank p ≤ rank a
greatest_least a access.None g h = omega arith
greatest_least access.None access.Read g h = absurd ((g.neither.0 refl).1 h)
greatest_least access.Read access.Read g h = le_refl 1
greatest_least access.Write access.Read g h = omega arith
greatest_least a access.Write g h = rw (g.write.1 h) (le_refl 2)

given_among : {A : Type 0} {P : A → Type 0} (early late : List A) (x : A) → P x → Some P (early ++ (x ∷ late))
given_among [] late x h = here h
given_among (y ∷ early) late x h = further (given_among early late x h)

module _ (q : Question) (r : Rule) {i : ℕ} (p : StoppedBy q r i) (better : List Reading) (t : MakesTrue better r) where
  mended_passes : Passes (reading_instead q better) r
  mended_passes =
      let o = p.otherwise in
      record { asked = record { level = o.asked.level; user = o.asked.user; host = o.asked.host; calculation = t }; known = o.known }

  mended_chosen :
      (rs : List Rule) (a : Access) (e : Decision) → FirstSuch (StoppedAbove q a) rs r → Chosen (reading_instead q better) rs e
      → rank r.permission ≤ rank e.access
  mended_chosen rs a e f c =
      greatest_least
      e.access
      r.permission
      c.maximum
      (rw f.among (given_among f.earlier f.later r (mended_passes, refl)))

module _ {G : Type 0} (name : G → List ℕ) (rules : G → List Rule) (gs : List G) where
  one_answers : (n : List ℕ) {o p : Option G} → Answers name n gs o → Answers name n gs p → o ≡ p
  one_answers n {o} {p} x y = sym ((answering_is name n gs o).1 x) ∙ (answering_is name n gs p).1 y

  -- the decision with other readings is by the same group
  mended_determined :
      (q : Question) (r : Rule) {i : ℕ} → StoppedBy q r i → (better : List Reading) → MakesTrue better r
      → (g : G) → Answers name q.group gs (some g) → (a : Access) → FirstSuch (StoppedAbove q a) (rules g) r
      → (e : Decision) → Determined name rules gs (reading_instead q better) e → rank r.permission ≤ rank e.access
  mended_determined q r p better t g s a f e (by_group {g = h} x c) =
      let z : h ≡ g = let y = one_answers q.group x s in cc in
      mended_chosen q r p better t (rules g) a e f (subst (λ (k : G). Chosen (reading_instead q better) (rules k) e) z c)
  mended_determined q r p better t g s a f e (by_no_group x) =
      let y = one_answers q.group x s in
      let z : ◌≡◌ {A = ℕ} 0 1 = cc in
      absurd (omega arith)

  pub tells :
      (q : Question) {d : Decision} {i : ℕ} → Determined name rules gs q d → d.letter ≡ Letter i
      → (access_at : List Reading → Access)
      → ((better : List Reading) → (e : Decision) × Determined name rules gs (reading_instead q better) e × (access_at better ≡ e.access))
      → Tells name rules gs q d i access_at
  tells q {d} {i} (by_group {g = g} s c) l access_at others =
      let w = (c.letter i).0 l in
      record {
        group = g;
        searched = s;
        rule = w.0;
        first = w.1;
        stopped = w.2;
        mended =
            λ better t.
            let o = others better in
            rw o.2 (mended_determined q w.0 w.2 better t g s d.access w.1 o.0 o.1);
      }
  tells q (by_no_group s) l access_at others = let z : ◌≡◌ {A = ℕ} 0 1 = cc in absurd (omega arith)
