-- The letter that rules give is that of the first rule which a letter alone stops, of those above an access.
use Rattle.std.specs.Prelude.{◌≡◌, refl, Bool, true, false, cond, List, [], ◌∷◌, ◌++◌, ◌↔◌, ℕ, suc, ◌≤◌, ◌<◌, leb}
use Rattle.std.proofs.Common.{sym, ap, ◌∙◌, arith, leb-true, le-leb}
use Rattle.std.proofs.Math.Option.{Option, none, some}
use Rattle.spec_lists.specs.Every.{Every, nil, cons}
use Rattle.spec_lists.proofs.laws.Both.{both}
use Rattle.spec_lists.proofs.laws.Member.{every_member}
use Rattle.spec_calc.specs.declared.Reading.{Reading}
use Rattle.spec_calc.specs.declared.Worth.{Worth}
use Rattle.spec_calc.specs.declared.Worth.TheVariants.{NoCalculation, BadBy, BadByArithmetic, Is}
use Rattle.spec_calc.specs.Value.{near_one, worth}
use Rattle.spec_calc.specs.Reader.{tree_of}
use Rattle.spec_calc.specs.Answer.{IsBadBy}
use Rattle.spec_calc.proofs.laws.Letters.{letters_bounded}
use Rattle.spec_calc.proofs.laws.Worth.{bad_by_is}
use Rattle.spec_rule.specs.declared.Access.{Access}
use Rattle.spec_rule.specs.declared.Stop.{Stop}
use Rattle.spec_rule.specs.declared.Stop.TheVariants.{Nothing, Letter}
use Rattle.spec_rule.specs.declared.Outcome.{Outcome}
use Rattle.spec_rule.specs.declared.Outcome.TheVariants as outcomes
use Rattle.spec_rule.specs.Question.{Question}
use Rattle.spec_rule.specs.Rule.{Rule, rank, without_calculation, stands, judged, outcome, stop_above, stop_by, or_else, letter_by}
use Rattle.spec_rule.specs.Privilege.{StoppedBy, StoppedAbove, FirstSuch}
use Rattle.spec_rule.proofs.laws.Passing.{passes_stands}
use Rattle.spec_rule.proofs.laws.Asked.{passes_is}

judged_bad : (w : Worth) (i : ℕ) → judged w ≡ outcomes.Stopped i → w ≡ BadBy i
judged_bad NoCalculation i e = let z : ◌≡◌ {A = ℕ} 0 1 = cc in absurd (omega arith)
judged_bad (BadBy j) i e = let z : j ≡ i = cc in ap BadBy z
judged_bad BadByArithmetic i e = let z : ◌≡◌ {A = ℕ} 0 1 = cc in absurd (omega arith)
judged_bad (Is x) i e = near (near_one x) e
  where
    near : (b : Bool) → cond b outcomes.True outcomes.False ≡ outcomes.Stopped i → Is x ≡ BadBy i
    near true g = let z : ◌≡◌ {A = ℕ} 0 1 = cc in absurd (omega arith)
    near false g = let z : ◌≡◌ {A = ℕ} 0 1 = cc in absurd (omega arith)

-- a calculation that comes to a stop is there, and bad by that letter
outcome_bad : (rs : List Reading) (o : Option (List ℕ)) (i : ℕ) → outcome rs o ≡ outcomes.Stopped i → (s : List ℕ) × (o ≡ some s) × IsBadBy rs s i
outcome_bad rs none i e = let z : ◌≡◌ {A = ℕ} 0 1 = cc in absurd (omega arith)
outcome_bad rs (some s) i e = (s, refl, (bad_by_is rs s i).0 (judged_bad (worth rs (tree_of s)) i e))

-- it is one of A to U
pub stopped_small : (rs : List Reading) (o : Option (List ℕ)) (i : ℕ) → outcome rs o ≡ outcomes.Stopped i → i ≤ 20
stopped_small rs o i e =
    let h = outcome_bad rs o i e in
    let b = h.2 in
    every_member (letters_bounded h.0 b.tree b.says) b.letter.among

module _ (q : Question) where
  stopped_sound : (r : Rule) (i : ℕ) → stands q r ≡ true → outcome q.readings r.calculation ≡ outcomes.Stopped i → StoppedBy q r i
  stopped_sound r i h e =
      let b = outcome_bad q.readings r.calculation i e in
      record {
        calculation = b.0;
        has = b.1;
        bad = b.2;
        otherwise = (passes_is q (without_calculation r)).0 (passes_stands q (without_calculation r) ∙ rw h);
      }

  stopped_stands : (r : Rule) {i : ℕ} → StoppedBy q r i → stands q r ≡ true
  stopped_stands r p =
      (both (stands q r) true (sym (passes_stands q (without_calculation r)) ∙ (passes_is q (without_calculation r)).1 p.otherwise)).0

  stopped_outcome : (r : Rule) {i : ℕ} → StoppedBy q r i → outcome q.readings r.calculation ≡ outcomes.Stopped i
  stopped_outcome r {i} p = rw (p.has, (bad_by_is q.readings p.calculation i).1 p.bad)

  pub stopped_known : (r : Rule) {i : ℕ} → StoppedBy q r i → i ≤ 20
  stopped_known r {i} p = stopped_small q.readings r.calculation i (stopped_outcome r p)

  module _ (a : Access) where
    stop_sound : (r : Rule) (i : ℕ) → stop_by q a r ≡ Letter i → (rank a < rank r.permission) × StoppedBy q r i
    stop_sound r i e = go (stands q r) (outcome q.readings r.calculation) refl refl e
      where
        go :
            (s : Bool) (o : Outcome) → stands q r ≡ s → outcome q.readings r.calculation ≡ o → cond s (stop_above a r.permission o) Nothing ≡ Letter i
            → (rank a < rank r.permission) × StoppedBy q r i
        go true outcomes.True h f g = let z : ◌≡◌ {A = ℕ} 0 1 = cc in absurd (omega arith)
        go true outcomes.False h f g = let z : ◌≡◌ {A = ℕ} 0 1 = cc in absurd (omega arith)
        go true (outcomes.Stopped j) h f g = by (leb (suc (rank a)) (rank r.permission)) refl g
          where
            by : (b : Bool) → leb (suc (rank a)) (rank r.permission) ≡ b → cond b (Letter j) Nothing ≡ Letter i → (rank a < rank r.permission) × StoppedBy q r i
            by true l k = let z : j ≡ i = cc in (leb-true (suc (rank a)) (rank r.permission) l, stopped_sound r i h (f ∙ ap outcomes.Stopped z))
            by false l k = let z : ◌≡◌ {A = ℕ} 0 1 = cc in absurd (omega arith)
        go false o h f g = let z : ◌≡◌ {A = ℕ} 0 1 = cc in absurd (omega arith)

    stop_complete : (r : Rule) (i : ℕ) → rank a < rank r.permission → StoppedBy q r i → stop_by q a r ≡ Letter i
    stop_complete r i l p = rw (stopped_stands r p, stopped_outcome r p, le-leb (suc (rank a)) (rank r.permission) l)

    abbrev pub FirstStopped : List Rule → ℕ → Type 0
    FirstStopped rs i = (r : Rule) × FirstSuch (StoppedAbove q a) rs r × StoppedBy q r i

    not_stopped : (r : Rule) → stop_by q a r ≡ Nothing → StoppedAbove q a r → ⊥
    not_stopped r e p =
        let z : Nothing ≡ Letter p.1.0 = sym e ∙ stop_complete r p.1.0 p.0 p.1.1 in
        let y : ◌≡◌ {A = ℕ} 0 1 = cc in
        omega arith

    letter_sound : (rs : List Rule) (i : ℕ) → letter_by q a rs ≡ Letter i → FirstStopped rs i
    letter_sound [] i e = let z : ◌≡◌ {A = ℕ} 0 1 = cc in absurd (omega arith)
    letter_sound (r ∷ rs) i e = go (stop_by q a r) refl (letter_sound rs i) e
      where
        go : (s : Stop) → stop_by q a r ≡ s → (letter_by q a rs ≡ Letter i → FirstStopped rs i) → or_else s (letter_by q a rs) ≡ Letter i → FirstStopped (r ∷ rs) i
        go Nothing h f g =
            let w = f g in
            let x = w.1 in (
              w.0,
              record {
                earlier = r ∷ x.earlier;
                later = x.later;
                among = ap (λ (l : List Rule). r ∷ l) x.among;
                before = cons (not_stopped r h) x.before;
                such = x.such;
              },
              w.2,
            )
        go (Letter j) h f g =
            let z : stop_by q a r ≡ Letter i = h ∙ g in
            let p = stop_sound r i z in
            (r, record { earlier = []; later = rs; among = refl; before = nil; such = (p.0, (i, p.1)) }, p.1)

    letter_reached :
        (early late : List Rule) (r : Rule) (i : ℕ) → Every (λ x. StoppedAbove q a x → ⊥) early → rank a < rank r.permission → StoppedBy q r i
        → letter_by q a (early ++ (r ∷ late)) ≡ Letter i
    letter_reached [] late r i n l p = rw (stop_complete r i l p)
    letter_reached (x ∷ early) late r i (cons n ns) l p = go (stop_by q a x) refl (letter_reached early late r i ns l p)
      where
        go : (s : Stop) → stop_by q a x ≡ s → letter_by q a (early ++ (r ∷ late)) ≡ Letter i → or_else s (letter_by q a (early ++ (r ∷ late))) ≡ Letter i
        go Nothing h f = f
        go (Letter j) h f = let y = stop_sound x j h in absurd (n (y.0, (j, y.1)))

    pub letter_is : (rs : List Rule) (i : ℕ) → (letter_by q a rs ≡ Letter i) ↔ FirstStopped rs i
    letter_is rs i = (
      letter_sound rs i,
      λ w. let x = w.1 in rw x.among (letter_reached x.earlier x.later w.0 i x.before x.such.0 w.2),
    )
