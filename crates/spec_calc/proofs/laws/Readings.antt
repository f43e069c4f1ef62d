-- A calculation depends on the readings of its letters only, and no reading that goes bad makes it true.
use Rattle.std.specs.Prelude.{◌≡◌, Bool, true, false, ◌&&◌, ℕ, Float}
use Rattle.std.proofs.Math.Path.{refl, ap}
use Rattle.std.proofs.Common.{sym, ◌∙◌, true≢false, inl, ⊎_elim}
use mathlib.Core.List.Memᴰ
use mathlib.Core.List.{List, [], ◌∷◌, ◌++◌, Memᴰ}
use Rattle.std.proofs.Math.Option.{Option, none, some}
use Rattle.spec_lists.specs.Select.{all, missing}
use Rattle.spec_lists.proofs.laws.Both.{both}
use Rattle.spec_lists.proofs.laws.Member.{all_member}
use Rattle.spec_calc.specs.declared.Reading.{Reading}
use Rattle.spec_calc.specs.Expression.{Tree, number_tree, letter_tree, minus, negation, binary, choice}
use Rattle.spec_calc.specs.Value.{heard, reading, value, good, letters, evaluated, finite_throughout, lowest_bad, worth_by, near_one, true_worth, holds}
use Rattle.spec_calc.specs.Readings.{GoneBad}
use Rattle.spec_calc.proofs.laws.Lowest.{lowest_none}
use Rattle.spec_calc.proofs.laws.Evaluated.{minus_throughout, negation_throughout, binary_throughout, choice_throughout}

abbrev all_good : List Reading → List ℕ → Bool
all_good rs ls = all (λ i. good (reading rs i)) ls

-- true is a calculation whose letters are all good, whose evaluated parts are all finite, and whose value is near one
pub holds_both : (rs : List Reading) (t : Tree) → holds rs t ≡ all_good rs (letters t) && (finite_throughout rs t && near_one (value rs t))
holds_both rs t =
    go (lowest_bad rs (letters t)) (finite_throughout rs t) (value rs t)
    ∙ ap (λ (b : Bool). b && (finite_throughout rs t && near_one (value rs t))) (lowest_none (λ i. good (reading rs i)) (letters t))
  where
    go : (o : Option ℕ) (f : Bool) (x : Float) → true_worth (worth_by o f x) ≡ missing o && (f && near_one x)
    go none true x = refl
    go none false x = refl
    go (some i) f x = refl

module _ (rs qs : List Reading) where
  -- each of these letters has the same reading in both
  abbrev pub Agree : List ℕ → Type 0
  Agree ls = (i : ℕ) → Memᴰ i ls → reading rs i ≡ reading qs i

  left : (ls ms : List ℕ) → Agree (ls ++ ms) → Agree ls
  left ls ms a i m = a i (Memᴰ.append_left ms m)

  right : (ls ms : List ℕ) → Agree (ls ++ ms) → Agree ms
  right ls ms a i m = a i (Memᴰ.append_right ls m)

  pub value_agrees : (t : Tree) → Agree (letters t) → value rs t ≡ value qs t
  unfolding value
  value_agrees (number_tree x) a = refl
  value_agrees (letter_tree i) a = ap heard (a i (Memᴰ.head refl))
  value_agrees (minus t) a = rw (value_agrees t a)
  value_agrees (negation t) a = rw (value_agrees t a)
  value_agrees (binary o t u) a = rw (value_agrees t (left (letters t) (letters u) a), value_agrees u (right (letters t) (letters u) a))
  value_agrees (choice c x y) a =
      let b = right (letters c) (letters x ++ letters y) a in
      rw (
        value_agrees c
            (left (letters c) (letters x ++ letters y) a),
        value_agrees x
            (left (letters x) (letters y) b),
        value_agrees y
            (right (letters x) (letters y) b),
      )

  pub throughout_agrees : (t : Tree) → Agree (letters t) → finite_throughout rs t ≡ finite_throughout qs t
  unfolding value evaluated
  throughout_agrees (number_tree x) a = refl
  throughout_agrees (letter_tree i) a = rw (a i (Memᴰ.head refl))
  throughout_agrees (minus t) a = rw (minus_throughout rs t, minus_throughout qs t, value_agrees t a, throughout_agrees t a)
  throughout_agrees (negation t) a = rw (negation_throughout rs t, negation_throughout qs t, value_agrees t a, throughout_agrees t a)
  throughout_agrees (binary o t u) a =
      let b = left (letters t) (letters u) a in
      let d = right (letters t) (letters u) a in
      rw (binary_throughout rs o t u, binary_throughout qs o t u, value_agrees t b, value_agrees u d, throughout_agrees t b, throughout_agrees u d)
  throughout_agrees (choice c x y) a =
      let b = left (letters c) (letters x ++ letters y) a in
      let d = right (letters c) (letters x ++ letters y) a in
      let e = left (letters x) (letters y) d in
      let f = right (letters x) (letters y) d in
      rw (
        choice_throughout rs c x y,
        choice_throughout qs c x y,
        value_agrees c b,
        value_agrees x e,
        value_agrees y f,
        throughout_agrees c b,
        throughout_agrees x e,
        throughout_agrees y f,
      )

  all_agree : (ls : List ℕ) → Agree ls → all_good rs ls ≡ all_good qs ls
  all_agree [] a = refl
  all_agree (i ∷ ls) a = rw (a i (Memᴰ.head refl), all_agree ls (λ j m. a j (Memᴰ.tail m)))

  pub holds_agrees : (t : Tree) → Agree (letters t) → holds rs t ≡ holds qs t
  holds_agrees t a =
      holds_both rs t ∙ rw (all_agree (letters t) a, throughout_agrees t a, value_agrees t a) (sym (holds_both qs t))

  unspoilt : GoneBad rs qs → (i : ℕ) → good (reading qs i) ≡ true → reading rs i ≡ reading qs i
  unspoilt g i e = ⊎_elim sym (λ b. absurd (true≢false (sym e ∙ b))) (g i)

  pub bad_never_true : GoneBad rs qs → (t : Tree) → holds qs t ≡ true → holds rs t ≡ true
  bad_never_true g t e =
      let h = (both (all_good qs (letters t)) (finite_throughout qs t && near_one (value qs t)) (sym (holds_both qs t) ∙ e)).0 in
      holds_agrees t (λ i m. unspoilt g i (all_member (λ j. good (reading qs j)) (letters t) h m)) ∙ e

pub gone_bad_refl : (rs : List Reading) → GoneBad rs rs
gone_bad_refl rs i = inl refl
