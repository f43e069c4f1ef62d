-- The letters of an access group, one by one.
use Rattle.std.specs.Prelude.{◌≡◌, refl, Bool, true, false, ◌||◌, List, [], ◌∷◌, map, ℕ, zero, suc, ◌+◌, ◌≤◌, ◌<◌, eqb, leb, length, get_or, set, replicate}
use Rattle.std.proofs.Common.{sym, ap, ◌∙◌, arith, length-set, get_or-set_same, get_or-set_other, eqb-true, leb-true}
use Rattle.std.proofs.lemmas.Bool.{eqb-false}
use Rattle.std.specs.declared.ops.Range.{Range}
use Rattle.spec_lists.specs.Select.{any}
use Rattle.spec_lists.specs.Runs.{Run, part}
use Rattle.spec_lists.proofs.laws.Any.{any_same, or_between}
use Rattle.spec_lists.proofs.laws.Every.{all_every, every_at}
use Rattle.spec_lists.proofs.laws.Joined.{map_map}
use Rattle.spec_token.specs.Word.{greatest_letter}
use Rattle.spec_file.specs.Limit.{access_groups, inputs}
use Rattle.spec_table.specs.View.{view}
use Rattle.spec_table.specs.Table.{inputs_run, letter_field}
use Rattle.spec_table.specs.Policy.{row}
use Rattle.spec_table.proofs.laws.Standing.{stands, inputs_within}
use Rattle.spec_table.proofs.laws.Table.{table_is}
use Rattle.spec_text.specs.Faults.{repeated}
use Rattle.spec_export.specs.Says.{link_in}
use Rattle.table_read.specs.Stored.{Stored, word_of}
use Rattle.text_marks.specs.Names.{run}
use Rattle.text_marks.specs.laws.Names.{Turn, run_is, part_turn}
use Rattle.text_letters.specs.Letters.{letters_in}

-- a table's letters are those of the array
pub letter_low : (b : List ℕ) (i : ℕ) → Stored b inputs i → word_of b inputs i 0 < 21
letter_low b i h =
    let t = (table_is b).0 h.table in
    let e = every_at i [] refl (all_every (λ (w : List ℕ). leb (letter_field w) greatest_letter) ((view b).records inputs) t.letters) in
    omega (arith, leb-true (word_of b inputs i 0) 20 e)

-- ---- the array, with one letter more

module _ (given : List Bool) (k : ℕ) (h : k < length given) where
  -- t says whether l is that letter
  set_is :
      (l : ℕ) (t : Bool) → (t ≡ true → l ≡ k) → (t ≡ false → l ≡ k → ⊥) → get_or (set given k true) l false ≡ t || get_or given l false
  set_is l true e n = let z : l ≡ k = e refl in rw z (get_or-set_same given k true false h)
  set_is l false e n = get_or-set_other given k l true false (n refl)

  set_letter : (l : ℕ) → get_or (set given k true) l false ≡ eqb l k || get_or given l false
  set_letter l = set_is l (eqb l k) (eqb-true l k) (eqb-false l k)

  set_seen : (l : ℕ) → get_or (set given k true) l false ≡ eqb k l || get_or given l false
  set_seen l = set_is l (eqb k l) (λ e. sym (eqb-true k l e)) (λ e z. eqb-false k l e (sym z))

none_given : (n l : ℕ) → get_or (replicate n false) l false ≡ false
none_given zero l = refl
none_given (suc n) zero = refl
none_given (suc n) (suc l) = none_given n l

abbrev seen : List Bool → ℕ → Bool
seen given l = get_or given l false

any_none : (xs : List ℕ) → any (seen (replicate 21 false)) xs ≡ false
any_none [] = refl
any_none (x ∷ xs) = rw (none_given 21 x) (any_none xs)

any_either : {A : Type 0} (p q : A → Bool) (xs : List A) → any (λ x. p x || q x) xs ≡ any p xs || any q xs
any_either p q [] = refl
any_either p q (x ∷ xs) = ap (λ (t : Bool). (p x || q x) || t) (any_either p q xs) ∙ mix (p x) (q x) (any p xs) (any q xs)
  where
    mix : (a b c d : Bool) → (a || b) || (c || d) ≡ (a || c) || (b || d)
    mix true b c d = refl
    mix false true true d = refl
    mix false true false d = refl
    mix false false c d = refl

-- ---- what a loop over the inputs knows

-- the letters of the inputs whose numbers are in a range
abbrev pub left : List ℕ → Range ℕ → List ℕ
left b r = map letter_field (part (run r) ((view b).records inputs))

module _ (b : List ℕ) (g : ℕ) where
  -- some of the letters are in given, the others are those of the inputs in a range
  pub record Gathers (given : List Bool) (r : Range ℕ) : Type 0 where
    pub each : (l : ℕ) → get_or given l false || any (eqb l) (left b r) ≡ any (eqb l) (letters_in b g)
    pub long : length given ≡ 21
    pub inside : r.end ≤ length ((view b).records inputs)

  -- no letter stood twice so far, and those that stood are in given
  pub record Single (given : List Bool) (r : Range ℕ) : Type 0 where
    pub rest : repeated eqb (letters_in b g) ≡ any (λ l. get_or given l false) (left b r) || repeated eqb (left b r)
    pub long : length given ≡ 21
    pub inside : r.end ≤ length ((view b).records inputs)

  -- at first the range is the run of the group
  module _
      (h : Stored b access_groups g) {r : Range ℕ} (e : r.start ≡ word_of b access_groups g 2)
      (f : r.end ≡ word_of b access_groups g 2 + word_of b access_groups g 3)
    where
      all_inside : r.end ≤ length ((view b).records inputs)
      all_inside = omega (arith, inputs_within (view b) (stands b h.table).1 g h.inside, f)

      all_left : left b r ≡ letters_in b g
      all_left =
          let run_of : Run = inputs_run (row (view b) access_groups g) in
          ap (λ (v : Run). map letter_field (part v ((view b).records inputs))) (run_is {v = run_of} e f)
          ∙ sym (map_map (λ i. i.letter) (link_in (view b)) (part run_of ((view b).records inputs)))

      pub gathers_first : Gathers (replicate 21 false) r
      gathers_first = record { each = λ l. rw (none_given 21 l, all_left); long = refl; inside = all_inside }

      pub single_first : Single (replicate 21 false) r
      single_first = record { rest = rw (all_left, any_none (letters_in b g)); long = refl; inside = all_inside }

  module _ {r t : Range ℕ} {i : ℕ} (u : Turn r i t) where
    left_on : r.end ≤ length ((view b).records inputs) → left b r ≡ word_of b inputs i 0 ∷ left b t
    left_on h = ap (map letter_field) (part_turn ((view b).records inputs) [] r u h)

    pub gathers_turn : {given : List Bool} {k : ℕ} → k ≡ word_of b inputs i 0 → k < 21 → Gathers given r → Gathers (set given k true) t
    gathers_turn {given} {k} e w v =
        record {
          each = λ x.
              ap (λ (s : Bool). s || any (eqb x) (left b t)) (set_letter given k (omega (arith, v.long)) x)
              ∙ or_between (get_or given x false) (eqb x k) (any (eqb x) (left b t))
              ∙ ap (λ (s : ℕ). get_or given x false || (eqb x s || any (eqb x) (left b t))) e
              ∙ ap (λ (ls : List ℕ). get_or given x false || any (eqb x) ls) (sym (left_on v.inside))
              ∙ v.each x;
          long = length-set given k true ∙ v.long;
          inside = omega (arith, v.inside, u.0);
        }

    module _ {given : List Bool} {k : ℕ} (e : k ≡ word_of b inputs i 0) (v : Single given r) where
      single_on : repeated eqb (letters_in b g) ≡ (seen given k || any (seen given) (left b t)) || (any (eqb k) (left b t) || repeated eqb (left b t))
      single_on =
          v.rest
          ∙ ap (λ (ls : List ℕ). any (seen given) ls || repeated eqb ls) (left_on v.inside ∙ ap (λ (s : ℕ). s ∷ left b t) (sym e))

      pub single_hit : seen given k ≡ true → true ≡ repeated eqb (letters_in b g)
      single_hit s = sym (single_on ∙ rw s)

      pub single_turn : k < 21 → seen given k ≡ false → Single (set given k true) t
      single_turn w s =
          record {
            rest =
                single_on
                ∙ rw s
                (sym (or_between (any (seen given) (left b t)) (any (eqb k) (left b t)) (repeated eqb (left b t)))
                ∙ ap (λ (x : Bool). x || repeated eqb (left b t))
                (sym (any_either (eqb k) (seen given) (left b t))
                ∙ sym (any_same (seen (set given k true)) (λ x. eqb k x || seen given x) (set_seen given k (omega (arith, v.long))) (left b t))));
            long = length-set given k true ∙ v.long;
            inside = omega (arith, v.inside, u.0);
          }
