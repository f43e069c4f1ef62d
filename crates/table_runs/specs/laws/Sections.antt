-- Laws of the sections, one after the other.
use Rattle.std.specs.Prelude.{◌≡◌, Some, None, Bool, true, false, ◌&&◌, List, [], ◌∷◌, map, ℕ, ◌+◌, ◌*◌, ◌≤◌, ◌<◌, eqb, leb, length, drop}
use Rattle.std.proofs.Common.{sym, ap, ap₂, ◌∙◌, arith, mul-le-mul_left, eq-eqb, ne_eqb, le-leb}
use Rattle.std.proofs.Math.Bool.{and_assoc}
use Rattle.std.proofs.lemmas.Bool.{lt-leb}
use Rattle.spec_lists.specs.Select.{all}
use Rattle.spec_file.specs.Limit.{Section, order, most, most_bytes}
use Rattle.spec_table.specs.Layout.{sections, width, form, header_bytes}
use Rattle.spec_table.specs.View.{form_of, total_of, strings_order, count_of, offset_of, extent, strings_extent, extents, view}
use Rattle.spec_table.specs.Check.{in_turn, sections_stand, counts_fit}
use Rattle.spec_table.proofs.laws.Fields.{view_count, strings_count}
use Rattle.table_fields.specs.laws.Fields.{width_small}
use Rattle.table_runs.specs.Follow.{Follow, ends_stand}
use Rattle.table_runs.specs.laws.Follow.{starts_here, starts_elsewhere}

-- the bytes of a section
pub bytes_small : (c : ℕ) (s : Section) {w : ℕ} → c < 65536 → w ≡ width s → c * (w * 2) ≤ 1048576
bytes_small c s {w} h e = let t = width_small s in let l : w * 2 ≤ 14 = omega arith in omega (arith, mul-le-mul_left c l)

module _ (b : List ℕ) (s : Section) (at limit : ℕ) where
  pub section_here :
      {o c w : ℕ} → o ≡ offset_of b (order s) → c ≡ count_of b (order s) → w ≡ width s → o ≡ at → at + c * (w * 2) ≤ limit
      → Follow (extent b s ∷ []) at limit (Some (at + c * (w * 2)))
  section_here {c = c} {w = w} p q r x l =
      starts_here (extent b s) at limit (at + c * (w * 2)) (sym p ∙ x) (ap₂ (λ (k m : ℕ). at + k * (m * 2)) (sym q) (sym r)) l

  pub section_elsewhere : {o : ℕ} → o ≡ offset_of b (order s) → (o ≡ at → ⊥) → Follow (extent b s ∷ []) at limit None
  section_elsewhere p x = starts_elsewhere (extent b s) at limit (λ e. x (p ∙ e))

-- the header, then the sections
module _ (b : List ℕ) where
  pub no_header : length b < header_bytes → sections_stand b ≡ false
  no_header h = rw (lt-leb header_bytes (length b) h)

  module _ (h : header_bytes ≤ length b) where
    pub other_form : {f : ℕ} → f ≡ form_of b → (f ≡ 1 → ⊥) → sections_stand b ≡ false
    other_form p x = rw (le-leb header_bytes (length b) h, ne_eqb (form_of b) form (λ e. x (p ∙ e)))

    module _ {f : ℕ} (p : f ≡ form_of b) (x : f ≡ 1) where
      opened : sections_stand b ≡ in_turn header_bytes (extents b) (total_of b) && leb (total_of b) (length b)
      opened = rw (le-leb header_bytes (length b) h, eq-eqb (form_of b) form (sym p ∙ x))

      pub sections_gap : {l : ℕ} → Follow (map (extent b) sections) header_bytes l None → sections_stand b ≡ false
      sections_gap t = opened ∙ rw (t.same (strings_extent b ∷ []) (total_of b))

      pub sections_reach : {l at : ℕ} → Follow (map (extent b) sections) header_bytes l (Some at) → sections_stand b ≡ ends_stand b at
      sections_reach {at = at} t =
          opened
          ∙ ap (λ (x : Bool). x && leb (total_of b) (length b)) (t.same (strings_extent b ∷ []) (total_of b))
          ∙ and_assoc (eqb (offset_of b strings_order) at) (eqb (at + count_of b strings_order) (total_of b)) (leb (total_of b) (length b))

-- how many records there are
abbrev pub few : List ℕ → Section → Bool
few b s = leb (length ((view b).records s)) (most s)

pub few_is : (b : List ℕ) (s : Section) {m c : ℕ} → m ≡ most s → c ≡ count_of b (order s) → leb c m ≡ few b s
few_is b s p q = ap₂ leb (q ∙ sym (view_count b s)) p

pub counts_are :
    (b : List ℕ) {r : Bool} {c : ℕ} → sections_stand b ≡ true → r ≡ all (few b) sections → c ≡ count_of b strings_order
    → r && leb c most_bytes ≡ counts_fit (view b)
counts_are b h e p = ap₂ ◌&&◌ e (ap (λ (k : ℕ). leb k most_bytes) (p ∙ sym (strings_count b h)))
