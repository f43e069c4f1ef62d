-- Where the words of a record stand.
use Rattle.std.specs.Prelude.{◌≡◌, refl, true, ◌&&◌, List, [], ◌∷◌, ℕ, zero, suc, ◌+◌, ◌*◌, ◌≤◌, ◌<◌, eqb, leb, length, take, drop, get_or}
use Rattle.std.proofs.Common.{ap, ap₂, ◌∙◌, arith, mul-le-mul_right, mul_assoc, suc-mul, length-take, length-drop, get_or-take, get_or-drop, drop-drop, take-take, leb-true, eqb-true}
use Rattle.spec_lists.proofs.laws.Both.{both}
use Rattle.spec_lists.specs.Runs.{Run, part}
use Rattle.spec_lists.specs.Words.{words, records_of}
use Rattle.spec_file.specs.Limit.{Section, order}
use Rattle.spec_table.specs.Layout.{width, form, header_bytes}
use Rattle.spec_table.specs.View.{header_word, strings_order, count_of, offset_of, extent, strings_extent, extents, form_of, total_of, view}
use Rattle.spec_table.specs.Check.{in_turn, sections_stand}
use Rattle.spec_table.proofs.laws.Bytes.{each}
use Rattle.spec_table.specs.Fields.{word_at, Between, none_between, one_between, Inside, field_place}

pub words_at : (b : List ℕ) (i : ℕ) → i * 2 + 1 < length b → get_or (words b) i 0 ≡ word_at b (i * 2)
words_at [] i h = absurd (omega arith)
words_at (lo ∷ []) i h = absurd (omega arith)
words_at (lo ∷ hi ∷ b) zero h = refl
words_at (lo ∷ hi ∷ b) (suc i) h =
    let p : suc (suc (i * 2)) ≡ suc i * 2 = omega arith in
    let q : suc (suc (i * 2 + 1)) ≡ suc i * 2 + 1 = omega arith in
    words_at b i (omega arith) ∙ ap₂ (λ (x y : ℕ). get_or (lo ∷ hi ∷ b) x 0 + get_or (lo ∷ hi ∷ b) y 0 * 256) p q

-- a word inside a part
pub part_word : (r : Run) (b : List ℕ) (i : ℕ) → i + 1 < r.count → word_at (part r b) i ≡ word_at b (r.first + i)
part_word r b i h =
    let e : r.first + (i + 1) ≡ r.first + i + 1 = omega arith in
    ap₂
    (λ (x y : ℕ). x + y * 256)
    (get_or-take r.count (drop r.first b) i 0 (omega arith) ∙ get_or-drop r.first b i 0)
    (get_or-take r.count (drop r.first b) (i + 1) 0 h ∙ get_or-drop r.first b (i + 1) 0 ∙ ap (λ (k : ℕ). get_or b k 0) e)

pub part_length : (r : Run) (b : List ℕ) → r.first + r.count ≤ length b → length (part r b) ≡ r.count
part_length r b h = omega (arith, length-take r.count (drop r.first b), length-drop r.first b)

-- a word of the header
pub header_at : (b : List ℕ) (i : ℕ) → header_bytes ≤ length b → i < 18 → header_word b i ≡ word_at b (i * 2)
header_at b i h l =
    let first_bytes : Run = record { first = 0; count = header_bytes } in
    words_at (take header_bytes b) i (omega (arith, length-take header_bytes b))
    ∙ part_word first_bytes b (i * 2) (omega arith)
    ∙ ap (word_at b) (omega arith)

pub records_count : (w n : ℕ) (ws : List ℕ) → length (records_of w n ws) ≡ n
records_count w zero ws = refl
records_count w (suc n) ws = ap suc (records_count w n (drop w ws))

-- a field of a record is a word of the section
pub records_at : (w n : ℕ) (ws : List ℕ) (i j : ℕ) → i < n → j < w → get_or (get_or (records_of w n ws) i []) j 0 ≡ get_or ws (i * w + j) 0
records_at w zero ws i j h l = absurd (omega arith)
records_at w (suc n) ws zero j h l = get_or-take w ws j 0 l ∙ ap (λ (k : ℕ). get_or ws k 0) (omega arith)
records_at w (suc n) ws (suc i) j h l =
    records_at w n (drop w ws) i j (omega arith) l
    ∙ get_or-drop w ws (i * w + j) 0
    ∙ ap (λ (k : ℕ). get_or ws k 0) (omega (arith, suc-mul i w))

taken_from : (c f n : ℕ) (l : List ℕ) → f + c ≤ n → take c (drop f (take n l)) ≡ take c (drop f l)
taken_from c zero n l h = take-take c n l (omega arith)
taken_from c (suc f) zero l h = absurd (omega arith)
taken_from c (suc f) (suc n) [] h = refl
taken_from c (suc f) (suc n) (x ∷ l) h = taken_from c f n l (omega arith)

-- a part of a part
pub part_part :
    (r q : Run) (b : List ℕ) → r.first + r.count ≤ q.count → part r (part q b) ≡ part (record { first = q.first + r.first; count = r.count }) b
part_part r q b h = taken_from r.count r.first q.count (drop q.first b) h ∙ ap (take r.count) (drop-drop r.first q.first b)

in_turn_end : (n e : ℕ) (rs : List Run) → in_turn n rs e ≡ true → n ≤ e
in_turn_end n e [] h = omega (arith, eqb-true n e h)
in_turn_end n e (r ∷ rs) h = omega (arith, in_turn_end (n + r.count) e rs (both (eqb r.first n) (in_turn (n + r.count) rs e) h).1)

between_from : {n m e : ℕ} {rs : List Run} → m ≤ n → Between n e rs → Between m e rs
between_from h none_between = none_between
between_from h (one_between {r = r} a b c) = one_between {r = r} (omega arith) b (between_from h c)

pub in_turn_between : (n e : ℕ) (rs : List Run) → in_turn n rs e ≡ true → Between n e rs
in_turn_between n e [] h = none_between
in_turn_between n e (r ∷ rs) h =
    let w = both (eqb r.first n) (in_turn (n + r.count) rs e) h in
    let f = eqb-true r.first n w.0 in
    let t = in_turn_end (n + r.count) e rs w.1 in
    one_between {r = r} (omega arith) (omega arith) (between_from (omega arith) (in_turn_between (n + r.count) e rs w.1))

-- the runs of eight sections, one by one
inside_each : (b : List ℕ) (e : ℕ) → e ≤ length b → Between header_bytes e (extents b) → ((s : Section) → Inside b (extent b s)) × Inside b (strings_extent b)
inside_each b e l
    (one_between a₁ b₁
    (one_between a₂ b₂ (one_between a₃ b₃ (one_between a₄ b₄ (one_between a₅ b₅ (one_between a₆ b₆ (one_between a₇ b₇ (one_between a₈ b₈ none_between)))))))) = (
      each
          (λ s. Inside b (extent b s))
          (in_side a₁ b₁)
          (in_side a₂ b₂)
          (in_side a₃ b₃)
          (in_side a₄ b₄)
          (in_side a₅ b₅)
          (in_side a₆ b₆)
          (in_side a₇ b₇),
      in_side a₈ b₈,
    )
  where
    in_side : {r : Run} → header_bytes ≤ r.first → r.first + r.count ≤ e → Inside b r
    in_side {r} x y = record { behind_header = x; ends = omega arith }

pub view_count : (b : List ℕ) (s : Section) → length ((view b).records s) ≡ count_of b (order s)
unfolding view
view_count b s = records_count (width s) (count_of b (order s)) (words (part (extent b s) b))

-- of bytes whose sections stand as they must
module _ (b : List ℕ) (h : sections_stand b ≡ true) where
  sections_of : (in_turn header_bytes (extents b) (total_of b) ≡ true) × (total_of b ≤ length b)
  sections_of =
      let x = both (leb header_bytes (length b)) (eqb (form_of b) form && (in_turn header_bytes (extents b) (total_of b) && leb (total_of b) (length b))) h in
      let y = both (eqb (form_of b) form) (in_turn header_bytes (extents b) (total_of b) && leb (total_of b) (length b)) x.1 in
      let z = both (in_turn header_bytes (extents b) (total_of b)) (leb (total_of b) (length b)) y.1 in
      (z.0, leb-true (total_of b) (length b) z.1)

  pub has_header : header_bytes ≤ length b
  has_header =
      leb-true header_bytes
      (length b)
      (both (leb header_bytes (length b)) (eqb (form_of b) form && (in_turn header_bytes (extents b) (total_of b) && leb (total_of b) (length b))) h).0

  pub section_inside : (s : Section) → Inside b (extent b s)
  section_inside = (inside_each b (total_of b) sections_of.1 (in_turn_between header_bytes (total_of b) (extents b) sections_of.0)).0

  pub strings_inside : Inside b (strings_extent b)
  strings_inside = (inside_each b (total_of b) sections_of.1 (in_turn_between header_bytes (total_of b) (extents b) sections_of.0)).1

  -- a field's word lies within the section
  pub field_fits : (s : Section) (i j : ℕ) → i < count_of b (order s) → j < width s → (i * width s + j) * 2 + 1 < (extent b s).count
  field_fits s i j l k =
      let n = count_of b (order s) in
      let m = mul-le-mul_right (width s) l in
      let e = mul_assoc n (width s) 2 in
      omega (arith, suc-mul i (width s))

  pub field_inside : (s : Section) (i j : ℕ) → i < count_of b (order s) → j < width s → field_place b s i j + 1 < length b
  field_inside s i j l k = omega (arith, field_fits s i j l k, (section_inside s).ends)

  pub field_at : (s : Section) (i j : ℕ) → i < count_of b (order s) → j < width s → get_or (get_or ((view b).records s) i []) j 0 ≡ word_at b (field_place b s i j)
  unfolding view
  field_at s i j l k =
      let f = field_fits s i j l k in
      records_at (width s) (count_of b (order s)) (words (part (extent b s) b)) i j l k
      ∙ words_at (part (extent b s) b) (i * width s + j) (rw (part_length (extent b s) b (section_inside s).ends) f)
      ∙ part_word (extent b s) b ((i * width s + j) * 2) f

  pub strings_count : length (view b).strings ≡ count_of b strings_order
  unfolding view
  strings_count = part_length (strings_extent b) b strings_inside.ends

  -- a string is a part of the bytes
  pub string_at :
      (r : Run) → r.first + r.count ≤ count_of b strings_order
      → part r (view b).strings ≡ part (record { first = offset_of b strings_order + r.first; count = r.count }) b
  unfolding view
  string_at r l = part_part r (strings_extent b) b l
