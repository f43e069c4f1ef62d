-- What a table's bytes hold is the content that was laid down in them.
use Rattle.std.specs.Prelude.{◌≡◌, refl, true, ◌&&◌, ℕ, ◌+◌, ◌*◌, ◌≤◌, length, take}
use Rattle.std.proofs.Common.{sym, ap₂, ◌∙◌, mul-le-mul_right, arith, le-leb, eq-eqb}
use Rattle.std.proofs.Math.Path.{ap}
use mathlib.Core.List.{List, [], ◌∷◌, ◌++◌, map, append_assoc}
use Rattle.std.proofs.Math.ListN.{get_or, length-append}
use Rattle.std.proofs.Math.Seq.{take-append_seam}
use Rattle.spec_lists.specs.Select.{joined, total}
use Rattle.spec_lists.specs.Runs.{Run, runs, part}
use Rattle.spec_lists.specs.Words.{spelled_out, words, records_of}
use Rattle.spec_lists.proofs.laws.Joined.{part_runs, joined_append}
use Rattle.spec_lists.specs.Every.{Every, nil, cons}
use Rattle.spec_lists.proofs.laws.Every.{every, every_append, every_map, every_implies}
use Rattle.spec_lists.proofs.laws.Words.{Word, Row, words_back, spelled_rows_length, spelled_rows_back}
use Rattle.spec_lists.proofs.laws.Runs.{Within, runs_within, length_joined_map}
use Rattle.spec_file.specs.Limit.{Section, user_groups, host_groups, members, access_groups, inputs, rules, references, most, most_bytes, order}
use Rattle.spec_table.specs.Layout.{Content, sections, width, form, header_bytes, blocks, entries, header, layout}
use Rattle.spec_table.specs.View.{form_of, total_of, count_of, extent, strings_extent, extents, view}
use Rattle.spec_table.specs.Check.{in_turn, sections_stand, well_formed, is_table}

-- what the bytes of a table can hold
pub record Sound (c : Content) : Type 0 where
  pub rows : (s : Section) → Every (Row (width s)) (c.records s)
  pub count : (s : Section) → length (c.records s) ≤ most s
  pub string_bytes : length c.strings ≤ most_bytes

-- section by section
pub each : (P : Section → Type 0) → P user_groups → P host_groups → P members → P access_groups → P inputs → P rules → P references → (s : Section) → P s
each P u h m a i r f user_groups = u
each P u h m a i r f host_groups = h
each P u h m a i r f members = m
each P u h m a i r f access_groups = a
each P u h m a i r f inputs = i
each P u h m a i r f rules = r
each P u h m a i r f references = f

at_order : {A : Type 0} (g : Section → A) (x d : A) (s : Section) → get_or (map g sections ++ (x ∷ [])) (order s) d ≡ g s
at_order g x d = each (λ s. get_or (map g sections ++ (x ∷ [])) (order s) d ≡ g s) refl refl refl refl refl refl refl

every_entry : {P : ℕ → Type 0} {ns : List ℕ} {rs : List Run} → Every P ns → Every (λ r. P r.first) rs → Every P (entries ns rs)
every_entry nil d = nil
every_entry (cons p c) nil = nil
every_entry (cons p c) (cons q d) = cons p (cons q (every_entry c d))

pub in_turn_runs : {A : Type 0} (n e : ℕ) (xs : List (List A)) → n + length (joined xs) ≡ e → in_turn n (runs n xs) e ≡ true
in_turn_runs n e [] h = eq-eqb n e (omega arith)
in_turn_runs n e (x ∷ xs) h =
    let l = length-append x (joined xs) in rw (eq-eqb n n refl, in_turn_runs (n + length x) e xs (omega arith))

-- the most bytes that the records can be
abbrev pub most_record_bytes : ℕ
most_record_bytes = total (map (λ s. most s * (width s * 2)) sections)

module _ (c : Content) (ok : Sound c) where
  block_length : (s : Section) → length (c.records s) * (width s * 2) ≡ length (spelled_out (joined (c.records s)))
  block_length s = spelled_rows_length (ok.rows s)

  blocks_length : length (joined (blocks c)) ≤ most_record_bytes + most_bytes
  blocks_length =
      rw
      (joined_append (map block sections) (c.strings ∷ []))
      (omega (
        arith,
        length-append (joined (map block sections)) (c.strings ++ []),
        length-append c.strings [],
        length_joined_map block (λ s. most s * (width s * 2)) (λ s. rw (← block_length s) (mul-le-mul_right (width s * 2) (ok.count s))) sections,
      ))
    where
      block : Section → List ℕ
      block s = spelled_out (joined (c.records s))

  sized : length (layout c) ≡ header_bytes + length (joined (blocks c))
  unfolding layout
  sized = length-append (spelled_out (header c)) (joined (blocks c))

  pub layout_length : length (layout c) ≤ header_bytes + (most_record_bytes + most_bytes)
  layout_length = omega (arith, sized, blocks_length)

  header_words : Every Word (header c)
  header_words =
      let l = blocks_length in
      cons {x = form} (omega arith) (cons {x = header_bytes + length (joined (blocks c))} (omega arith) (every_entry
      (every_append (every_map (λ s. length (c.records s)) (every few sections)) (cons {x = length c.strings} (omega arith) nil))
      (every_implies (λ r h. first_word r h) (runs_within 65535 header_bytes (blocks c) (omega arith)))))
    where
      few : (s : Section) → Word (length (c.records s))
      few s =
          omega
          (arith, ok.count s, each (λ s. most s ≤ 1024) (omega arith) (omega arith) (omega arith) (omega arith) (omega arith) (omega arith) (omega arith) s)

      first_word : (r : Run) → Within 65535 r → Word r.first
      first_word r h = omega arith

  laid : (rest : List ℕ) → layout c ++ rest ≡ spelled_out (header c) ++ (joined (blocks c) ++ rest)
  unfolding layout
  laid rest = append_assoc (spelled_out (header c)) (joined (blocks c)) rest

  header_back : (rest : List ℕ) → words (take header_bytes (layout c ++ rest)) ≡ header c
  header_back rest =
      ap (λ (b : List ℕ). words (take header_bytes b)) (laid rest)
      ∙ ap words (take-append_seam (spelled_out (header c)) (joined (blocks c) ++ rest))
      ∙ words_back header_words

  pub form_back : (rest : List ℕ) → form_of (layout c ++ rest) ≡ form
  form_back rest = ap (λ (h : List ℕ). get_or h 0 0) (header_back rest)

  pub total_back : (rest : List ℕ) → total_of (layout c ++ rest) ≡ length (layout c)
  total_back rest = ap (λ (h : List ℕ). get_or h 1 0) (header_back rest) ∙ sym sized

  pub extents_back : (rest : List ℕ) → extents (layout c ++ rest) ≡ runs header_bytes (blocks c)
  extents_back rest =
      rw
      (header_back rest)
      (λ i.
      map (λ s. record { first = get_or (header c) (3 + order s * 2) 0; count = block_length s i }) sections
      ++ (record { first = get_or (header c) 17 0; count = length c.strings } ∷ []))

  blocks_back : (rest : List ℕ) → map (λ r. part r (layout c ++ rest)) (extents (layout c ++ rest)) ≡ blocks c
  blocks_back rest =
      ap (λ (rs : List Run). map (λ r. part r (layout c ++ rest)) rs) (extents_back rest)
      ∙ ap (λ (b : List ℕ). map (λ r. part r b) (runs header_bytes (blocks c))) (laid rest)
      ∙ part_runs (spelled_out (header c)) (blocks c) rest

  records_back :
      (rest : List ℕ) (s : Section)
      → records_of (width s) (count_of (layout c ++ rest) (order s)) (words (part (extent (layout c ++ rest) s) (layout c ++ rest))) ≡ c.records s
  records_back rest s =
      ap₂
      (λ (n : ℕ) (l : List ℕ). records_of (width s) n (words l))
      (ap (λ (h : List ℕ). get_or h (2 + order s * 2) 0) (header_back rest) ∙ counted s)
      (sym (at_order (λ t. part (extent (layout c ++ rest) t) (layout c ++ rest)) (part (strings_extent (layout c ++ rest)) (layout c ++ rest)) [] s)
      ∙ ap (λ (l : List (List ℕ)). get_or l (order s) []) (blocks_back rest)
      ∙ at_order (λ t. spelled_out (joined (c.records t))) c.strings [] s)
      ∙ spelled_rows_back (ok.rows s)
    where
      counted : (s : Section) → get_or (header c) (2 + order s * 2) 0 ≡ length (c.records s)
      counted = each (λ s. get_or (header c) (2 + order s * 2) 0 ≡ length (c.records s)) refl refl refl refl refl refl refl

  pub view_back : (rest : List ℕ) → view (layout c ++ rest) ≡ c
  unfolding view
  view_back rest = λ i. record { records = λ s. records_back rest s i; strings = ap (λ (l : List (List ℕ)). get_or l 7 []) (blocks_back rest) i }

  sections_stand_back : (rest : List ℕ) → sections_stand (layout c ++ rest) ≡ true
  sections_stand_back rest =
      let l = length-append (layout c) rest in
      ap₂
      ◌&&◌
      (le-leb header_bytes (length (layout c ++ rest)) (omega (arith, sized)))
      (ap₂
      ◌&&◌
      (eq-eqb (form_of (layout c ++ rest)) form (form_back rest))
      (ap₂
      ◌&&◌
      (ap₂ (λ (rs : List Run) (e : ℕ). in_turn header_bytes rs e) (extents_back rest) (total_back rest)
      ∙ in_turn_runs header_bytes (length (layout c)) (blocks c) (sym sized))
      (le-leb (total_of (layout c ++ rest)) (length (layout c ++ rest)) (omega (arith, total_back rest)))))

  -- such bytes are a table if what they hold is
  pub is_table_back : (rest : List ℕ) → is_table (layout c ++ rest) ≡ well_formed c
  unfolding is_table
  is_table_back rest = rw (sections_stand_back rest, view_back rest)
