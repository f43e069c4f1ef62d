-- Whether a rule has a body, and its parts.
use Rattle.std.specs.Prelude.{◌≡◌, refl, Bool, true, false, cond, not, ◌||◌, List, [], ◌∷◌, ◌++◌, ℕ, ◌+◌, eqb, length}
use Rattle.std.proofs.Common.{sym, ap, ap₂, ◌∙◌, arith}
use Rattle.std.proofs.Math.Option.{none, some}
use Rattle.std.specs.declared.ops.Range.{Range}
use Rattle.spec_lists.specs.Text.{bytes}
use Rattle.spec_lists.specs.Select.{nonempty}
use Rattle.spec_lists.specs.Runs.{Run, part}
use Rattle.spec_lists.proofs.laws.Runs.{Within}
use Rattle.spec_file.specs.Limit.{rules, references}
use Rattle.spec_table.specs.Layout.{Content}
use Rattle.spec_table.specs.View.{view}
use Rattle.spec_table.specs.Check.{flags_field, users_run, hosts_run, calculation_run, bits_from_4, no_calculation}
use Rattle.spec_table.specs.Policy.{name, rule_of, row, set_bit}
use Rattle.spec_table.proofs.laws.Standing.{stands, references_within}
use Rattle.spec_text.specs.Lines.{reference_line, calculation_line, unknown_line, ended}
use Rattle.table_read.specs.Stored.{Stored}
use Rattle.text_marks.specs.Names.{run, RunStored, names}
use Rattle.text_marks.specs.laws.Ended.{ended_append}
use Rattle.text_marks.specs.laws.Names.{run_is}
use Rattle.text_marks.specs.laws.Filled.{set_bit_sum, nonempty_append, nonempty_map, nonempty_run, zero_bit, calculation_bit}
use Rattle.text_head.specs.Head.{unknown_text}
use Rattle.text_body.specs.Body.{references_text, calculation_text, body_lines}

-- a rule of a table has an unknown predicate exactly if it is switched off
unknown_there : (b : Bool) → nonempty {A = ℕ} (cond b (0 ∷ []) []) ≡ b
unknown_there true = refl
unknown_there false = refl

-- ---- whether there are lines

references_there : (word : List ℕ) (ss : List (List ℕ)) → nonempty (reference_line word ss) ≡ nonempty ss
references_there word [] = refl
references_there word (s ∷ ss) = refl

calculation_there : (b : Bool) (s : List ℕ) → nonempty (calculation_line (cond b none (some s))) ≡ not b
calculation_there true s = refl
calculation_there false s = refl

unknown_is : (b : Bool) → nonempty (unknown_line b) ≡ b
unknown_is true = refl
unknown_is false = refl

module _ (c : Content) (w : List ℕ) where
  abbrev users_line : List (List ℕ)
  users_line = reference_line (bytes "UAG") (names c references (users_run w))

  abbrev hosts_line : List (List ℕ)
  hosts_line = reference_line (bytes "HAG") (names c references (hosts_run w))

  abbrev calculation : List (List ℕ)
  calculation = calculation_line (rule_of c w).calculation

  abbrev off : Bool
  off = set_bit (bits_from_4 (flags_field w))

  -- the four parts of a body
  lines_are : body_lines c w ≡ users_line ++ (hosts_line ++ (calculation ++ unknown_line off))
  lines_are =
      ap (λ (b : Bool). users_line ++ (hosts_line ++ (calculation ++ unknown_line b))) (unknown_there off)

  body_is :
      ended (body_lines c w)
      ≡ references_text (bytes "UAG") (names c references (users_run w))
      ++ (references_text (bytes "HAG") (names c references (hosts_run w)) ++ (calculation_text c w ++ unknown_text (flags_field w)))
  body_is =
      ap ended lines_are
      ∙ ended_append users_line (hosts_line ++ (calculation ++ unknown_line off))
      ∙ ap (λ (t : List ℕ). ended users_line ++ t) (ended_append hosts_line (calculation ++ unknown_line off))
      ∙ ap (λ (t : List ℕ). ended users_line ++ (ended hosts_line ++ t)) (ended_append calculation (unknown_line off))

  line_there : (word : List ℕ) (r : Run) → Within (length (c.records references)) r → nonempty (reference_line word (names c references r)) ≡ set_bit r.count
  line_there word r h =
      references_there word (names c references r)
      ∙ nonempty_map (name c references) (part r (c.records references))
      ∙ nonempty_run r (c.records references) h

  body_there :
      Within (length (c.records references)) (users_run w) → Within (length (c.records references)) (hosts_run w)
      → nonempty (body_lines c w)
      ≡ set_bit
      ((users_run w).count
      + ((hosts_run w).count + (((calculation_run w).first + (calculation_run w).count) + bits_from_4 (flags_field w))))
  body_there u h =
      let k = calculation_run w in
      let o = bits_from_4 (flags_field w) in
      ap nonempty lines_are
      ∙ nonempty_append users_line (hosts_line ++ (calculation ++ unknown_line off))
      ∙ ap₂ (λ (x y : Bool). x || y) (line_there (bytes "UAG") (users_run w) u)
      (nonempty_append hosts_line (calculation ++ unknown_line off)
      ∙ ap₂ (λ (x y : Bool). x || y) (line_there (bytes "HAG") (hosts_run w) h)
      (nonempty_append calculation (unknown_line off)
      ∙ ap₂ (λ (x y : Bool). x || y) (calculation_there (no_calculation k) (name c rules w) ∙ calculation_bit k) (unknown_is off)
      ∙ sym (set_bit_sum (k.first + k.count) o))
      ∙ sym (set_bit_sum (hosts_run w).count ((k.first + k.count) + o)))
      ∙ sym (set_bit_sum (users_run w).count ((hosts_run w).count + ((k.first + k.count) + o)))

not_twice : (b : Bool) → not (not b) ≡ b
not_twice true = refl
not_twice false = refl

-- ---- as the code finds them

module _ (b : List ℕ) (i : ℕ) where
  abbrev here : List ℕ
  here = row (view b) rules i

  module _
      {users hosts : Range ℕ} (e : users.start ≡ (users_run here).first) (f : users.end ≡ (users_run here).first + (users_run here).count)
      (g : hosts.start ≡ (hosts_run here).first) (h : hosts.end ≡ (hosts_run here).first + (hosts_run here).count)
    where
      pub body_parts :
          ended (body_lines (view b) here)
          ≡ references_text (bytes "UAG") (names (view b) references (run users))
          ++ (references_text (bytes "HAG") (names (view b) references (run hosts))
          ++ (calculation_text (view b) here ++ unknown_text (flags_field here)))
      body_parts =
          body_is (view b) here
          ∙ sym
          (ap₂
          (λ (us hs : Run).
          references_text (bytes "UAG") (names (view b) references us)
          ++ (references_text (bytes "HAG") (names (view b) references hs) ++ (calculation_text (view b) here ++ unknown_text (flags_field here))))
          (run_is e f)
          (run_is g h))

      pub references_stored : Stored b rules i → RunStored b references users × RunStored b references hosts
      references_stored s =
          let w = references_within (view b) (stands b s.table).1 i s.inside in
          (record { table = s.table; inside = omega (arith, w.0, f) }, record { table = s.table; inside = omega (arith, w.1, h) })

  pub has_body :
      {off n m a k : ℕ} → Stored b rules i → off ≡ bits_from_4 (flags_field here) → n ≡ (users_run here).count → m ≡ (hosts_run here).count
      → a ≡ (calculation_run here).first → k ≡ (calculation_run here).count → not (eqb (off + n + m + a + k) 0) ≡ nonempty (body_lines (view b) here)
  has_body {off} {n} {m} {a} {k} s o e f g h =
      let w = references_within (view b) (stands b s.table).1 i s.inside in
      let z :
      off + n + m + a + k
      ≡ (users_run here).count
      + ((hosts_run here).count + (((calculation_run here).first + (calculation_run here).count) + bits_from_4 (flags_field here))) = omega arith in
      ap not (zero_bit (off + n + m + a + k)) ∙ not_twice (set_bit (off + n + m + a + k)) ∙ ap set_bit z ∙ sym (body_there (view b) here w.0 w.1)
