-- An access group, part by part.
use Rattle.std.specs.Prelude.{◌≡◌, Bool, ◌||◌, List, ◌++◌, map, ℕ, ◌+◌, ◌≤◌, length}
use Rattle.std.proofs.Common.{sym, ap, ap₂, ◌∙◌, append_assoc, arith}
use Rattle.std.specs.declared.ops.Range.{Range}
use Rattle.spec_lists.specs.Text.{bytes}
use Rattle.spec_lists.specs.Select.{nonempty, joined}
use Rattle.spec_lists.specs.Runs.{Run, part}
use Rattle.spec_lists.proofs.laws.Joined.{map_map}
use Rattle.spec_lists.proofs.laws.Runs.{Within}
use Rattle.spec_file.specs.Limit.{access_groups, inputs, rules}
use Rattle.spec_table.specs.Layout.{Content}
use Rattle.spec_table.specs.View.{view}
use Rattle.spec_table.specs.Check.{inputs_run, rules_run}
use Rattle.spec_table.specs.Policy.{name, row, set_bit}
use Rattle.spec_table.proofs.laws.Standing.{stands, inputs_within, rules_within}
use Rattle.spec_text.specs.Lines.{quoted, called, link_line, rule_head, predicate_lines, rule_lines, ended}
use Rattle.spec_export.specs.Says.{link_in, rule_text_in, asg_in}
use Rattle.table_read.specs.Stored.{Stored}
use Rattle.text_marks.specs.Room.{Room}
use Rattle.text_marks.specs.Names.{run, RunStored}
use Rattle.text_marks.specs.laws.Ended.{ended_append, ended_bare, ended_body, ended_head, ended_map, ended_joined}
use Rattle.text_marks.specs.laws.Filled.{set_bit_sum, bit_there, nonempty_append, nonempty_map, nonempty_run, nonempty_joined, nonempty_headed}
use Rattle.text_marks.specs.laws.Names.{run_is}
use Rattle.text_inputs.specs.Inputs.{inputs_text}
use Rattle.text_rules.specs.Rules.{rules_text}
use Rattle.text_write.specs.Access.{access_text}

module _ (c : Content) (w : List ℕ) where
  abbrev links : List (List ℕ)
  links = part (inputs_run w) (c.records inputs)

  abbrev its_rules : List (List ℕ)
  its_rules = part (rules_run w) (c.records rules)

  -- the lines of its body
  abbrev body : List (List ℕ)
  body = map link_line (asg_in c w).inputs ++ joined (map rule_lines (asg_in c w).rules)

  body_is : ended body ≡ inputs_text c (inputs_run w) ++ rules_text c (rules_run w)
  body_is =
      ended_append (map link_line (map (link_in c) links)) (joined (map rule_lines (map (rule_text_in c) its_rules)))
      ∙ ap₂
      (λ (x y : List ℕ). x ++ y)
      (ended_map link_line (map (link_in c) links) ∙ ap joined (map_map (λ i. link_line i ++ bytes "\n") (link_in c) links))
      (ended_joined rule_lines (map (rule_text_in c) its_rules) ∙ ap joined (map_map (λ r. ended (rule_lines r)) (rule_text_in c) its_rules))

  body_there :
      Within (length (c.records inputs)) (inputs_run w) → Within (length (c.records rules)) (rules_run w)
      → nonempty body ≡ set_bit ((inputs_run w).count + (rules_run w).count)
  body_there i r =
      nonempty_append (map link_line (map (link_in c) links)) (joined (map rule_lines (map (rule_text_in c) its_rules)))
      ∙ ap₂
      (λ (x y : Bool). x || y)
      (nonempty_map link_line (map (link_in c) links) ∙ nonempty_map (link_in c) links ∙ nonempty_run (inputs_run w) (c.records inputs) i)
      (nonempty_joined rule_lines (λ t. nonempty_headed (rule_head t) (predicate_lines t)) (map (rule_text_in c) its_rules)
      ∙ nonempty_map (rule_text_in c) its_rules
      ∙ nonempty_run (rules_run w) (c.records rules) r)
      ∙ sym (set_bit_sum (inputs_run w).count (rules_run w).count)

  abbrev head : List ℕ
  head = called (bytes "ASG") (quoted (name c access_groups w))

  pub access_head : {at : ℕ} → Room at (access_text c w) → Room at head
  access_head h = ended_head head body h

-- ---- as the code finds them

module _
    (b : List ℕ) (i : ℕ) (s : Stored b access_groups i) {links its_rules : Range ℕ}
    (e : links.start ≡ (inputs_run (row (view b) access_groups i)).first)
    (f : links.end ≡ (inputs_run (row (view b) access_groups i)).first + (inputs_run (row (view b) access_groups i)).count)
    (g : its_rules.start ≡ (rules_run (row (view b) access_groups i)).first)
    (h : its_rules.end ≡ (rules_run (row (view b) access_groups i)).first + (rules_run (row (view b) access_groups i)).count)
  where
    abbrev here : List ℕ
    here = row (view b) access_groups i

    pub links_stored : RunStored b inputs links
    links_stored =
        record { table = s.table; inside = omega (arith, inputs_within (view b) (stands b s.table).1 i s.inside, e, f) }

    pub rules_stored : RunStored b rules its_rules
    rules_stored =
        record { table = s.table; inside = omega (arith, rules_within (view b) (stands b s.table).1 i s.inside, g, h) }

    there : {t : Bool} → set_bit ((inputs_run here).count + (rules_run here).count) ≡ t → nonempty (body (view b) here) ≡ t
    there z =
        let k = (stands b s.table).1 in
        body_there (view b) here (inputs_within (view b) k i s.inside) (rules_within (view b) k i s.inside) ∙ z

    pub access_bare : links.end ≤ links.start → its_rules.end ≤ its_rules.start → access_text (view b) here ≡ head (view b) here ++ bytes "\n"
    access_bare y z =
        let n : (inputs_run here).count + (rules_run here).count ≡ 0 = omega (arith, e, f, g, h, y, z) in
        ended_bare (head (view b) here) (body (view b) here) (there (ap set_bit n))

    pub access_full :
        (links.end ≤ links.start → its_rules.end ≤ its_rules.start → ⊥)
        → access_text (view b) here
        ≡ head (view b) here ++ (bytes "{\n" ++ (inputs_text (view b) (run links) ++ (rules_text (view b) (run its_rules) ++ bytes "}\n")))
    access_full z =
        ended_body
        (head (view b) here)
        (body (view b) here)
        (there
        (bit_there
        ((inputs_run here).count + (rules_run here).count)
        (λ n. z (omega (arith, e, f, n)) (omega (arith, g, h, n)))))
        ∙ ap (λ (t : List ℕ). head (view b) here ++ (bytes "{\n" ++ t)) parts
      where
        parts :
            ended (body (view b) here) ++ bytes "}\n"
            ≡ inputs_text (view b) (run links) ++ (rules_text (view b) (run its_rules) ++ bytes "}\n")
        parts =
            ap (λ (t : List ℕ). t ++ bytes "}\n") (body_is (view b) here)
            ∙ append_assoc (inputs_text (view b) (inputs_run here)) (rules_text (view b) (rules_run here)) (bytes "}\n")
            ∙ sym (ap₂ (λ (u v : Run). inputs_text (view b) u ++ (rules_text (view b) v ++ bytes "}\n")) (run_is e f) (run_is g h))
