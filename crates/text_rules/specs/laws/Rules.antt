-- A rule, part by part.
use Rattle.std.specs.Prelude.{◌≡◌, true, false, List, ◌++◌, ℕ}
use Rattle.spec_lists.specs.Text.{bytes}
use Rattle.spec_lists.specs.Select.{nonempty}
use Rattle.spec_table.specs.Layout.{Content}
use Rattle.spec_table.specs.Check.{flags_field}
use Rattle.spec_text.specs.Lines.{ended}
use Rattle.text_marks.specs.laws.Ended.{ended_bare, ended_body}
use Rattle.text_head.specs.Head.{head_text}
use Rattle.text_body.specs.Body.{body_lines}
use Rattle.text_rules.specs.Rules.{rule_text}

module _ (c : Content) (w : List ℕ) where
  pub rule_bare : nonempty (body_lines c w) ≡ false → rule_text c w ≡ head_text (flags_field w) ++ bytes "\n"
  rule_bare h = ended_bare (head_text (flags_field w)) (body_lines c w) h

  pub rule_full :
      nonempty (body_lines c w) ≡ true → rule_text c w ≡ head_text (flags_field w) ++ (bytes "{\n" ++ (ended (body_lines c w) ++ bytes "}\n"))
  rule_full h = ended_body (head_text (flags_field w)) (body_lines c w) h
