use Rattle.std.proofs.Common.{◌∙◌, ◌-◌, sym, length, arith}
use Rattle.spec_grammar.specs.declared.Role.TheVariants.{AsgName}
use Rattle.load_tokens.specs.Views.{starts, ends, roles}
use Rattle.load_spans.specs.Roles.{arrays}
use Rattle.load_spans.specs.laws.Roles.{tally_is}
use Rattle.load_spans.specs.laws.Tokens.{fits}
use Rattle.load_records.specs.Work.{References}
use Rattle.load_records.specs.laws.Bounds.{bounded_more}
use Rattle.load_passes.specs.Source.{all_of, host_names, part_of, user_names}
use Rattle.load_passes.specs.laws.Bounds.{bounded_references}
use Rattle.load_passes.specs.laws.Loops.{rule_word_known}
use Rattle.load_sections.specs.Sections.{limit_7}
use Rattle.load_sections.specs.laws.Sections.{bounded_before, bounded_behind, from_role, rules_written, tally_few}
use Rattle.load_sections.proofs.rule_sections.Goals as goal

pub overflow_mul-seven : goal.overflow_mul-seven
overflow_mul-seven c = omega (arith, tally_few 8 c.first-a.result (fits c.args.source.now.tokens) c.count.ensures)

pub overflow_add-seven : goal.overflow_add-seven
overflow_add-seven c = omega (arith, tally_few 8 c.first-a.result (fits c.args.source.now.tokens) c.count.ensures, c.requires.at_bound)

pub references_alone-cursor-requires-clause-bounded : goal.references_alone-cursor-requires-clause-bounded
references_alone-cursor-requires-clause-bounded c = let few = tally_few 8 c.first-a.result (fits c.args.source.now.tokens) c.count.ensures in bounded_more (omega arith) (bounded_behind c.requires few)

pub pass-six-requires-clause-start : goal.pass-six-requires-clause-start
pass-six-requires-clause-start c =
    let s = c.args.source.now in
    let few = tally_few 8 c.first-a.result (fits c.args.source.now.tokens) c.count.ensures in
    let behind = bounded_references (fits s.tokens) References (user_names s) (host_names s) c.first-a.result (bounded_behind c.requires few) c.references_alone-cursor.ensures in
    record {
      within = omega arith;
      head = record { some = omega arith; known = omega arith };
      part = record { some = omega arith; known = omega arith };
      bounded = bounded_more {a = limit_7} (omega arith) (bounded_before c.requires (bounded_more (omega arith) behind));
    }

pub returns : goal.returns
returns c =
    let s = c.args.source.now in
    let t = s.tokens in
    let ts = t.list.now in
    let j = c.first-a.result in
    let few = tally_few 8 c.first-a.result (fits c.args.source.now.tokens) c.count.ensures in
    rules_written (user_names s) (host_names s) (all_of t) (part_of t j (length ts)) c.count.result
    (from_role t AsgName j (record { some = omega arith; known = omega arith }) c.first-a.ensures)
    (c.count.ensures ∙ sym (tally_is t.text.now (arrays (starts ts) (ends ts)) (roles ts) 8 j (length ts - j) rule_word_known))
    (bounded_more (omega arith) (bounded_references (fits s.tokens) References (user_names s) (host_names s) c.first-a.result (bounded_behind c.requires few) c.references_alone-cursor.ensures))
    c.references_alone-cursor.ensures c.pass-six.ensures.emitted
