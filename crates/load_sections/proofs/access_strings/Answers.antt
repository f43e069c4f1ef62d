use Rattle.std.proofs.Common.{[], ◌+◌, length, arith}
use Rattle.spec_grammar.specs.declared.Role.TheVariants.{AsgName}
use Rattle.load_spans.specs.laws.Tokens.{fits}
use Rattle.load_records.specs.Work.{Texts}
use Rattle.load_records.specs.laws.Bounds.{bounded_more}
use Rattle.load_passes.specs.Passed.{pass_reach}
use Rattle.load_passes.specs.Source.{all_of, part_of}
use Rattle.load_passes.specs.laws.Bounds.{bounded_references}
use Rattle.load_sections.specs.Sections.{limit_strings}
use Rattle.load_sections.specs.laws.Sections.{from_role}
use Rattle.load_sections.specs.laws.Strings.{access_strings_put}
use Rattle.load_sections.proofs.access_strings.Goals as goal

pub references_alone-seven-requires-clause-bounded : goal.references_alone-seven-requires-clause-bounded
references_alone-seven-requires-clause-bounded c = bounded_more (omega arith) (c.pass-five.ensures.bounded (limit_strings + pass_reach) (c.pass-four.ensures.bounded limit_strings c.requires))

pub pass-end-requires-clause-start : goal.pass-end-requires-clause-start
pass-end-requires-clause-start c =
    record {
      within = omega arith;
      head = record { some = omega arith; known = omega arith };
      part = record { some = omega arith; known = omega arith };
      bounded = bounded_more (omega arith) (bounded_references (fits c.args.tokens.now) Texts [] [] c.first-a.result (c.pass-five.ensures.bounded (limit_strings + pass_reach) (c.pass-four.ensures.bounded limit_strings c.requires)) c.references_alone-seven.ensures);
    }

pub returns : goal.returns
returns c =
    let t = c.args.tokens.now in
    access_strings_put (all_of t) [] [] (part_of t c.first-a.result (length t.list.now))
    (from_role t AsgName c.first-a.result (record { some = omega arith; known = omega arith }) c.first-a.ensures)
    c.pass-four.ensures.emitted c.pass-five.ensures.emitted c.references_alone-seven.ensures c.pass-end.ensures.emitted
