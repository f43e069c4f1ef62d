use Rattle.std.proofs.Common.{◌+◌, length, arith}
use Rattle.spec_grammar.specs.declared.Role.TheVariants.{AsgName}
use Rattle.load_records.specs.laws.Bounds.{bounded_more}
use Rattle.load_passes.specs.Passed.{pass_reach}
use Rattle.load_passes.specs.Source.{all_of, part_of}
use Rattle.load_sections.specs.Sections.{limit_3}
use Rattle.load_sections.specs.laws.Sections.{access_written, from_role}
use Rattle.load_sections.proofs.access_sections.Goals as goal

pub returns : goal.returns
returns c =
    let t = c.args.tokens.now in
    access_written (all_of t) (part_of t c.first-a.result (length t.list.now))
    (from_role t AsgName c.first-a.result (record { some = omega arith; known = omega arith }) c.first-a.ensures)
    (bounded_more (omega arith) (c.pass-cursor.ensures.bounded (limit_3 + pass_reach) (c.pass-four.ensures.bounded limit_3 (record { at_bound = c.requires.at_bound; string_bound = c.requires.string_bound; first_bound = omega arith; second_bound = omega arith }))))
    c.pass-four.ensures.emitted c.pass-cursor.ensures.emitted
