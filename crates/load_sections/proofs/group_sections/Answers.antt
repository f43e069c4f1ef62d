use Rattle.std.proofs.Common.{◌+◌, length, arith}
use Rattle.spec_grammar.specs.declared.Role.TheVariants.{UagName, HagName}
use Rattle.load_records.specs.laws.Bounds.{bounded_more}
use Rattle.load_passes.specs.Passed.{pass_reach}
use Rattle.load_passes.specs.Source.{all_of, part_of}
use Rattle.load_sections.specs.laws.Sections.{bounded_start, from_role, groups_written}
use Rattle.load_sections.proofs.group_sections.Goals as goal

pub pass-two-requires-clause-start : goal.pass-two-requires-clause-start
pass-two-requires-clause-start c =
    record {
      within = omega arith;
      head = record { some = omega arith; known = omega arith };
      part = record { some = omega arith; known = omega arith };
      bounded = bounded_more (omega arith) (c.pass-one.ensures.bounded 36 bounded_start);
    }

pub pass-named-requires-clause-start : goal.pass-named-requires-clause-start
pass-named-requires-clause-start c =
    record {
      within = omega arith;
      head = record { some = omega arith; known = omega arith };
      part = record { some = omega arith; known = omega arith };
      bounded = bounded_more (omega arith) (c.pass-two.ensures.bounded (36 + pass_reach) (c.pass-one.ensures.bounded 36 bounded_start));
    }

pub pass-cursor-requires-clause-start : goal.pass-cursor-requires-clause-start
pass-cursor-requires-clause-start c =
    record {
      within = omega arith;
      head = record { some = omega arith; known = omega arith };
      part = record { some = omega arith; known = omega arith };
      bounded = bounded_more (omega arith) (c.pass-named.ensures.bounded (36 + pass_reach + pass_reach) (c.pass-two.ensures.bounded (36 + pass_reach) (c.pass-one.ensures.bounded 36 bounded_start)));
    }

pub returns : goal.returns
returns c =
    let t = c.args.tokens.now in
    groups_written (all_of t) (part_of t c.first-a.result (length t.list.now)) (part_of t c.first-b.result (length t.list.now))
    (from_role t UagName c.first-a.result (record { some = omega arith; known = omega arith }) c.first-a.ensures)
    (from_role t HagName c.first-b.result (record { some = omega arith; known = omega arith }) c.first-b.ensures)
    (bounded_more (omega arith) (c.pass-cursor.ensures.bounded (36 + pass_reach + pass_reach + pass_reach) (c.pass-named.ensures.bounded (36 + pass_reach + pass_reach) (c.pass-two.ensures.bounded (36 + pass_reach) (c.pass-one.ensures.bounded 36 bounded_start)))))
    c.pass-one.ensures.emitted c.pass-two.ensures.emitted c.pass-named.ensures.emitted c.pass-cursor.ensures.emitted
