use Rattle.std.proofs.Common.{◌+◌, length, arith}
use Rattle.spec_grammar.specs.declared.Role.TheVariants.{UagName, HagName}
use Rattle.load_records.specs.laws.Bounds.{bounded_more}
use Rattle.load_passes.specs.Passed.{pass_reach}
use Rattle.load_passes.specs.Source.{all_of, part_of}
use Rattle.load_sections.specs.Sections.{limit_7}
use Rattle.load_sections.specs.laws.Sections.{from_role}
use Rattle.load_sections.specs.laws.Strings.{group_strings_put}
use Rattle.load_sections.proofs.group_strings.Goals as goal

pub pass-users-requires-clause-start : goal.pass-users-requires-clause-start
pass-users-requires-clause-start c =
    record {
      within = omega arith;
      head = record { some = omega arith; known = omega arith };
      part = record { some = omega arith; known = omega arith };
      bounded = bounded_more (omega arith) (c.pass-two.ensures.bounded (limit_7 + pass_reach) (c.pass-one.ensures.bounded limit_7 c.requires));
    }

pub pass-requires-clause-start : goal.pass-requires-clause-start
pass-requires-clause-start c =
    record {
      within = omega arith;
      head = record { some = omega arith; known = omega arith };
      part = record { some = omega arith; known = omega arith };
      bounded = bounded_more (omega arith) (c.pass-users.ensures.bounded (limit_7 + pass_reach + pass_reach) (c.pass-two.ensures.bounded (limit_7 + pass_reach) (c.pass-one.ensures.bounded limit_7 c.requires)));
    }

pub returns : goal.returns
returns c =
    let t = c.args.tokens.now in
    record {
      bytes =
          group_strings_put (all_of t) (part_of t c.first-a.result (length t.list.now)) (part_of t c.first-b.result (length t.list.now))
          (from_role t UagName c.first-a.result (record { some = omega arith; known = omega arith }) c.first-a.ensures)
          (from_role t HagName c.first-b.result (record { some = omega arith; known = omega arith }) c.first-b.ensures)
          c.pass-one.ensures.emitted c.pass-two.ensures.emitted c.pass-users.ensures.emitted c.pass.ensures.emitted;
      bounded = bounded_more (omega arith) (c.pass.ensures.bounded (limit_7 + pass_reach + pass_reach + pass_reach) (c.pass-users.ensures.bounded (limit_7 + pass_reach + pass_reach) (c.pass-two.ensures.bounded (limit_7 + pass_reach) (c.pass-one.ensures.bounded limit_7 c.requires))));
    }
