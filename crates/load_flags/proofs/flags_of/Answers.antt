use Rattle.std.proofs.Common.{◌-◌, arith, sym, ap, ◌∙◌}
use Rattle.load_tokens.specs.Views.{starts, ends, roles}
use Rattle.load_spans.specs.Roles.{arrays}
use Rattle.load_spans.specs.laws.Roles.{tally_is}
use Rattle.load_flags.specs.Flags.{off_bits}
use Rattle.load_flags.specs.Tokens.{part}
use Rattle.load_flags.specs.laws.Flags.{off_is}
use Rattle.load_flags.proofs.flags_of.Goals as goal

pub returns : goal.returns
returns c =
    let a = c.args in
    let s = a.t.now.text.now in
    let ts = a.t.now.list.now in
    omega (
      arith,
      c.level_bits-level.ensures,
      c.permission_bits-permission.ensures,
      c.trap_bits-trap.ensures,
      c.off_bits.ensures
          ∙ ap off_bits
          (sym
          (tally_is s (arrays (starts ts) (ends ts)) (roles ts) 17 a.from (a.to - a.from)
          (record { some = omega arith; known = omega arith })))
          ∙ off_is (part s ts a.from a.to),
    )
