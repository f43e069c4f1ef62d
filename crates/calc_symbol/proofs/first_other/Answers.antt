use Rattle.calc_symbol.specs.Scan.{syms}
use Prim.Native.Nat.{◌+◌}
use Rattle.std.proofs.Common.{refl, arith}
use Rattle.calc_numeral.specs.laws.Stand.{stands, differs}
use Rattle.calc_symbol.specs.laws.Lookaheads.{no_prefix, no_operand}
use Rattle.calc_symbol.specs.laws.Scans.{is_byte, is_not, is_differs, signed_at}
use Rattle.calc_symbol.proofs.first_other.Goals as goal

pub returns-in-45 : goal.returns-in-45
returns-in-45 c = is_byte c.args.s.now c.args.at c.requires.0 45 c.in-45.is refl

pub returns-in-40 : goal.returns-in-40
returns-in-40 c = is_byte c.args.s.now c.args.at c.requires.0 40 c.in-40.is refl

pub returns-then-stands_at : goal.returns-then-stands_at
returns-then-stands_at c = no_prefix c.args.s.now c.args.at (syms c.args.s.now (c.args.at + 1 + 1))
    (is_differs c.args.s.now c.args.at c.requires.0 c.in-33.is refl (stands c.args.s.now (c.args.at + 1) 61 c.stands_at.ensures c.if-stands_at.true))

pub returns-else-stands_at : goal.returns-else-stands_at
returns-else-stands_at c = is_not c.args.s.now c.args.at c.requires.0 c.in-33.is refl (differs c.args.s.now (c.args.at + 1) 61 c.stands_at.ensures (omega arith) c.if-stands_at.false)

pub returns-in_default : goal.returns-in_default
returns-in_default c = no_operand c.args.s.now c.args.at (signed_at c.args.s.now c.args.at c.requires.0 c.requires.1) c.in_default.in_default-own.rest.0.0.1
    c.in_default.in_default-own.rest.0.1 c.in_default.in_default-own.rest.1
