use Rattle.std.specs.Prelude.{◌≡◌, ◌+◌}
use Rattle.calc_symbol.specs.Scan.{syms}
use Rattle.calc_symbol.proofs.skip_blanks.Given as goal

abbrev pub invariant-loop-i : goal.invariant-loop-i
invariant-loop-i l = syms l.s l.at ≡ syms l.s (l.at + l.i)
