use Rattle.std.proofs.Common.{length}
use Rattle.load_tokens.specs.Views.{starts, ends, roles}
use Rattle.load_spans.specs.Roles.{arrays}
use Rattle.load_calcs.specs.laws.Input.{Gathers}
use Rattle.load_calcs.proofs.letters_from.Given as goal

abbrev pub invariant-loop-i : goal.invariant-loop-i
invariant-loop-i l = Gathers l.t.text.now (arrays (starts l.t.list.now) (ends l.t.list.now)) (roles l.t.list.now) (length l.t.list.now) l.from l.given l.i
