use Rattle.std.proofs.Common.{length}
use Rattle.spec_grammar.specs.Codes.{role_number}
use Rattle.load_tokens.specs.Views.{starts, ends, roles}
use Rattle.load_repeats.specs.laws.Seen.{Seen}
use Rattle.load_repeats.proofs.repeated.Given as goal

abbrev pub invariant-loop-i : goal.invariant-loop-i
invariant-loop-i l =
    Seen l.t.text.now (starts l.t.list.now) (ends l.t.list.now) (roles l.t.list.now) (role_number l.role) (role_number l.stop) (length l.t.list.now)
    (length l.initial.seen) l.seen l.k l.i
