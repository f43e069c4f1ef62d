use Rattle.std.proofs.Common.{◌≡◌, ◌+◌, ◌-◌}
use Rattle.spec_grammar.specs.Codes.{role_number}
use Rattle.load_tokens.specs.Views.{roles}
use Rattle.load_spans.specs.Roles.{gap}
use Rattle.load_flags.proofs.next.Given as goal

abbrev pub invariant-loop-i : goal.invariant-loop-i
invariant-loop-i l =
    l.i + gap (role_number l.a) (role_number l.b) (roles l.t.list.now) l.i (l.to - l.i)
    ≡ l.from + gap (role_number l.a) (role_number l.b) (roles l.t.list.now) l.from (l.to - l.from)
