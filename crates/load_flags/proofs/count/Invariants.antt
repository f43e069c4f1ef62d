use Rattle.std.proofs.Common.{◌≡◌, ◌+◌, ◌-◌, ◌≤◌}
use Rattle.spec_grammar.specs.Codes.{role_number}
use Rattle.load_tokens.specs.Views.{roles}
use Rattle.load_spans.specs.Roles.{tally}
use Rattle.load_flags.proofs.count.Given as goal

abbrev pub invariant-loop-i : goal.invariant-loop-i
invariant-loop-i l =
    (l.k + tally (role_number l.role) (roles l.t.list.now) l.i (l.to - l.i)
    ≡ tally (role_number l.role) (roles l.t.list.now) l.from (l.to - l.from))
    × (l.k ≤ l.i)
