use Rattle.std.proofs.Common.{length}
use Rattle.load_tokens.specs.Views.{starts, ends, roles}
use Rattle.load_passes.specs.laws.Loops.{RulesHead}
use Rattle.load_passes.proofs.references_alone.Given as goal

abbrev pub invariant-loop-i : goal.invariant-loop-i
invariant-loop-i g l =
    let e = g.E.Entry in
    let t = l.tokens in
    RulesHead e.work t.text.now (starts t.list.now) (ends t.list.now) (roles t.list.now) (e.names l.users) (e.names l.hosts) l.from (length t.list.now) l.initial.lent l.initial.p l.lent l.p l.i
