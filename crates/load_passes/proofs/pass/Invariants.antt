use Rattle.spec_grammar.specs.Codes.{role_number}
use Rattle.load_tokens.specs.Views.{starts, ends, roles}
use Rattle.load_passes.specs.laws.Loops.{PassHead}
use Rattle.load_passes.proofs.pass.Given as goal

abbrev pub invariant-loop-i : goal.invariant-loop-i
invariant-loop-i g l =
    let e = g.E.Entry in
    let t = l.tokens in
    PassHead e.work (role_number l.role) (role_number (e.part l.entry l.role)) (e.names l.entry) t.text.now (starts t.list.now) (ends t.list.now) (roles t.list.now) l.from l.to l.initial.lent l.initial.p l.lent l.p l.i
