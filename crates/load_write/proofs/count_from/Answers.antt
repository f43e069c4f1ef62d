use Rattle.std.proofs.Common.{◌-◌, length, arith}
use Rattle.spec_grammar.specs.Codes.{role_number}
use Rattle.load_tokens.specs.Views.{roles}
use Rattle.load_spans.specs.laws.Roles.{tally_bound}
use Rattle.load_write.specs.laws.Header.{counted_from}
use Rattle.load_write.proofs.count_from.Goals as goal

pub returns-clause-exact : goal.returns-clause-exact
returns-clause-exact c =
    let a = c.args in
    counted_from a.tokens.now a.q a.m c.next-a.result c.count.result c.requires.first c.requires.counted c.next-a.ensures c.count.ensures

pub returns-clause-few : goal.returns-clause-few
returns-clause-few c =
    let a = c.args in
    let ts = a.tokens.now.list.now in
    omega (arith, c.count.ensures, tally_bound (role_number a.m) (roles ts) c.next-a.result (length ts - c.next-a.result), a.tokens.now.few)
