use Rattle.std.proofs.Common.{◌-◌, arith}
use Rattle.spec_grammar.specs.Codes.{role_number}
use Rattle.load_tokens.specs.Views.{roles}
use Rattle.load_spans.specs.laws.Roles.{tally_bound}
use Rattle.load_records.proofs.count.Goals as goal

pub returns-clause-few : goal.returns-clause-few
returns-clause-few c =
    let a = c.args in
    omega (arith, c.count.ensures, tally_bound (role_number a.role) (roles a.tokens.now.list.now) a.from (a.e - a.from), a.tokens.now.few)
