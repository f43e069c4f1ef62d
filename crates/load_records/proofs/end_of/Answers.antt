use Rattle.std.proofs.Common.{◌+◌, arith}
use Rattle.spec_grammar.specs.Codes.{role_number}
use Rattle.load_tokens.specs.Views.{roles}
use Rattle.load_records.specs.laws.Tokens.{gap_end}
use Rattle.load_records.proofs.end_of.Goals as goal

pub returns-clause-within : goal.returns-clause-within
returns-clause-within c =
    let a = c.args in
    gap_end (role_number a.a) (role_number a.b) (roles a.tokens.now.list.now) (a.i + 1) a.to c.next.result (omega arith) c.next.ensures
