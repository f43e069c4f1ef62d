use Rattle.spec_grammar.specs.Reader.{string_list}
use Rattle.load_elements.specs.laws.Tokens.{then, stops}
use Rattle.load_strings.specs.laws.Enclosed.{braces_come, no_braces_come}
use Rattle.load_parse.proofs.group.Goals as goal

pub returns-in_err-named : goal.returns-in_err-named
returns-in_err-named c = λ x e. stops _ c.in_err-named.ensures c.from_residual.ensures.1

pub returns-then-not-next_is : goal.returns-then-not-next_is
returns-then-not-next_is c = λ x e. then c.in_ok-named.ensures (no_braces_come x (string_list c.args.member) e c.next_is.ensures c.if-not-next_is.true)

pub returns : goal.returns
returns c = λ x e. then c.in_ok-named.ensures (braces_come x (string_list c.args.member) e c.next_is.ensures c.if-not-next_is.false c.strings_in.ensures)
