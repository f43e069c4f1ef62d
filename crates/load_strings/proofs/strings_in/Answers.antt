use Rattle.load_elements.specs.laws.Tokens.{then, stops}
use Rattle.load_strings.proofs.strings_in.Goals as goal

pub returns-in_err-expect : goal.returns-in_err-expect
returns-in_err-expect c = stops _ c.in_err-expect.ensures c.from_residual.ensures.1

pub returns-in_err-strings : goal.returns-in_err-strings
returns-in_err-strings c = then c.in_ok-expect.ensures (stops _ c.in_err-strings.ensures c.from_residual-in_err-strings.ensures.1)

pub returns : goal.returns
returns c = then c.in_ok-expect.ensures (then c.in_ok-strings.ensures c.expect-2.ensures)
