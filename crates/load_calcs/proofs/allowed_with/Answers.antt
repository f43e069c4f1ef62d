use Rattle.calc_letters.specs.laws.Given.{with_yes, with_no}
use Rattle.std.proofs.Common.{◌∙◌}
use Rattle.load_calcs.proofs.allowed_with.Goals as goal

pub returns-then-letters_given : goal.returns-then-letters_given
returns-then-letters_given c = with_yes c.args.given c.args.s.now c.letters_given.ensures c.if-letters_given.true c.allowed.ensures

pub returns-else-letters_given : goal.returns-else-letters_given
returns-else-letters_given c = c.if-letters_given.false ∙ with_no c.args.given c.args.s.now c.letters_given.ensures c.if-letters_given.false
