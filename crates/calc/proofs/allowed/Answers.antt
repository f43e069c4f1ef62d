use Rattle.std.specs.Option.{is_some}
use Rattle.std.proofs.Common.{ap, ◌∙◌}
use Rattle.spec_calc.specs.Reader.{tree_of}
use Rattle.calc_truth.specs.laws.Answers.{allowed_is}
use Rattle.calc.proofs.allowed.Goals as goal

pub returns : goal.returns
returns c = c.is_some.ensures ∙ ap is_some c.compute.ensures ∙ allowed_is _ (tree_of c.args.s.now)
