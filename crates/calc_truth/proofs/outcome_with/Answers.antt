use Rattle.calc_truth.specs.laws.Answers.{outcome_stopped, outcome_computed}
use Rattle.calc_truth.proofs.outcome_with.Goals as goal

pub returns-in-Some : goal.returns-in-Some
returns-in-Some c = let i = c.args.inputs.now in outcome_stopped c.args.s.now c.requires i.values i.good c.in-Some.ensures

pub returns-in-None : goal.returns-in-None
returns-in-None c = let i = c.args.inputs.now in
    outcome_computed c.args.s.now c.requires i.values i.good c.in-None.ensures c.compute.ensures c.near.ensures
