use Rattle.api_script.specs.laws.Demand.{asked_is}
use Rattle.sequence.proofs.load_then_ask.Goals as goal

pub returns : goal.returns
returns c = asked_is c.load-loaded.ensures c.follow.ensures c.decide-answer.ensures
