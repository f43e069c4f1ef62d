use Rattle.std.proofs.Common.{arith, length-take, rules}
use Rattle.reg_clear.specs.laws.Clear.{cleared}
use Rattle.reg_clear.proofs.clear_states.Goals as goal

pub returns : goal.returns
returns c = cleared 1344 c.args.states.now c.fill.new.self c.requires (simp length-take (omega arith)) (c.fill.ensures.after (λ y k. search rules))
