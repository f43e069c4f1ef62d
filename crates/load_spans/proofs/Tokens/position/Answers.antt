use Rattle.std.proofs.Common.{rules, arith, Bor, ℕ, ◌<◌, length}
use Rattle.std.proofs.lemmas.Grind.{common_steps}
use Rattle.std.proofs.lemmas.Iterator.{YieldsList-from_slice}
use Rattle.std.proofs.lemmas.Iterator.Adapters.{serves_from_places}
use Rattle.load_spans.proofs.Tokens.position.Goals as goal

pub position-requires-clause-callable : goal.position-requires-clause-callable
position-requires-clause-callable c =
    serves_from_places {v = λ (x : Bor ℕ). x.now} {all = c.args.names.now} (YieldsList-from_slice c.args.names.now c.iter.ensures.rest) (λ x q r. search rules)
    (λ x k h e. let p : x.now < length c.args.self.now.list.now = grind (arith, common_steps, c.requires.1 k h, e) in search rules)
