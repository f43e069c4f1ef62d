use Rattle.std.proofs.Common.{rules}
use Rattle.spec_file.specs.Refusal.{too_long}
use Rattle.load_spans.specs.laws.Tokens.{sought}
use Rattle.load_limits.proofs.too_long.Goals as goal

pub returns : goal.returns
returns c = sought too_long c.args.t.now.text.now c.args.t.now.list.now c.first.ensures (λ i b h e. search rules)
