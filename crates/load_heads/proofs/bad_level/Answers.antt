use Rattle.std.proofs.Common.{rules}
use Rattle.spec_file.specs.Refusal.{bad_level}
use Rattle.load_spans.specs.laws.Tokens.{sought}
use Rattle.load_heads.proofs.bad_level.Goals as goal

pub returns : goal.returns
returns c = sought bad_level c.args.t.now.text.now c.args.t.now.list.now c.first.ensures (λ i b h e. search rules)
