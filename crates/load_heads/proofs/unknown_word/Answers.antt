use Rattle.std.proofs.Common.{rules}
use Rattle.spec_file.specs.Refusal.{unknown_word}
use Rattle.load_spans.specs.laws.Tokens.{sought}
use Rattle.load_heads.proofs.unknown_word.Goals as goal

pub returns : goal.returns
returns c = sought unknown_word c.args.t.now.text.now c.args.t.now.list.now c.first.ensures (λ i b h e. search rules)
