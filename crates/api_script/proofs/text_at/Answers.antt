use Rattle.load_tokens.specs.Arrays.{between}
use mathlib.Core.Path.{ap₂, ◌∙◌}
use Rattle.api_script.proofs.text_at.Goals as goal

pub returns : goal.returns
returns c = c.part.ensures ∙ ap₂ (between c.args.pool.now) c.word.ensures c.word-2.ensures
