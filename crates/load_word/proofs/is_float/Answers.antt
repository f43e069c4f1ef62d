use Rattle.std.proofs.Common.{sym, ap, ◌∙◌}
use Rattle.spec_lists.specs.Select.{after}
use Rattle.spec_lists.specs.Text.{digit}
use Rattle.spec_token.specs.Scanner.{fraction}
use Rattle.spec_token.proofs.laws.Spans.{span_after}
use Rattle.load_word.proofs.is_float.Goals as goal

pub returns : goal.returns
returns c = c.is_fraction.ensures ∙ ap fraction (sym (span_after c.run_end-d.ensures) ∙ ap (after digit) c.sign_end-a.ensures.rest)
