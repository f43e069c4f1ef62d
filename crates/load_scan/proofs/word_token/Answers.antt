use Rattle.load_scan.specs.laws.Steps.{word_found}
use Rattle.load_scan.proofs.word_token.Goals as goal

pub returns : goal.returns
returns c = word_found c.requires c.run_end-end.ensures c.word_kind-kind.ensures
