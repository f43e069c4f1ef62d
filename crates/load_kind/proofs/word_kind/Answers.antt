use Rattle.load_kind.specs.laws.Keyword.{is_keyword}
use Rattle.load_kind.proofs.word_kind.Goals as goal

pub returns-in-Some : goal.returns-in-Some
returns-in-Some c = is_keyword c.args.w.now c.keyword.result c.in-Some.kind c.keyword.ensures c.in-Some.is
