use Rattle.std.proofs.Common.{rules, refl}
use Rattle.load_parse.specs.laws.Answers.{answers}
use Rattle.load_parse.proofs.read.Goals as goal

pub returns : goal.returns
returns c = answers c.file.ensures refl (search rules)
