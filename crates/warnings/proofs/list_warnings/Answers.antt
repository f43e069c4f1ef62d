use Rattle.warnings.specs.laws.Listing.{listed_long}
use Rattle.warnings.proofs.list_warnings.Goals as goal

pub returns : goal.returns
returns c = listed_long c.args.skip c.args.numbers.now c.args.at.now c.args.text.now c.if-text-le-LONGEST.false
