use Rattle.std.proofs.Common.{refl}
use Rattle.warnings.specs.laws.Listing.{listed_refused, listed_warnings}
use Rattle.warnings.proofs.list_by.Goals as goal

pub returns-in-Err : goal.returns-in-Err
returns-in-Err g c = listed_refused c.in-Err.ensures.judged c.args.skip c.args.numbers.now c.args.at.now refl

pub returns-in-Ok : goal.returns-in-Ok
returns-in-Ok g c = listed_warnings c.in-Ok.ensures.judged c.args.skip c.args.numbers.now c.args.at.now refl c.warnings-count.ensures
