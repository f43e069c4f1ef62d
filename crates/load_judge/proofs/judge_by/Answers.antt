use Rattle.load_judge.specs.laws.Judged.{handed_on, judged_accepted, judged_refused, refused_early}
use Rattle.load_judge.proofs.judge_by.Goals as goal

pub returns-in_err-n : goal.returns-in_err-n
returns-in_err-n g c = handed_on (refused_early c.requires.capacity.short c.read.ensures.read c.in_err-n.was) c.from_residual.ensures.1

pub returns-in_err-by_causes : goal.returns-in_err-by_causes
returns-in_err-by_causes g c =
    handed_on
    (judged_refused c.requires.capacity.short c.read.ensures.read c.in_ok-n.was c.in_err-by_causes.ensures.judged)
    c.from_residual-in_err-by_causes.ensures.1

pub returns : goal.returns
returns g c = judged_accepted c.requires.capacity.short c.read.ensures.read c.in_ok-n.was c.in_ok-by_causes.ensures.judged
