use Rattle.reg_renew.specs.laws.Renew.{Renewing}
use Rattle.reg_renew.proofs.renew_by.Given as goal

abbrev pub invariant-loop-p : goal.invariant-loop-p
invariant-loop-p l = Renewing l.table l.group l.outcomes l.initial.places l.p l.places l.m
