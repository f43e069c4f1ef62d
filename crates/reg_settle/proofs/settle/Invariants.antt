use Rattle.reg_settle.specs.laws.Settle.{Settling}
use Rattle.reg_settle.proofs.settle.Given as goal

abbrev pub invariant-loop-p : goal.invariant-loop-p
invariant-loop-p l = Settling l.table l.initial.places l.p l.places l.m
