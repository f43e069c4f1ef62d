use Rattle.std.proofs.Common.{length}
use Rattle.spec_file.specs.Load.{bad_calculation}
use Rattle.load_tokens.specs.Views.{starts, ends, roles}
use Rattle.load_spans.specs.laws.Search.{Searched}
use Rattle.load_calcs.specs.Input.{Gives, around_of}
use Rattle.load_calcs.proofs.bad_calculation.Given as goal

abbrev pub invariant-loop-i : goal.invariant-loop-i
invariant-loop-i l =
    record {
      searched : Searched bad_calculation l.t.text.now (starts l.t.list.now) (ends l.t.list.now) (roles l.t.list.now) (length l.t.list.now) l.i;
      given : Gives l.given (around_of l.t.text.now l.t.list.now l.i);
    }
