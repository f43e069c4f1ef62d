use Rattle.std.proofs.Common.{◌≡◌, List, ℕ}
use Rattle.prog_text.specs.Put.{Put}
use Rattle.prog_warnings.specs.Lines.{lines_by}
use Rattle.prog_warnings.proofs.put_warnings.Given as goal

abbrev pub invariant-loop-number : goal.invariant-loop-number
invariant-loop-number l = record {
  lent : l.w.out.ghost_name ≡ l.initial.w.out.ghost_name;
  left : (out' : List ℕ) (r : ℕ) → Put (lines_by l.number-iterator.a.rest.now l.number-iterator.b.rest.now) l.w.out.now l.w.at out' r
      → Put (lines_by l.numbers l.places) l.initial.w.out.now l.initial.w.at out' r;
}
