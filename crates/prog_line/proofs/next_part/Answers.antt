use Rattle.std.proofs.Common.{arith}
use Rattle.prog_line.specs.laws.Parts.{no_first, no_second, first_part}
use Rattle.prog_line.proofs.next_part.Goals as goal
use Rattle.prog_line.proofs.next_part.Goals.{then-end-eq0-via-then-end-eq0, then-end-eq0-via-else-end-eq0+then-end-s}

pub returns-then-end-eq0 : goal.returns-then-end-eq0
returns-then-end-eq0 c =
    let v = c.part_length-end.ensures.value in
    elim c.then-end-eq0.branch [
      | then-end-eq0-via-then-end-eq0 w ↦ no_first c.args.s.now (omega arith)
      | then-end-eq0-via-else-end-eq0+then-end-s w ↦ no_second c.args.s.now (omega arith)
    ]

pub returns : goal.returns
returns c =
    let v = c.part_length-end.ensures.value in
    rw v (first_part c.args.s.now (λ e. omega arith) (λ e. omega arith))
