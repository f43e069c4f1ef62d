use Rattle.prog_ask.proofs.answer.Goals as goal

pub serve-requires : goal.serve-requires
serve-requires g c = (rw c.in-Ok.is at c.begin.ensures).1

pub slice_bounds-out-end : goal.slice_bounds-out-end
slice_bounds-out-end g c = (rw c.in-Err.is at c.begin.ensures).1.0

pub slice_bounds-put-end : goal.slice_bounds-put-end
slice_bounds-put-end g c = (rw c.in-Err.is at c.begin.ensures).1.1

pub returns-in-Ok : goal.returns-in-Ok
returns-in-Ok g c = (rw c.in-Ok.is at c.begin.ensures).0

pub returns-in-Err : goal.returns-in-Err
returns-in-Err g c = (rw c.in-Err.is at c.begin.ensures).0
