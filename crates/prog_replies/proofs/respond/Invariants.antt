use Rattle.std.proofs.Common.{length, ◌-◌, ◌+◌, ◌≤◌, ◌≡◌, List, ℕ, take}
use Rattle.prog_replies.specs.Pieces.{room, Begun, Answers}
use Rattle.prog_replies.proofs.respond.Given as goal

abbrev pub invariant-loop-at : goal.invariant-loop-at
invariant-loop-at l = record {
  held_lent : l.held.out.ghost_name ≡ l.initial.held.out.ghost_name;
  lent : l.w.out.ghost_name ≡ l.initial.w.out.ghost_name;
  size : length l.held.out.now ≡ room;
  within : l.at ≤ length l.piece + 1;
  answers : (h : List ℕ) → Begun l.initial.held.out.now l.initial.held.at h
      → Answers l.table h (take l.at l.piece) l.initial.w.out.now l.w.out.now l.w.at l.held.out.now l.held.at;
}

abbrev pub decreases-loop-at : goal.decreases-loop-at
decreases-loop-at l = length l.piece - l.at
