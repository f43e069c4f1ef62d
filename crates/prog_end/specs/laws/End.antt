-- With what is printed at the end, all of the input is answered.
use Rattle.std.proofs.Common.{sym, ap, ◌∙◌, arith, take_all, length-take-le}
use Rattle.std.specs.Prelude.{List, [], ◌∷◌, ◌++◌, ℕ, ◌≤◌, length, take}
use Rattle.prog_text.specs.Put.{Put}
use Rattle.prog_text.specs.laws.Put.{put_whole}
use Rattle.prog_replies.specs.Input.{parted, last_line, replies}
use Rattle.prog_replies.specs.Pieces.{room, Begun, State, longest_reply, Finishes}
use Rattle.prog_replies.specs.laws.Pieces.{replies_append}
use Rattle.prog_replies.specs.laws.Room.{short_replies}
use Rattle.prog_replies.specs.laws.History.{wrote}

one_line : (h : List ℕ) → length (last_line h) ≤ 1
one_line [] = omega arith
one_line (b ∷ h) = omega arith

module _ {out out' : List ℕ} {count n : ℕ} (room_for : longest_reply ≤ length out) where
  pub finishes :
      {table buffer : List ℕ} → State buffer count → ((h : List ℕ) → Begun buffer count h → Put (replies table (last_line h)) out 0 out' n)
      → Finishes table buffer count out out' n
  finishes {table} {buffer} s f =
      let h = take count buffer in
      let l = length-take-le count buffer (let z = s.within in let y = s.size in omega arith) in
      let own = f h (record { within = s.within; same = sym (take_all room h (let z = s.within in omega arith)); line = s.line }) in
      record {
        wrote = wrote own (fits h);
        answers = λ before done k.
            ap (λ (x : List ℕ). done ++ x) (put_whole (f (parted before).rest k.begun) (fits (parted before).rest))
            ∙ ap (λ (x : List ℕ). x ++ replies table (last_line (parted before).rest)) k.answers
            ∙ sym (replies_append table (parted before).lines (last_line (parted before).rest));
      }
    where
      fits : (h : List ℕ) → length (replies table (last_line h)) ≤ length out
      fits h = omega (arith, short_replies table (last_line h), one_line h, room_for)
