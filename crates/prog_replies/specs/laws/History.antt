-- What was printed for pieces, one after the other, is what is printed for all of them.
use Rattle.std.specs.Prelude.{◌≡◌, List, ◌++◌, ℕ, ◌+◌, ◌*◌, ◌≤◌, length, take, drop}
use Rattle.std.proofs.Common.{sym, ap, subst, ◌∙◌, arith, take_all, length-take-le, drop_at}
use Rattle.std.proofs.lemmas.List.Edits.{sets-eq}
use Rattle.prog_text.specs.Put.{Put}
use Rattle.prog_text.specs.laws.Put.{reached_fits, put_within}
use Rattle.prog_replies.specs.Input.{Parted, parted, replies}
use Rattle.prog_replies.specs.Pieces.{room, Begun, Answers, State, Held, longest_reply, Wrote, Responds}
use Rattle.prog_replies.specs.laws.Pieces.{plain_take, parted_append, replies_append}
use Rattle.prog_replies.specs.laws.Room.{short_replies, stand_whole, few_behind}

-- a text that has room: the bytes behind it stay
pub wrote : {ws out out' : List ℕ} {n : ℕ} → Put ws out 0 out' n → length ws ≤ length out → Wrote out out' n
wrote {ws} {out} {out'} {n} p h =
    let e : n ≡ length ws = p.end ∙ reached_fits (length out) (0 + length ws) (omega arith) ∙ (let y : 0 + length ws ≡ length ws = omega arith in y) in
    record {
      counts = (put_within p, sym (length-take-le _ _ (put_within p)));
      rest =
          ap (drop n) (p.bytes ∙ sets-eq ws out 0 (omega arith))
          ∙ drop_at ws (drop (0 + length ws) out) n (sym e)
          ∙ ap (λ (k : ℕ). drop k out) (let z : 0 + length ws ≡ n = omega arith in z);
    }

module _ {table piece out buffer out' buffer' : List ℕ} {count n count' : ℕ} where
  pub responds :
      State buffer count → longest_reply * length piece ≤ length out → length buffer' ≡ room → count' ≤ room
      → ((h : List ℕ) → Begun buffer count h → Answers table h piece out out' n buffer' count') → Responds table piece out buffer count out' n buffer' count'
  responds s room_for size within f =
      let h = take count buffer in
      let l = length-take-le count buffer (let z = s.within in let y = s.size in omega arith) in
      let own = f h (record { within = s.within; same = sym (take_all room h (let z = s.within in omega arith)); line = s.line }) in
      let fits : length (replies table (parted (h ++ piece)).lines) ≤ length out =
      omega (arith, short_replies table (parted (h ++ piece)).lines, few_behind h piece s.line, room_for) in
      record {
        wrote = wrote own.answers fits;
        state = record { size = size; within = within; line = rw own.begun.same (plain_take room (parted (h ++ piece)).rest own.begun.line) };
        answers = λ before done k. goes_on before done k (f (parted before).rest k.begun) room_for size within;
      }
    where
      goes_on :
          (before done : List ℕ) → Held table before done buffer count → Answers table (parted before).rest piece out out' n buffer' count'
          → longest_reply * length piece ≤ length out → length buffer' ≡ room → count' ≤ room
          → Held table (before ++ piece) (done ++ take n out') buffer' count'
      goes_on before done k a room_for size within =
          let p = parted_append before piece in
          record {
            answers =
                ap (λ (x : List ℕ). done ++ x) (stand_whole a k.begun.line room_for)
                ∙ ap (λ (x : List ℕ). x ++ replies table (parted ((parted before).rest ++ piece)).lines) k.answers
                ∙ sym (replies_append table (parted before).lines (parted ((parted before).rest ++ piece)).lines)
                ∙ ap (λ (q : Parted). replies table q.lines) (sym p);
            begun = subst (λ (q : Parted). Begun buffer' count' q.rest) (sym p) a.begun;
            stored = omega arith;
          }
