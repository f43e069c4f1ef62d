-- How much room answers need: 20 bytes for each byte of a piece are enough.
use Rattle.std.specs.Prelude.{◌≡◌, refl, List, [], ◌∷◌, ◌++◌, ℕ, suc, ◌*◌, ◌≤◌, length, take}
use mathlib.Core.Bool.{Bool, true, false}
use Rattle.std.proofs.Common.{arith, length-append}
use Rattle.prog_text.specs.laws.Put.{put_whole}
use Rattle.prog_reply.specs.Reply.{reply}
use Rattle.prog_reply.specs.laws.Length.{short_reply}
use Rattle.prog_replies.specs.Input.{ends_line, in_first, parted, replies}
use Rattle.prog_replies.specs.Pieces.{plain, Answers}
use Rattle.prog_replies.specs.laws.Pieces.{by_first}

pub short_replies : (table : List ℕ) (ls : List (List ℕ)) → length (replies table ls) ≤ 20 * length ls
unfolding replies
short_replies table [] = omega arith
short_replies table (l ∷ ls) =
    let z = length-append (reply table l) (replies table ls) in let y = short_reply table l in let x = short_replies table ls in omega arith

as_many : (b : ℕ) (ls : List (List ℕ)) (r : List ℕ) → length (in_first b ls r).lines ≡ length ls
as_many b [] r = refl
as_many b (l ∷ ls) r = refl

few_lines : (p : List ℕ) → length (parted p).lines ≤ length p
unfolding parted
few_lines [] = omega arith
few_lines (b ∷ p) = go (ends_line b) refl (few_lines p)
  where
    go : (t : Bool) → ends_line b ≡ t → length (parted p).lines ≤ length p → length (parted (b ∷ p)).lines ≤ suc (length p)
    go true e i = rw e (omega arith)
    go false e i = rw e (let z = as_many b (parted p).lines (parted p).rest in omega arith)

pub few_behind : (h p : List ℕ) → plain h ≡ true → length (parted (h ++ p)).lines ≤ length p
unfolding parted
few_behind [] p k = few_lines p
few_behind (b ∷ h) p k = go (ends_line b) refl (few_behind h p)
  where
    go : (t : Bool) → ends_line b ≡ t → (plain h ≡ true → length (parted (h ++ p)).lines ≤ length p) → length (parted (b ∷ (h ++ p))).lines ≤ length p
    go true e i = absurd (mathlib.Core.Bool.false≢true (by_first b h true e k))
    go false e i = rw e (let z = as_many b (parted (h ++ p)).lines (parted (h ++ p)).rest in let y = i (by_first b h false e k) in omega arith)

-- with that room the answers stand whole at the start
pub stand_whole :
    {table h piece out out' buffer : List ℕ} {printed count : ℕ} → Answers table h piece out out' printed buffer count → plain h ≡ true
    → 20 * length piece ≤ length out
    → take printed out' ≡ replies table (parted (h ++ piece)).lines
stand_whole {table} {h} {piece} a k r =
    put_whole a.answers (let z = short_replies table (parted (h ++ piece)).lines in let y = few_behind h piece k in omega arith)
