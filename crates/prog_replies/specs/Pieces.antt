-- The input in pieces: the answers so far, and the line that has begun.
use Rattle.std.specs.Prelude.{◌≡◌, Bool, true, not, List, ◌++◌, ℕ, ◌-◌, ◌≤◌, ◌<◌, length, take, drop, get_or}
use Rattle.spec_lists.specs.Select.{all}
use Rattle.io.specs.Counts.{IsPrefixLen}
use Rattle.prog_text.specs.Put.{Put}
use Rattle.prog_replies.specs.Input.{ends_line, parted, replies, whole, cut, printed}

-- bytes of one line
abbrev pub plain : List ℕ → Bool
plain = all (λ b. not (ends_line b))

-- of a line that has begun as much is stored as shows whether it is too long: one byte more than the longest line has
abbrev pub room : ℕ
room = 256

-- the first n bytes of a buffer are those of the line h, as far as there is room
pub record Begun (buffer : List ℕ) (n : ℕ) (h : List ℕ) : Type 0 where
  pub within : n ≤ room
  pub same : take n buffer ≡ take room h
  pub line : plain h ≡ true

-- Behind a line h that has begun stands a piece: the answers to the lines that end in it are put, the line behind them has begun.
pub record Answers (table h piece out : List ℕ) (out' : List ℕ) (printed : ℕ) (buffer' : List ℕ) (count : ℕ) : Type 0 where
  pub answers : Put (replies table (parted (h ++ piece)).lines) out 0 out' printed
  pub begun : Begun buffer' count (parted (h ++ piece)).rest

-- a line of a piece spans the bytes from an offset to e
pub record LineSpan (piece : List ℕ) (at e : ℕ) : Type 0 where
  pub later : at ≤ e
  pub within : e ≤ length piece
  pub line : plain (take (e - at) (drop at piece)) ≡ true
  pub up_to : take e piece ≡ take at piece ++ take (e - at) (drop at piece)
  pub newline : e < length piece → get_or piece e 0 ≡ 10

-- the answers to a part of a piece become those to a longer part
abbrev pub Extends :
    (table s s' out : List ℕ) (printed : ℕ) (buffer : List ℕ) (count : ℕ) (out' : List ℕ) (printed' : ℕ) (buffer' : List ℕ) (count' : ℕ) → Type 0
Extends table s s' out printed buffer count out' printed' buffer' count' =
    (h out₀ : List ℕ) → Answers table h s out₀ out printed buffer count → Answers table h s' out₀ out' printed' buffer' count'

-- ---- what is promised, whatever was read and printed before

-- the buffer has its length, and its first bytes are of one line; what stands behind them is scratch, and no call looks at it
pub record State (buffer : List ℕ) (count : ℕ) : Type 0 where
  pub size : length buffer ≡ room
  pub within : count ≤ room
  pub line : plain (take count buffer) ≡ true

-- the bytes `before` were read, and `done` was printed for the lines that ended in them; the line that has begun is held
pub record Held (table before done buffer : List ℕ) (count : ℕ) : Type 0 where
  pub answers : done ≡ replies table (parted before).lines
  pub begun : Begun buffer count (parted before).rest
  pub stored : count ≤ length buffer

-- the most bytes of an answer with its newline, so that a piece has no more answers than that for each of its bytes
abbrev pub longest_reply : ℕ
longest_reply = 20

-- n bytes were written to the start of the lent bytes, and those behind stay
pub record Wrote (out out' : List ℕ) (n : ℕ) : Type 0 where
  pub counts : IsPrefixLen n out'
  pub rest : drop n out' ≡ drop n out

-- a piece is answered: what is written goes on from what was printed, to what is printed for all the lines that were read
pub record Responds (table piece out buffer : List ℕ) (count : ℕ) (out' : List ℕ) (n : ℕ) (buffer' : List ℕ) (count' : ℕ) : Type 0 where
  pub wrote : Wrote out out' n
  pub state : State buffer' count'
  pub answers : (before done : List ℕ) → Held table before done buffer count → Held table (before ++ piece) (done ++ take n out') buffer' count'

-- the input has ended: with what is written, all of it is answered
pub record Finishes (table buffer : List ℕ) (count : ℕ) (out out' : List ℕ) (n : ℕ) : Type 0 where
  pub wrote : Wrote out out' n
  pub answers : (before done : List ℕ) → Held table before done buffer count → done ++ take n out' ≡ printed table (whole before)

-- its reading has failed: with what is written, all of it is answered
pub record Cuts (count : ℕ) (out out' : List ℕ) (n : ℕ) : Type 0 where
  pub wrote : Wrote out out' n
  pub answers : (table before done buffer : List ℕ) → Held table before done buffer count → done ++ take n out' ≡ printed table (cut before)
