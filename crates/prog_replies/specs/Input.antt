-- The asker's input, and what is printed for it. 01, "Two programs".
use Rattle.std.specs.Prelude.{Bool, cond, List, [], ◌∷◌, ◌++◌, ℕ, eqb}
use Rattle.prog_text.specs.Text.{line}
use Rattle.prog_words.specs.Words.{refused_line}
use Rattle.prog_reply.specs.Reply.{reply}

-- the newline, which ends a line
abbrev pub ends_line : ℕ → Bool
ends_line b = eqb b 10

-- the lines that a newline ends, and what stands behind the last of them
pub record Parted : Type 0 where
  pub lines : List (List ℕ)
  pub rest : List ℕ

-- a byte before all of it: in the first line
abbrev pub in_first : ℕ → List (List ℕ) → List ℕ → Parted
in_first b [] r = record { lines = []; rest = b ∷ r }
in_first b (l ∷ ls) r = record { lines = (b ∷ l) ∷ ls; rest = r }

unfoldable pub parted : List ℕ → Parted
parted [] = record { lines = []; rest = [] }
parted (b ∷ s) =
    cond (ends_line b)
    (record { lines = [] ∷ (parted s).lines; rest = (parted s).rest })
    (in_first b (parted s).lines (parted s).rest)

-- 01: "the last may lack it". Nothing behind the last newline is no line.
abbrev pub last_line : List ℕ → List (List ℕ)
last_line [] = []
last_line (b ∷ s) = (b ∷ s) ∷ []

-- 01: "lines of standard input"
abbrev pub lines_of : List ℕ → List (List ℕ)
lines_of s = (parted s).lines ++ last_line (parted s).rest

-- for some lines
unfoldable pub replies : List ℕ → List (List ℕ) → List ℕ
replies table [] = []
replies table (l ∷ ls) = reply table l ++ replies table ls

-- an input that is read to its end, or whose reading fails behind some bytes
pub data Input : Type 0 where
  whole : List ℕ → Input
  cut : List ℕ → Input

-- A line that a fault of reading cuts is refused: what it would have asked is not known. Where no byte of it came, it is none.
abbrev pub cut_line : List ℕ → List ℕ
cut_line [] = []
cut_line (b ∷ s) = line refused_line

-- for all of the input
abbrev pub printed : List ℕ → Input → List ℕ
printed table (whole s) = replies table (lines_of s)
printed table (cut s) = replies table (parted s).lines ++ cut_line (parted s).rest
