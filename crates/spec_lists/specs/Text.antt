-- Texts as lists of bytes, so that a definition can spell the papers' words and signs.
use Rattle.std.specs.Prelude.{Bool, true, false, cond, ◌&&◌, ◌||◌, List, [], ◌∷◌, map, ℕ, ◌+◌, ◌-◌, ◌*◌, eqb, leb}
use Prim.Native.Char.{code}
use Prim.Native.String as text
use Prim.Native.String.{String}

-- the bytes of an ASCII text
abbrev pub bytes : String → List ℕ
bytes text.[] = []
bytes (text.◌∷◌ c s) = code c ∷ bytes s

-- "bytes compared"
abbrev pub same : List ℕ → List ℕ → Bool
same [] [] = true
same [] (c ∷ t) = false
same (b ∷ s) [] = false
same (b ∷ s) (c ∷ t) = eqb b c && same s t

-- b is one of a list's bytes
abbrev pub one_of : List ℕ → ℕ → Bool
one_of [] b = false
one_of (c ∷ cs) b = eqb b c || one_of cs b

-- b is one of a text's characters
abbrev pub among : String → ℕ → Bool
among s b = one_of (bytes s) b

-- b lies in a range, its ends included
abbrev pub within : ℕ → ℕ → ℕ → Bool
within lo hi b = leb lo b && leb b hi

abbrev pub digit : ℕ → Bool
digit = within (code "0") (code "9")

abbrev pub capital : ℕ → Bool
capital = within (code "A") (code "Z")

abbrev pub small : ℕ → Bool
small = within (code "a") (code "z")

abbrev pub lower_byte : ℕ → ℕ
lower_byte b = cond (capital b) (b + (code "a" - code "A")) b

-- ASCII letters in lower case, all else as it is
abbrev pub lowered : List ℕ → List ℕ
lowered = map lower_byte

-- the whole number that decimal digits spell, after those that make up n
abbrev pub whole : ℕ → List ℕ → ℕ
whole n [] = n
whole n (d ∷ ds) = whole (n * 10 + (d - code "0")) ds
