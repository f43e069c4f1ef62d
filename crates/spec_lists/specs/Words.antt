-- 01, "The stored table": "Little-endian 16-bit words."
use Rattle.std.specs.Prelude.{List, [], ◌∷◌, map, ℕ, zero, suc, ◌+◌, ◌*◌, ◌/◌, ◌%◌, take, drop}
use Rattle.spec_lists.specs.Select.{joined}

abbrev pub word_bytes : ℕ → List ℕ
word_bytes w = w % 256 ∷ w / 256 % 256 ∷ []

-- words as bytes
abbrev pub spelled_out : List ℕ → List ℕ
spelled_out ws = joined (map word_bytes ws)

-- bytes as words
abbrev pub words : List ℕ → List ℕ
words [] = []
words (lo ∷ []) = []
words (lo ∷ hi ∷ bs) = (lo + hi * 256) ∷ words bs

-- n records of w words each
abbrev pub records_of : ℕ → ℕ → List ℕ → List (List ℕ)
records_of w zero ws = []
records_of w (suc n) ws = take w ws ∷ records_of w n (drop w ws)
