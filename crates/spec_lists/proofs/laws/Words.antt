-- Words and records read back from the bytes that spell them.
use Rattle.std.specs.Prelude.{◌≡◌, refl, List, [], ◌∷◌, ◌++◌, ℕ, suc, ◌+◌, ◌*◌, ◌<◌, length}
use Rattle.std.proofs.Common.{ap, ap₂, ◌∙◌, zero-add, suc-add, suc-mul, mul_assoc, arith, length-append, take_at, drop_at}
use Rattle.spec_lists.specs.Select.{joined}
use Rattle.spec_lists.specs.Words.{spelled_out, words, records_of}
use Rattle.spec_lists.specs.Every.{Every, nil, cons}
use Rattle.spec_lists.proofs.laws.Every.{every_implies, every_joined}

-- "16-bit"
abbrev pub Word : ℕ → Type 0
Word w = w < 65536

-- a record of n words
pub data Row : ℕ → List ℕ → Type 0 where
  end : Row 0 []
  word : {w n : ℕ} {ws : List ℕ} → Word w → Row n ws → Row (suc n) (w ∷ ws)

pub row_length : {n : ℕ} {ws : List ℕ} → Row n ws → length ws ≡ n
row_length end = refl
row_length (word p r) = ap suc (row_length r)

pub row_words : {n : ℕ} {ws : List ℕ} → Row n ws → Every Word ws
row_words end = nil
row_words (word p r) = cons p (row_words r)

pub row_append : {m n : ℕ} {vs ws : List ℕ} → Row m vs → Row n ws → Row (m + n) (vs ++ ws)
row_append end s = rw zero-add s
row_append (word p r) s = rw suc-add (word p (row_append r s))

pub length_spelled : (ws : List ℕ) → length (spelled_out ws) ≡ length ws * 2
length_spelled [] = refl
length_spelled (w ∷ ws) = omega (arith, length_spelled ws)

pub words_back : {ws : List ℕ} → Every Word ws → words (spelled_out ws) ≡ ws
words_back nil = refl
words_back (cons {x = w} p e) = ap₂ (λ (v : ℕ) (vs : List ℕ). v ∷ vs) (omega arith) (words_back e)

module _ {n : ℕ} where
  pub rows_back : {rs : List (List ℕ)} → Every (Row n) rs → records_of n (length rs) (joined rs) ≡ rs
  rows_back nil = refl
  rows_back (cons {x = r} {xs = rs} p e) =
      ap₂
      (λ (v : List ℕ) (vs : List (List ℕ)). v ∷ vs)
      (take_at r (joined rs) n (row_length p))
      (ap (λ (l : List ℕ). records_of n (length rs) l) (drop_at r (joined rs) n (row_length p)) ∙ rows_back e)

  rows_length : {rs : List (List ℕ)} → Every (Row n) rs → length (joined rs) ≡ length rs * n
  rows_length nil = omega arith
  rows_length (cons {x = r} {xs = rs} p e) = omega (arith, length-append r (joined rs), row_length p, rows_length e, suc-mul (length rs) n)

  pub spelled_rows_length : {rs : List (List ℕ)} → Every (Row n) rs → length rs * (n * 2) ≡ length (spelled_out (joined rs))
  spelled_rows_length {rs} e = omega (arith, length_spelled (joined rs), rows_length e, mul_assoc (length rs) n 2)

  -- the records that stand in their bytes
  pub spelled_rows_back : {rs : List (List ℕ)} → Every (Row n) rs → records_of n (length rs) (words (spelled_out (joined rs))) ≡ rs
  spelled_rows_back {rs} e =
      ap (λ (l : List ℕ). records_of n (length rs) l) (words_back (every_joined (every_implies (λ r. row_words) e))) ∙ rows_back e
