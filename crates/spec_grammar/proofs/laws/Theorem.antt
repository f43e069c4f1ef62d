-- THE THEOREMS of the reader.
use Rattle.std.specs.Prelude.{◌≡◌, List, ℕ}
use Rattle.std.proofs.Common.{sym, ◌∙◌}
use Rattle.spec_token.specs.Token.{Token}
use Rattle.spec_grammar.specs.Sentence.{Tagged, Reads, Stops}
use Rattle.spec_grammar.specs.Reader.{parsed, stopped, start, read}
use Rattle.spec_grammar.proofs.laws.Sound.{read_from_sound, file, parsed_not_stopped}
use Rattle.spec_grammar.proofs.laws.Complete.{follows, read_from_complete}
use Rattle.spec_grammar.proofs.laws.Stopping.{read_from_halts, stops}

-- what is read, the productions derive
pub read_sound : (ts : List Token) (n : ℕ) (xs : List Tagged) → read ts n ≡ parsed xs → Reads ts xs
read_sound ts n xs e = let z = read_from_sound start ts n xs e in record { tokens = z.0; derived = file z.1 }

-- what the productions derive is read
pub read_complete : (ts : List Token) (n : ℕ) (xs : List Tagged) → Reads ts xs → read ts n ≡ parsed xs
read_complete ts n xs r = rw r.tokens at (read_from_complete start n xs (follows r.derived))

-- a file says one thing
pub one_parse : (ts : List Token) (xs ys : List Tagged) → Reads ts xs → Reads ts ys → xs ≡ ys
one_parse ts xs ys a b = cc (read_complete ts 0 xs a, read_complete ts 0 ys b)

-- the reader stops at the first token that no file could have there, or at the end if more must come
pub read_stops : (ts : List Token) (n p : ℕ) → read ts n ≡ stopped p → Stops ts n p
read_stops ts n p e = stops (read_from_halts start ts n p e)

-- and then the tokens are no file
pub stops_no_reading : (ts : List Token) (n p : ℕ) → read ts n ≡ stopped p → (xs : List Tagged) → Reads ts xs → ⊥
stops_no_reading ts n p e xs r = parsed_not_stopped (sym (read_complete ts n xs r) ∙ e)
