-- Comparing pair by pair, the first byte lowered.
use Rattle.std.specs.Prelude.{◌≡◌, Bool, false, List, ◌≢◌, ℕ, length}
use Rattle.std.specs.List.{zip, list_all}
use Rattle.spec_lists.specs.Text.{same, lower_byte, lowered}
use Rattle.spec_lists.proofs.laws.Same.{same_length}
use Rattle.byte_compare.proofs.Pairs.{alike_by, pairs_by}

abbrev pub alike : ℕ × ℕ → Bool
alike = alike_by lower_byte

pub other_length : (a b : List ℕ) → length a ≢ length b → same (lowered a) b ≡ false
other_length a b h = same_length lower_byte a b h

pub pairs_alike : (a b : List ℕ) → length a ≡ length b → list_all alike (zip a b) ≡ same (lowered a) b
pairs_alike a b h = pairs_by lower_byte a b h
