-- What stands at a place of the rest of a text, and at its end.
use Rattle.std.specs.Prelude.{◌≡◌, List, ℕ, ◌+◌, ◌<◌, ◌≤◌, length, slice_index}
use Rattle.std.specs.List.{between}
use Rattle.std.proofs.Common.{sym, ◌∙◌, ap, arith}
use Rattle.std.proofs.Math.ListN.{get_or-eq_default}
use Rattle.std.proofs.lemmas.List.Edits.{get_or-between, length-between}

pub here : (s : List ℕ) (at i p : ℕ) → p ≡ at + i → p < length s → slice_index (between at (length s) s) i ≡ slice_index s p
here s at i p e h = get_or-between s at (length s) i 0 (omega arith) ∙ ap (slice_index s) (sym e)

pub past : (s : List ℕ) (at i p : ℕ) → p ≡ at + i → length (between at (length s) s) ≤ i → 0 ≡ slice_index s p
past s at i p e h =
    let n = length-between s at (length s) (omega arith) in
    sym (get_or-eq_default s 0 (omega arith))
