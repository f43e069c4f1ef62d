-- What a test for a byte at an offset says of the element there. Assumes nothing.
use Rattle.std.specs.Prelude.{◌≡◌, ◌≢◌, ◌↔◌, ℕ, ◌<◌, Bool, true, false, List, length, slice_get, slice_index, Some, ltb, IsTrue}
use Rattle.std.proofs.Common.{◌∙◌, sym, ap, refl, arith}
use Rattle.std.proofs.lemmas.Option.{get_or_from_slice_get, slice_get-get_or, slice_get_within}
use Rattle.std.proofs.lemmas.Bool.{lt-ltb, false≢true}
use Rattle.calc_numeral.specs.laws.Runs.{passed_inside}

module _ (s : List ℕ) (p b : ℕ) {r : Bool} (t : IsTrue r ↔ (slice_get s p ≡ Some b)) where
  pub stands : r ≡ true → slice_index s p ≡ b
  stands e = get_or_from_slice_get s p b 0 (t.0 e)

  pub stands_inside : r ≡ true → p < length s
  stands_inside e = slice_get_within s p b (t.0 e)

  -- another byte stands there, or none, where b is not 0
  pub differs : 0 < b → r ≡ false → slice_index s p ≢ b
  differs h n e =
      false≢true
      (sym n ∙ t.1 (slice_get-get_or s p 0 (passed_inside (ltb 0) s p refl (lt-ltb 0 (slice_index s p) (omega arith))) ∙ ap Some e))
