-- Each way out of an export answers and leaves what the definition says.
use Rattle.std.specs.Prelude.{◌≡◌, true, false, List, [], ◌++◌, ℕ, ◌<◌, length}
use Rattle.std.proofs.Math.Path.{refl}
use Rattle.std.proofs.Common.{arith}
use borrow.Author.Tests.{le-leb, lt-leb}
use Rattle.spec_lists.proofs.laws.Both.{both}
use Rattle.spec_table.specs.View.{view}
use Rattle.spec_table.specs.Check.{sections_stand, well_formed, is_table}
use Rattle.spec_export.specs.declared.Exported.TheVariants.{Written, NotTable, Unwritable, NoRoom}
use Rattle.spec_export.specs.Unwritable.{text_in, unwritable}
use Rattle.spec_export.specs.Export.{exported, export}
use Rattle.spec_export.proofs.laws.Bound.{text_in_bounded}
use Rattle.byte_write.specs.Put.{Put, usize_limit}
use Rattle.byte_write.specs.laws.Room.{measured, too_long, HasRoom, room_written}

-- a checked table's text is short enough to be written
pub text_fits : (b : List ℕ) → is_table b ≡ true → length (text_in (view b)) < usize_limit
unfolding is_table
text_fits b e = omega (arith, text_in_bounded (view b) (both (sections_stand b) (well_formed (view b)) e).1)

module _ (lent b : List ℕ) where
  pub no_table : is_table b ≡ false → record { answer = NotTable; bytes = lent } ≡ export lent b
  unfolding exported
  no_table e = rw e refl

  pub not_writable : is_table b ≡ true → unwritable (view b) ≡ true → record { answer = Unwritable; bytes = lent } ≡ export lent b
  unfolding exported
  not_writable e u = rw (e, u) refl

  pub no_room :
      {x : List ℕ} {k : ℕ} → is_table b ≡ true → unwritable (view b) ≡ false → Put [] x 0 (text_in (view b)) k → length (x ++ lent) < k
      → record { answer = NoRoom k; bytes = x ++ lent } ≡ export lent b
  unfolding exported
  no_room e u p l =
      let m = measured lent p in
      rw (e, u, lt-leb (length (text_in (view b))) (length lent) (too_long lent p l), m.0, m.1) refl

  pub in_room :
      {c l : List ℕ} {k r : ℕ} → is_table b ≡ true → unwritable (view b) ≡ false → k ≡ length (text_in (view b)) → HasRoom (text_in (view b)) lent l
      → Put l c 0 (text_in (view b)) r → record { answer = Written k; bytes = c } ≡ export lent b
  unfolding exported
  in_room e u n w p = rw (e, u, le-leb (length (text_in (view b))) (length lent) w.fits, (room_written w p).0, n) refl
