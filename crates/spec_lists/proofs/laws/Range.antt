-- A byte in a range or outside.
use Rattle.std.specs.Prelude.{◌≡◌, refl, Bool, true, false, ◌&&◌, ℕ, ◌≤◌, ◌<◌, leb}
use Rattle.std.proofs.Common.{leb-true, le-leb}
use Rattle.std.proofs.lemmas.Bool.{lt-leb}
use Rattle.spec_lists.specs.Text.{within}
use Rattle.spec_lists.proofs.laws.Both.{both}

pub below : (lo hi b : ℕ) → b < lo → within lo hi b ≡ false
below lo hi b h = rw (lt-leb lo b h)

pub above : (lo hi b : ℕ) → hi < b → within lo hi b ≡ false
above lo hi b h = go (leb lo b)
  where
    go : (t : Bool) → t && leb b hi ≡ false
    go true = lt-leb b hi h
    go false = refl

pub inside : (lo hi b : ℕ) → lo ≤ b → b ≤ hi → within lo hi b ≡ true
inside lo hi b l h = rw (le-leb lo b l, le-leb b hi h)

pub bounded : (lo hi b : ℕ) → within lo hi b ≡ true → (lo ≤ b) × (b ≤ hi)
bounded lo hi b e = let z = both (leb lo b) (leb b hi) e in (leb-true lo b z.0, leb-true b hi z.1)
