-- Laws of tests: two that hold together, or fail together, one beside one that fails, and one that cannot be.
use Rattle.std.specs.Prelude.{◌≡◌, refl, Bool, true, false, ◌&&◌, ◌||◌}
use Rattle.std.proofs.Common.{sym}
use Rattle.std.proofs.lemmas.Bool.{false≢true}

pub both : (a b : Bool) → a && b ≡ true → (a ≡ true) × (b ≡ true)
both true b e = (refl, e)
both false b e = absurd (false≢true e)

pub neither : (a b : Bool) → a || b ≡ false → (a ≡ false) × (b ≡ false)
neither true b e = absurd (false≢true (sym e))
neither false b e = (refl, e)

pub or_false : (b : Bool) → b || false ≡ b
or_false true = refl
or_false false = refl

pub absurd_bool : {A : Type 0} → true ≡ false → A
absurd_bool e = absurd (false≢true (sym e))
