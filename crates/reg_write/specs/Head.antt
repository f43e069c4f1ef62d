-- The bytes of a place before the names.
use Rattle.std.specs.Prelude.{List, [], ◌∷◌, ℕ, length}
use Rattle.spec_register.specs.Register.{Client}

-- that it is taken, the level, and the lengths of the names
abbrev pub head_bytes : Client → List ℕ
head_bytes c = 1 ∷ c.level ∷ length c.group ∷ length c.user ∷ length c.host ∷ []
