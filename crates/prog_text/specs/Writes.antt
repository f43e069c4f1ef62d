-- What a writer has written.
use Rattle.std.specs.Prelude.{List, ℕ}
use Rattle.prog_text.specs.declared.Writer.{Writer}
use Rattle.prog_text.specs.Put.{Put}

-- behind what it had written stands ws, as far as there is room
abbrev pub Writes : List ℕ → Writer → Writer → Type 0
Writes ws w w' = Put ws w.out.now w.at w'.out.now w'.at
