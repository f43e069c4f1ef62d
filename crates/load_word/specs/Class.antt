-- The classes of bytes, as the code names them.
use Rattle.std.specs.Prelude.{Bool, ℕ}
use Rattle.spec_lists.specs.Text.{digit}
use Rattle.spec_token.specs.Word.{name_byte}
use Rattle.spec_token.specs.Scanner.{other}
use Rattle.load_word.specs.declared.Class.{Class}
use Rattle.load_word.specs.declared.Class.TheVariants.{Name, Digit, Comment}

-- whether a byte is of a class
abbrev pub belongs : Class → ℕ → Bool
belongs Name = name_byte
belongs Digit = digit
belongs Comment = other
