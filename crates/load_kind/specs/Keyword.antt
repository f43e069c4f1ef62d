-- The keywords that stand for themselves. 001, "Lexical tokens".
use Rattle.std.specs.Prelude.{cond, List, ℕ, Option, Some, None}
use Rattle.spec_lists.specs.Text.{bytes, same}
use Rattle.spec_token.specs.declared.Kind.{Kind}
use Rattle.spec_token.specs.declared.Kind.TheVariants.{Uag, Hag, Asg, Rule, Calc}

abbrev pub keyword : List ℕ → Option Kind
keyword w =
    cond (same w (bytes "UAG")) (Some Uag)
    (cond (same w (bytes "HAG")) (Some Hag)
    (cond (same w (bytes "ASG")) (Some Asg)
    (cond (same w (bytes "RULE")) (Some Rule)
    (cond (same w (bytes "CALC")) (Some Calc) None))))
