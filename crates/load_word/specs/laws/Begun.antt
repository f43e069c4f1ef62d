-- What a byte begins, from the code's answer back.
use Rattle.std.specs.Prelude.{◌≡◌, refl}
use Rattle.std.proofs.Common.{sym, ap, ◌∙◌}
use Rattle.spec_token.specs.Scanner.{Lexeme, nothing, comment, quote, stop, word, wrong}
use Rattle.load_word.specs.declared.Start.{Start}
use Rattle.load_word.specs.declared.Start.TheVariants as start
use Rattle.load_word.specs.Start.{start_of}

abbrev begins_of : Start → Lexeme
begins_of start.Blank = nothing
begins_of start.Comment = comment
begins_of start.Quote = quote
begins_of start.Stop = stop
begins_of start.Word = word
begins_of start.Wrong = wrong

begins_back : (k : Lexeme) → begins_of (start_of k) ≡ k
begins_back nothing = refl
begins_back comment = refl
begins_back quote = refl
begins_back stop = refl
begins_back word = refl
begins_back wrong = refl

-- what the code says is so
pub so : {r x : Start} {k : Lexeme} → r ≡ start_of k → r ≡ x → k ≡ begins_of x
so {r} {x} {k} e h = sym (begins_back k) ∙ ap begins_of (sym e ∙ h)
