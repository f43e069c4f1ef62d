-- What a byte begins, as the code says it.
use Rattle.spec_token.specs.Scanner.{Lexeme, nothing, comment, quote, stop, word, wrong}
use Rattle.load_word.specs.declared.Start.{Start}
use Rattle.load_word.specs.declared.Start.TheVariants as start

abbrev pub start_of : Lexeme → Start
start_of nothing = start.Blank
start_of comment = start.Comment
start_of quote = start.Quote
start_of stop = start.Stop
start_of word = start.Word
start_of wrong = start.Wrong
