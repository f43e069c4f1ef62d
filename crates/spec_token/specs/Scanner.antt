-- A machine that decides what Word.antt and Token.antt say. That it agrees with them is proved in proofs/laws/Agreement.antt, so nobody has to believe it.
use Rattle.std.specs.Prelude.{Bool, true, false, not, ◌&&◌, cond, List, [], ◌∷◌, ℕ, zero, suc, ◌+◌, eqb, length, drop, get_or, take}
use Prim.Native.Char.{code}
use Rattle.spec_lists.specs.Text.{bytes, same, among, within, digit}
use Rattle.spec_lists.specs.Select.{nonempty, run, after}
use Rattle.spec_token.specs.declared.Kind.{Kind}
use Rattle.spec_token.specs.declared.Kind.TheVariants.{Uag, Hag, Asg, Rule, Calc, Inp, Int, Float, String, OpenParen, CloseParen, OpenBrace}
use Rattle.spec_token.specs.declared.Kind.TheVariants.{CloseBrace, Comma}
use Rattle.spec_token.specs.Word.{blank, newline, name_byte, unsigned}
use Rattle.spec_token.specs.Token.{Tokens, tokens, bad, then}

-- ---- words

abbrev pub digits : List ℕ → Bool
digits s = nonempty (run digit s) && not (nonempty (after digit s))

abbrev pub int : List ℕ → Bool
int s = digits (unsigned s)

abbrev pub exponent : List ℕ → Bool
exponent [] = true
exponent (b ∷ s) = among "eE" b && digits (unsigned s)

abbrev pub fraction : List ℕ → Bool
fraction [] = false
fraction (b ∷ s) = among "." b && (nonempty (run digit s) && exponent (after digit s))

abbrev pub float : List ℕ → Bool
float s = fraction (after digit (unsigned s))

abbrev pub inp : List ℕ → Bool
inp s = same (take 3 s) (bytes "INP") && (eqb (length s) 4 && within (code "A") (code "U") (get_or s 3 0))

abbrev pub word_kind : List ℕ → Kind
word_kind s =
    cond (same s (bytes "UAG")) Uag
    (cond (same s (bytes "HAG")) Hag
    (cond (same s (bytes "ASG")) Asg
    (cond (same s (bytes "RULE")) Rule
    (cond (same s (bytes "CALC")) Calc
    (cond (inp s) Inp (cond (int s) Int (cond (float s) Float String)))))))

-- ---- quoted texts

-- what stands behind an opening quote: a text and what follows its closing quote, or a bare newline's place, or no end
pub data Quoted : Type 0 where
  closed : List ℕ → List ℕ → Quoted
  broken : ℕ → Quoted
  unclosed : Quoted

abbrev pub also : ℕ → Quoted → Quoted
also b (closed s r) = closed (b ∷ s) r
also b (broken p) = broken p
also b unclosed = unclosed

-- The Bool: the byte before was the backslash of an escape. The number: the place of the first byte.
abbrev pub quoted : Bool → ℕ → List ℕ → Quoted
quoted escaped p [] = unclosed
quoted true p (b ∷ s) = also b (quoted false (p + 1) s)
quoted false p (b ∷ s) =
    cond (among "\"" b) (closed [] s) (cond (newline b) (broken p) (also b (quoted (among "\\" b) (p + 1) s)))

-- ---- tokens

abbrev pub alone : ℕ → Bool
alone = among "(){},"

abbrev pub punctuation : ℕ → Kind
punctuation b = cond (among "(" b) OpenParen (cond (among ")" b) CloseParen (cond (among "{" b) OpenBrace (cond (among "}" b) CloseBrace Comma)))

-- what the byte b begins
pub data Lexeme : Type 0 where
  nothing comment quote stop word wrong : Lexeme

abbrev pub other : ℕ → Bool
other b = not (newline b)

abbrev pub lexeme_of : ℕ → Lexeme
lexeme_of b =
    cond (blank b) nothing
    (cond (among "#" b) comment (cond (among "\"" b) quote (cond (alone b) stop (cond (name_byte b) word wrong))))

-- The tokens from the place p on. The first number bounds the steps: each takes a byte, so a text's length is enough.
unfoldable pub scan : ℕ → ℕ → List ℕ → Tokens
scan zero p [] = tokens []
scan zero p (b ∷ s) = bad p
scan (suc n) p [] = tokens []
scan (suc n) p (b ∷ s) =
    elim (lexeme_of b) [
      | nothing ↦ scan n (p + 1) s
      | comment ↦ scan n (p + 1 + length (run other s)) (after other s)
      | quote ↦
          elim (quoted false (p + 1) s) [
            | closed t r ↦ then (record { kind = String; place = p; text = t }) (scan n (p + 2 + length t) r)
            | broken q ↦ bad q
            | unclosed ↦ bad p
          ]
      | stop ↦ then (record { kind = punctuation b; place = p; text = b ∷ [] }) (scan n (p + 1) s)
      | word ↦
          let w : List ℕ = run name_byte (b ∷ s) in
          then (record { kind = word_kind w; place = p; text = w }) (scan n (p + length w) (after name_byte (b ∷ s)))
      | wrong ↦ bad p
    ]

-- the tokens of a whole text
abbrev pub scanned : List ℕ → Tokens
scanned s = scan (length s) 0 s

-- the tokens from a place on
abbrev pub scan_from : List ℕ → ℕ → Tokens
scan_from s at = scan (length s) at (drop at s)
