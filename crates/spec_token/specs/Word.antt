-- The bytes of a file and the kinds of its words. 01, "Reading the text"; 001, "Lexical tokens". No scanner stands here.
use Rattle.std.specs.Prelude.{◌≡◌, Bool, true, ◌&&◌, ◌||◌, cond, List, [], ◌∷◌, ◌++◌, ℕ, ◌-◌, get_or}
use Prim.Native.Char.{code}
use Rattle.spec_lists.specs.Text.{bytes, among, within, digit, capital, small}
use Rattle.spec_lists.specs.Select.{nonempty, all}
use Rattle.spec_token.specs.declared.Kind.{Kind}
use Rattle.spec_token.specs.declared.Kind.TheVariants.{Uag, Hag, Asg, Rule, Calc, Inp, Int, Float, String}

-- 01: "Space, tab, CR and newline part tokens."
abbrev pub blank : ℕ → Bool
blank = among " \t\r\n"

abbrev pub newline : ℕ → Bool
newline = among "\n"

-- 01: "letters, digits and `_ - + : . [ ] < > ;` (ASCII)"; 001's NAMECHAR
abbrev pub name_byte : ℕ → Bool
name_byte b = capital b || small b || digit b || among "_-+:.[]<>;" b

-- a text without the sign that it may begin with: 001's [ "+" | "-" ]?
abbrev pub unsigned : List ℕ → List ℕ
unsigned [] = []
unsigned (b ∷ s) = cond (among "+-" b) s (b ∷ s)

-- 001's DIGIT+
abbrev pub Digits : List ℕ → Type 0
Digits s = nonempty s && all digit s ≡ true

-- 001: [ ( "e" | "E" ) [ "+" | "-" ] DIGIT+ ]?, the sign optional too
pub data Exponent : List ℕ → Type 0 where
  none : Exponent []
  power : {b : ℕ} {s : List ℕ} → among "eE" b ≡ true → Digits (unsigned s) → Exponent (b ∷ s)

-- 001: FLOAT ::= [ "+" | "-" ]? DIGIT* "." DIGIT+ [ ( "e" | "E" ) [ "+" | "-" ] DIGIT+ ]?
pub record FloatForm (w : List ℕ) : Type 0 where
  pub before : List ℕ
  pub behind : List ℕ
  pub last : List ℕ
  pub parts : unsigned w ≡ before ++ (bytes "." ++ (behind ++ last))
  pub whole : all digit before ≡ true
  pub fraction : Digits behind
  pub exponent : Exponent last

-- 01: "letter 0 to 20"
abbrev pub greatest_letter : ℕ
greatest_letter = 20

-- the number of an INP word's letter, A being 0
abbrev pub link_letter : List ℕ → ℕ
link_letter s = get_or s 3 0 - code "A"

-- 01: "It is a keyword if it is UAG, HAG, ASG, RULE, CALC or INP with one letter A to U; else an INT or a FLOAT if it has 001's form"
pub data Form (w : List ℕ) : Kind → Type 0 where
  uag : w ≡ bytes "UAG" → Form w Uag
  hag : w ≡ bytes "HAG" → Form w Hag
  asg : w ≡ bytes "ASG" → Form w Asg
  rule : w ≡ bytes "RULE" → Form w Rule
  calc : w ≡ bytes "CALC" → Form w Calc
  inp : {letter : ℕ} → w ≡ bytes "INP" ++ (letter ∷ []) → within (code "A") (code "U") letter ≡ true → Form w Inp
  -- 001: INT ::= [ "+" | "-" ]? DIGIT+
  int : Digits (unsigned w) → Form w Int
  float : FloatForm w → Form w Float

-- 01: "else a STRING"
pub data OfKind (w : List ℕ) : Kind → Type 0 where
  formed : {k : Kind} → Form w k → OfKind w k
  string : ((k : Kind) → Form w k → ⊥) → OfKind w String
