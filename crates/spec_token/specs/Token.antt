-- The tokens of a file with their places, or its first bad byte. 01, "Reading the text". No scanner stands here.
use Rattle.std.specs.Prelude.{◌≡◌, Bool, true, false, not, ◌||◌, List, [], ◌∷◌, ◌++◌, ℕ, ◌+◌, length, take}
use Prim.Native.Char.{code}
use Rattle.spec_lists.specs.Text.{among}
use Rattle.spec_lists.specs.Select.{all, any}
use Rattle.spec_token.specs.declared.Kind.{Kind}
use Rattle.spec_token.specs.declared.Kind.TheVariants.{String, OpenParen, CloseParen, OpenBrace, CloseBrace, Comma}
use Rattle.spec_token.specs.Word.{blank, newline, name_byte, OfKind}

-- 01: "a token's [place] is its first byte, the quote if any"; the text is that of the file, without quotes
pub record Token : Type 0 where
  pub kind : Kind
  pub place : ℕ
  pub text : List ℕ

-- the tokens of a text, or the place of its first bad byte or unclosed quote
pub data Tokens : Type 0 where
  tokens : List Token → Tokens
  bad : ℕ → Tokens

abbrev pub then : Token → Tokens → Tokens
then t (tokens ts) = tokens (t ∷ ts)
then t (bad p) = bad p

-- w is the longest run at the start of s whose bytes pass p, and r follows it
pub record Longest (p : ℕ → Bool) (s w r : List ℕ) : Type 0 where
  pub parts : s ≡ w ++ r
  pub pass : all p w ≡ true
  pub ends : any p (take 1 r) ≡ false

-- 01: "`( ) { } ,` stand alone."
pub data Alone : ℕ → Kind → Type 0 where
  open_paren : Alone (code "(") OpenParen
  close_paren : Alone (code ")") CloseParen
  open_brace : Alone (code "{") OpenBrace
  close_brace : Alone (code "}") CloseBrace
  comma : Alone (code ",") Comma

-- 001: { STRINGCHAR | ESCAPE }, STRINGCHAR ::= any char except '"' "\" "\n", ESCAPE ::= "\" any-char
pub data BetweenQuotes : List ℕ → Type 0 where
  nothing : BetweenQuotes []
  stringchar : {b : ℕ} {s : List ℕ} → among "\"\\\n" b ≡ false → BetweenQuotes s → BetweenQuotes (b ∷ s)
  escape : {b : ℕ} {s : List ℕ} → BetweenQuotes s → BetweenQuotes (code "\\" ∷ b ∷ s)

-- Spells p s o: the text s, whose first byte has the place p, is spelled by the tokens of o, or is bad where o says.
pub data Spells : ℕ → List ℕ → Tokens → Type 0 where
  end : {p : ℕ} → Spells p [] (tokens [])
  -- "Space, tab, CR and newline part tokens."
  gap : {p b : ℕ} {s : List ℕ} {o : Tokens} → blank b ≡ true → Spells (p + 1) s o → Spells p (b ∷ s) o
  -- "`#` starts a comment up to the newline or the end."
  comment :
      {p : ℕ} {s w r : List ℕ} {o : Tokens} → Longest (λ b. not (newline b)) s w r → Spells (p + 1 + length w) r o
      → Spells p (code "#" ∷ s) o
  -- "A word is the longest run of letters, digits and" ..; 001: NAMECHAR+
  word :
      {p b : ℕ} {s w r : List ℕ} {k : Kind} {o : Tokens} → Longest name_byte s (b ∷ w) r → OfKind (b ∷ w) k
      → Spells (p + length (b ∷ w)) r o → Spells p s (then (record { kind = k; place = p; text = b ∷ w }) o)
  -- "A quoted text is a STRING even where it spells a keyword. A backslash and any byte after it stay as they are, both."
  quoted :
      {p : ℕ} {s w r : List ℕ} {o : Tokens} → s ≡ w ++ (code "\"" ∷ r) → BetweenQuotes w → Spells (p + 2 + length w) r o
      → Spells p (code "\"" ∷ s) (then (record { kind = String; place = p; text = w }) o)
  -- "`( ) { } ,` stand alone."
  alone :
      {p b : ℕ} {s : List ℕ} {k : Kind} {o : Tokens} → Alone b k → Spells (p + 1) s o
      → Spells p (b ∷ s) (then (record { kind = k; place = p; text = b ∷ [] }) o)
  -- "A bare newline inside is a bad byte, answered at its own place, closed later or not."
  bare_newline :
      {p : ℕ} {s w : List ℕ} (r : List ℕ) → s ≡ w ++ (code "\n" ∷ r) → BetweenQuotes w → Spells p (code "\"" ∷ s) (bad (p + 1 + length w))
  -- refusal 2: "unclosed quote", "the opening quote"
  unclosed :
      {p : ℕ} {s : List ℕ} → ((w r : List ℕ) (b : ℕ) → s ≡ w ++ (b ∷ r) → BetweenQuotes w → among "\"\n" b ≡ false)
      → Spells p (code "\"" ∷ s) (bad p)
  -- "Every other byte is bad."
  other : {p b : ℕ} {s : List ℕ} → blank b || (name_byte b || among "#\"(){}," b) ≡ false → Spells p (b ∷ s) (bad p)

-- the tokens ts are those of the text s
abbrev pub Spelled : List ℕ → List Token → Type 0
Spelled s ts = Spells 0 s (tokens ts)

-- the first bad byte or unclosed quote of the text s is at the place p
abbrev pub BadAt : List ℕ → ℕ → Type 0
BadAt s p = Spells 0 s (bad p)
