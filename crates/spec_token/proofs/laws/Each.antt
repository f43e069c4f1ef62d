-- What holds of a word, of a quoted text and of a punctuation token holds of every token of a text.
use Rattle.std.specs.Prelude.{◌≡◌, true, List, [], ◌∷◌, ℕ}
use Rattle.spec_lists.specs.Select.{all}
use Rattle.spec_lists.specs.Every.{Every, nil, cons}
use Rattle.spec_token.specs.declared.Kind.{Kind}
use Rattle.spec_token.specs.declared.Kind.TheVariants.{String}
use Rattle.spec_token.specs.Word.{name_byte, OfKind}
use Rattle.spec_token.specs.Token as spelled
use Rattle.spec_token.specs.Token.{Token, Tokens, tokens, bad, then, Alone, BetweenQuotes, Spells, end, gap, bare_newline, Spelled}

-- P holds of every token, if it is tokens
data Holds (P : Token → Type 0) : Tokens → Type 0 where
  holds : {ts : List Token} → Every P ts → Holds P (tokens ts)
  no_tokens : {p : ℕ} → Holds P (bad p)

module _
    (P : Token → Type 0)
    (of_word : (b : ℕ) (w : List ℕ) (k : Kind) (p : ℕ) → all name_byte (b ∷ w) ≡ true → OfKind (b ∷ w) k → P (record { kind = k; place = p; text = b ∷ w }))
    (of_quoted : (w : List ℕ) (p : ℕ) → BetweenQuotes w → P (record { kind = String; place = p; text = w }))
    (of_alone : (b : ℕ) (k : Kind) (p : ℕ) → Alone b k → P (record { kind = k; place = p; text = b ∷ [] }))
  where
    holds_then : (t : Token) {o : Tokens} → P t → Holds P o → Holds P (then t o)
    holds_then t h (holds e) = holds (cons h e)
    holds_then t h no_tokens = no_tokens

    each : {p : ℕ} {s : List ℕ} {o : Tokens} → Spells p s o → Holds P o
    each end = holds nil
    each (gap h d) = each d
    each (spelled.comment h d) = each d
    each {p = p} (spelled.word {b = b} {w = w} {k = k} h f d) = holds_then (record { kind = k; place = p; text = b ∷ w }) (of_word b w k p h.pass f) (each d)
    each {p = p} (spelled.quoted {w = w} e t d) = holds_then (record { kind = String; place = p; text = w }) (of_quoted w p t) (each d)
    each {p = p} (spelled.alone {b = b} {k = k} h d) = holds_then (record { kind = k; place = p; text = b ∷ [] }) (of_alone b k p h) (each d)
    each (bare_newline r e t) = no_tokens
    each (spelled.unclosed u) = no_tokens
    each (spelled.other h) = no_tokens

    held : {ts : List Token} → Holds P (tokens ts) → Every P ts
    held (holds e) = e

    pub every_token : {s : List ℕ} {ts : List Token} → Spelled s ts → Every P ts
    every_token d = held (each d)
