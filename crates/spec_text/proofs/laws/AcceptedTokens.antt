-- What the tokens of a text are: each could stand between quotes, and an INP word is spelled as one.
use Rattle.std.specs.Prelude.{◌≡◌, refl, true, false, List, [], ◌∷◌, ℕ}
use Rattle.std.proofs.Common.{subst, arith}
use Rattle.spec_lists.specs.Text.{bytes, among}
use Rattle.spec_lists.specs.Select.{all}
use Rattle.spec_lists.specs.Every.{Every, nil, cons}
use Rattle.spec_lists.proofs.laws.Both.{both}
use Rattle.spec_token.specs.declared.Kind.{Kind}
use Rattle.spec_token.specs.declared.Kind.TheVariants as kind
use Rattle.spec_token.specs.Word.{name_byte, OfKind, formed, inp}
use Rattle.spec_token.specs.Token.{Alone, open_paren, close_paren, open_brace, close_brace, comma, BetweenQuotes, nothing, stringchar}
use Rattle.spec_token.proofs.laws.Words.{InputWord}
use Rattle.spec_token.proofs.laws.Agreement.{unnamed}
use Rattle.spec_token.proofs.laws.Each.{every_token}
use Rattle.spec_token.proofs.laws.Kinds.{no_input}
use Rattle.spec_grammar.specs.Sentence.{Tagged}
use Rattle.spec_file.specs.Acceptance.{TextReads}
use Rattle.spec_file.proofs.laws.Counted.{every_read}

-- ---- the bytes of a token

name_byte_plain : (b : ℕ) → name_byte b ≡ true → among "\"\\\n" b ≡ false
name_byte_plain b = unnamed b (bytes "\"\\\n") (cons refl (cons refl (cons refl nil)))

word_plain : (w : List ℕ) → all name_byte w ≡ true → BetweenQuotes w
word_plain [] h = nothing
word_plain (b ∷ w) h = let k = both (name_byte b) (all name_byte w) h in stringchar (name_byte_plain b k.0) (word_plain w k.1)

alone_plain : (b : ℕ) (k : Kind) → Alone b k → BetweenQuotes (b ∷ [])
alone_plain b k open_paren = stringchar refl nothing
alone_plain b k close_paren = stringchar refl nothing
alone_plain b k open_brace = stringchar refl nothing
alone_plain b k close_brace = stringchar refl nothing
alone_plain b k comma = stringchar refl nothing

-- ---- INP words

input_word : {w : List ℕ} → OfKind w kind.Inp → InputWord w
input_word (formed (inp {letter = l} e r)) = record { letter = l; spelled = e; range = r }

-- ---- of a text that reads

module _ {s : List ℕ} {xs : List Tagged} (t : TextReads s xs) where
  -- every token could stand between quotes
  pub tokens_quotable : Every (λ x. BetweenQuotes x.token.text) xs
  tokens_quotable =
      every_read t
      (every_token (λ u. BetweenQuotes u.text) (λ b w k p h f. word_plain (b ∷ w) h) (λ w p q. q) (λ b k p a. alone_plain b k a) t.spelling)

  -- a token of the kind of INP words is INP and a letter
  pub tokens_inputs : Every (λ x. x.token.kind ≡ kind.Inp → InputWord x.token.text) xs
  tokens_inputs =
      every_read t
      (every_token
      (λ u. u.kind ≡ kind.Inp → InputWord u.text)
      (λ b w k p h f e. input_word (subst (OfKind (b ∷ w)) e f))
      (λ w p q e. let z : ◌≡◌ {A = ℕ} 0 1 = cc in absurd (omega arith))
      (λ b k p a e. absurd (no_input a e))
      t.spelling)
