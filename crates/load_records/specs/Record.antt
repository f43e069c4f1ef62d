-- What is written for one token of a role, and how the cursor moves on.
use Rattle.std.specs.Prelude.{List, [], ◌∷◌, ℕ, ◌+◌, length}
use Rattle.spec_lists.specs.Text.{lowered}
use Rattle.spec_lists.specs.Words.{spelled_out}
use Rattle.spec_token.specs.Word.{link_letter}
use Rattle.spec_grammar.specs.declared.Role.{Role}
use Rattle.spec_grammar.specs.declared.Role.TheVariants.{Input, RuleWord, UagNamed, HagNamed}
use Rattle.spec_grammar.specs.Sentence.{Tagged}
use Rattle.spec_file.specs.Contents.{text, texts, until, head_of, rule_text}
use Rattle.spec_table.specs.Written.{flags, calculation_words}
use Rattle.load_flags.specs.Tokens.{cut, first_text, numbered, size}
use Rattle.load_records.specs.declared.Cursor.{Cursor}
use Rattle.load_records.specs.Work.{Work}
use Rattle.load_records.specs.Work.{Groups, Names, Access, Inputs, Rules, References, Texts, Lowered, Firsts}
use Rattle.load_records.specs.Cursor.{cursor}

-- q: the role of the tokens; m: the role of what belongs to each; names: those that references are numbered by
module _ (q m : Role) (names : List (List ℕ)) where
  -- what is written for the token x, behind which xs stand
  abbrev pub emit : Work → Tagged → List Tagged → Cursor → List ℕ
  emit Groups x xs p = spelled_out (p.string ∷ length (text x) ∷ p.first ∷ size m (until q xs) ∷ [])
  emit Names x xs p = spelled_out (p.string ∷ length (text x) ∷ [])
  emit Access x xs p = spelled_out (p.string ∷ length (text x) ∷ p.first ∷ size Input (until q xs) ∷ p.second ∷ size RuleWord (until q xs) ∷ [])
  emit Inputs x xs p = spelled_out (link_letter (text x) ∷ p.string ∷ length (first_text m (cut q xs)) ∷ [])
  emit Rules x xs p =
      spelled_out
      (flags (rule_text (cut q xs))
      ∷ p.first
      ∷ size UagNamed (cut q xs)
      ∷ (p.first + size UagNamed (cut q xs))
      ∷ size HagNamed (cut q xs)
      ∷ calculation_words (head_of (texts m (cut q xs))) (record { first = p.string; count = length (first_text m (cut q xs)) }))
  emit References x xs p = spelled_out (numbered 0 (text x) names ∷ p.string ∷ length (text x) ∷ [])
  emit Texts x xs p = text x
  emit Lowered x xs p = lowered (text x)
  emit Firsts x xs p = first_text m (cut q xs)

  -- how many bytes of strings a record names
  abbrev pub named : Work → Tagged → List Tagged → ℕ
  named Groups x xs = length (text x)
  named Names x xs = length (text x)
  named Access x xs = length (text x)
  named Inputs x xs = length (first_text m (cut q xs))
  named Rules x xs = length (first_text m (cut q xs))
  named References x xs = length (text x)
  named Texts x xs = 0
  named Lowered x xs = 0
  named Firsts x xs = 0

  -- how many records belong to it, by its first run, or its first two
  abbrev pub firsts : Work → Tagged → List Tagged → ℕ
  firsts Groups x xs = size m (until q xs)
  firsts Names x xs = 0
  firsts Access x xs = size Input (until q xs)
  firsts Inputs x xs = 0
  firsts Rules x xs = size UagNamed (cut q xs) + size HagNamed (cut q xs)
  firsts References x xs = 0
  firsts Texts x xs = 0
  firsts Lowered x xs = 0
  firsts Firsts x xs = 0

  abbrev pub seconds : Work → Tagged → List Tagged → ℕ
  seconds Groups x xs = 0
  seconds Names x xs = 0
  seconds Access x xs = size RuleWord (until q xs)
  seconds Inputs x xs = 0
  seconds Rules x xs = 0
  seconds References x xs = 0
  seconds Texts x xs = 0
  seconds Lowered x xs = 0
  seconds Firsts x xs = 0

  abbrev pub move : Work → Tagged → List Tagged → Cursor → Cursor
  move w x xs p = cursor (p.at + length (emit w x xs p)) (p.string + named w x xs) (p.first + firsts w x xs) (p.second + seconds w x xs)
