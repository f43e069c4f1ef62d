-- The letters of a text's bytes are those of its tree. Assumes nothing.
use Rattle.std.specs.Prelude.{◌≡◌, refl, Bool, true, false, ℕ, length, take}
use Rattle.std.proofs.Common.{sym, ◌∙◌, ap}
use mathlib.Core.List.{List, [], ◌∷◌, ◌++◌, Memᴰ}
use Rattle.std.proofs.Math.Option.{Option, none, some}
use types.Run.{OneOf, miss}
use denote.Enum.Declared.{tag_of}
use Rattle.spec_lists.specs.Text.{same}
use Rattle.spec_lists.specs.Select.{all, first, after, skip_if}
use Rattle.spec_lists.proofs.laws.Both.{both}
use Rattle.spec_lists.proofs.laws.Member.{all_member, first_member}
use Rattle.spec_lists.proofs.laws.Range.{bounded}
use Rattle.spec_calc.specs.Symbol.{Symbol, numeral_byte, Spelling, spellings, Spells, end, skipped, numbered, capital, small, signed}
use Rattle.spec_calc.specs.Scanner.{sign_of, start, spelling}
use Rattle.spec_calc.specs.Expression.{Tree}
use Rattle.spec_calc.specs.Value.{letters}
use Rattle.spec_calc.specs.Reader.{tree_of}
use Rattle.spec_calc.proofs.laws.Symbols.{blank_start, start_upper, start_lower}
use Rattle.spec_calc.proofs.laws.Spelling.{numeral_start}
use Rattle.spec_calc.proofs.laws.Theorem.{parses_sound}
use Rattle.spec_calc.proofs.laws.Letters.{letters_in, nothing, nothing_is, sign_letters, parsed_letters}
use Rattle.calc_symbol.specs.declared.Class.{Class}
use Rattle.calc_symbol.specs.declared.Class.TheVariants as class
use Rattle.calc_symbol.specs.Scan.{started}
use Rattle.calc_symbol.specs.contracts.Class as class-type
use Rattle.calc_letters.specs.Letters.{given_letter, letter_begun, byte_letters}

-- ---- the bytes'

abbrev no_letter : ℕ → Bool
no_letter b = nothing (letter_begun (start b []))

-- none of a sign's bytes is a letter
signs : {y : Spelling} → Memᴰ y spellings → all no_letter y.spelled ≡ true
signs m = all_member (λ x. all no_letter x.spelled) spellings refl m

pub spelling_none : (b : ℕ) (s : List ℕ) → letter_begun (spelling b s) ≡ []
unfolding spelling
spelling_none b s = go (first (λ x. same x.spelled (take (length x.spelled) (b ∷ s))) spellings) refl
  where
    go : (o : Option Spelling) → first (λ x. same x.spelled (take (length x.spelled) (b ∷ s))) spellings ≡ o → letter_begun (sign_of o) ≡ []
    go none e = refl
    go (some y) e = sign_letters (first_member (λ x. same x.spelled (take (length x.spelled) (b ∷ s))) spellings e).0

letter_none : (b : ℕ) (s : List ℕ) → no_letter b ≡ true → byte_letters (b ∷ s) ≡ byte_letters s
unfolding byte_letters
letter_none b s e = rw (nothing_is (letter_begun (start b [])) e)

letters_none : (w s : List ℕ) → all no_letter w ≡ true → byte_letters (w ++ s) ≡ byte_letters s
letters_none [] s e = refl
letters_none (b ∷ w) s e = let z = both (no_letter b) (all no_letter w) e in letter_none b (w ++ s) z.0 ∙ letters_none w s z.1

figure_none : (b : ℕ) → numeral_byte b ≡ true → no_letter b ≡ true
figure_none b e = rw (numeral_start b [] e)

figures_none : (s : List ℕ) → byte_letters s ≡ byte_letters (after numeral_byte s)
figures_none [] = refl
figures_none (b ∷ s) = go (numeral_byte b) refl (figures_none s)
  where
    go :
        (t : Bool) → numeral_byte b ≡ t → byte_letters s ≡ byte_letters (after numeral_byte s)
        → byte_letters (b ∷ s) ≡ byte_letters (skip_if t (after numeral_byte s) (b ∷ s))
    go true e h = letter_none b s (figure_none b e) ∙ h
    go false e h = refl

-- the letters of a text's symbols are those of its bytes
spells_letters : {s : List ℕ} {xs : List Symbol} → Spells s xs → letters_in xs ≡ byte_letters s
unfolding letters_in byte_letters
spells_letters end = refl
spells_letters (skipped {b = b} e d) = rw (blank_start b [] e) (spells_letters d)
spells_letters (numbered {s = s} n d) = spells_letters d ∙ sym (figures_none s)
spells_letters (capital {b = b} e d) = let z = bounded 65 85 b e in rw (start_upper b [] z.0 z.1, spells_letters d)
spells_letters (small {b = b} e d) = let z = bounded 97 117 b e in rw (start_lower b [] z.0 z.1, spells_letters d)
spells_letters (signed {w = w} {r = r} q m l d) =
    rw (q, sign_letters m) (spells_letters d ∙ sym (letters_none w r (signs m)))

-- ---- the tree's

pub tree_letters : (s : List ℕ) (t : Tree) → tree_of s ≡ some t → byte_letters s ≡ letters t
tree_letters s t e = let y = parses_sound s t e in sym (spells_letters y.spelling) ∙ parsed_letters s t y

pub bytes_same :
    (s : List ℕ) (t : Tree) → tree_of s ≡ some t → (given : List Bool)
    → all (given_letter given) (byte_letters s) ≡ all (given_letter given) (letters t)
bytes_same s t e given = ap (all (given_letter given)) (tree_letters s t e)

-- ---- the letter of a byte, by its class

abbrev pub no_letters : List ℕ
no_letters = 0 ∷ 1 ∷ 3 ∷ []

module _ (b : ℕ) (r : Class) (er : (y : List ℕ) → start b y ≡ started r b y) where
  begun_by : (q : Class) → r ≡ q → letter_begun (start b []) ≡ letter_begun (started q b [])
  begun_by q e = ap letter_begun (er [] ∙ ap (λ (y : Class). started y b []) e)

  pub begun_letter : {i : ℕ} → r ≡ class.Letter i → letter_begun (start b []) ≡ i ∷ []
  begun_letter {i} e = begun_by (class.Letter i) e

  pub begun_nothing : OneOf no_letters (tag_of class-type.the_type r) → letter_begun (start b []) ≡ []
  begun_nothing = go r refl
    where
      go : (q : Class) → r ≡ q → OneOf no_letters (tag_of class-type.the_type q) → letter_begun (start b []) ≡ []
      go class.Blank e h = begun_by class.Blank e
      go class.Figure e h = begun_by class.Figure e
      go (class.Letter i) e h = absurd (miss no_letters 2 tt h)
      go class.Other e h = begun_by class.Other e ∙ spelling_none b []
