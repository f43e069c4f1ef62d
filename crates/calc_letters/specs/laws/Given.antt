-- Whether the letters of a text are among those given, byte by byte.
use Rattle.std.specs.Prelude.{◌≡◌, refl, Bool, true, false, not, ◌&&◌, List, [], ◌∷◌, ℕ, get_or}
use Rattle.std.specs.List.{list_all}
use Rattle.std.proofs.Common.{sym, ap, ◌∙◌}
use Rattle.std.proofs.Math.Option.{Option, none, some}
use types.Run.{OneOf}
use denote.Enum.Declared.{tag_of}
use Rattle.spec_lists.specs.Select.{all, holds_of, missing}
use Rattle.spec_lists.proofs.laws.Every.{all_append}
use Rattle.spec_calc.specs.Scanner.{start}
use Rattle.spec_calc.specs.Expression.{Tree}
use Rattle.spec_calc.specs.Value.{letters}
use Rattle.spec_calc.specs.Reader.{tree_of}
use Rattle.calc_symbol.specs.declared.Class.{Class}
use Rattle.calc_symbol.specs.declared.Class.TheVariants as class
use Rattle.calc_symbol.specs.Scan.{started}
use Rattle.calc_symbol.specs.contracts.Class as class-type
use Rattle.calc_letters.specs.Letters.{given_letter, letter_begun, byte_letters}
use Rattle.calc_letters.specs.laws.Letters.{no_letters, begun_letter, begun_nothing, bytes_same}

-- ---- letters

module _ (given : List Bool) (b : ℕ) (r : Class) (er : (y : List ℕ) → start b y ≡ started r b y) where
  pub letter_given : {i : ℕ} {t : Bool} → r ≡ class.Letter i → t ≡ get_or given i false → t ≡ all (given_letter given) (letter_begun (start b []))
  letter_given {i} e f = rw (begun_letter b r er e, f) (sym (and_true (get_or given i false)))
    where
      and_true : (b : Bool) → (b && true) ≡ b
      and_true true = refl
      and_true false = refl

  pub no_letter_given : OneOf no_letters (tag_of class-type.the_type r) → true ≡ all (given_letter given) (letter_begun (start b []))
  no_letter_given h = rw (begun_nothing b r er h)

-- ---- bytes one by one

abbrev pub byte_given : List Bool → ℕ → Bool
byte_given given b = all (given_letter given) (letter_begun (start b []))

pub all_bytes : (given : List Bool) (s : List ℕ) → list_all (byte_given given) s ≡ all (given_letter given) (byte_letters s)
unfolding byte_letters
all_bytes given [] = refl
all_bytes given (b ∷ s) =
    ap (λ t. byte_given given b && t) (all_bytes given s) ∙ sym (all_append (given_letter given) (letter_begun (start b [])) (byte_letters s))

module _ (given : List Bool) (s : List ℕ) {b : Bool} (eb : b ≡ all (given_letter given) (byte_letters s)) where
  pub with_yes : {r : Bool} → b ≡ true → r ≡ not (missing (tree_of s)) → r ≡ holds_of (tree_of s) (λ t. all (given_letter given) (letters t))
  with_yes {r} e h = go (tree_of s) refl h
    where
      go : (o : Option Tree) → tree_of s ≡ o → r ≡ not (missing o) → r ≡ holds_of o (λ t. all (given_letter given) (letters t))
      go none q h = h
      go (some t) q h = h ∙ (sym e ∙ (eb ∙ bytes_same s t q given))

  pub with_no : b ≡ false → false ≡ holds_of (tree_of s) (λ t. all (given_letter given) (letters t))
  with_no e = go (tree_of s) refl
    where
      go : (o : Option Tree) → tree_of s ≡ o → false ≡ holds_of o (λ t. all (given_letter given) (letters t))
      go none q = refl
      go (some t) q = sym e ∙ (eb ∙ bytes_same s t q given)
