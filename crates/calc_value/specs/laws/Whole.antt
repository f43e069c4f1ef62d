-- From what is read to the value of a whole text. Assumes nothing.
use Rattle.std.specs.Prelude.{◌≡◌, refl, Bool, true, false, ℕ, ◌≤◌, ◌<◌, length, Float, Some, None}
use Rattle.std.proofs.Common.{◌∙◌, subst, arith}
use mathlib.Core.List.{List, [], map}
use Rattle.std.proofs.Math.Option.{Option, none, some}
use Rattle.spec_calc.specs.declared.Reading.TheVariants as readings
use Rattle.spec_calc.specs.Symbol.{Symbol}
use Rattle.spec_calc.specs.Scanner.{symbols}
use Rattle.spec_calc.specs.Expression.{longest_calculation}
use Rattle.spec_calc.specs.Reader.{wanted, reduce, run, read_spelled, tree_of}
use Rattle.spec_calc.proofs.laws.Theorem.{short_tree, long_tree}
use Rattle.calc_symbol.specs.Scan.{syms}
use Rattle.calc_symbol.specs.Lookahead.{from, IsEnd}
use Rattle.calc_value.specs.Parse.{Parses, ParsesAs}
use Rattle.calc_value.specs.Answer.{computed}

-- ---- a whole text

tree_start : (s : List ℕ) → length s ≤ longest_calculation → tree_of s ≡ from (wanted []) (syms s 0)
unfolding syms
tree_start s h = short_tree s h ∙ go (symbols s)
  where
    go : (o : Option (List Symbol)) → read_spelled o ≡ from (wanted []) o
    go none = refl
    go (some ss) = refl

pub computed_long : (vs : List Float) (s : List ℕ) → longest_calculation < length s → None ≡ computed (map readings.Value vs) (tree_of s)
computed_long vs s h = rw (long_tree s h)

module _ (vs : List Float) (s : List ℕ) (short : length s ≤ longest_calculation) where
  pub computed_bad : ParsesAs vs s wanted 0 0 1 None → None ≡ computed (map readings.Value vs) (tree_of s)
  computed_bad f = rw (tree_start s short, f [] (omega arith))

  module _ {v : Float} {n : ℕ} (z : Parses vs s wanted 0 0 1 v n) (b : Bool) (k : IsEnd s n b) where
    pub computed_end : b ≡ true → Some v ≡ computed (map readings.Value vs) (tree_of s)
    unfolding run reduce
    computed_end q =
        let y : tree_of s ≡ some z.tree = tree_start s short ∙ (z.reads [] (omega arith) ∙ rw (subst (IsEnd s n) q k)) in
        rw (y, z.valued)

    pub computed_more : b ≡ false → None ≡ computed (map readings.Value vs) (tree_of s)
    computed_more q =
        let y : tree_of s ≡ none = tree_start s short ∙ (z.reads [] (omega arith) ∙ subst (IsEnd s n) q k z.tree z.loose) in
        rw y
