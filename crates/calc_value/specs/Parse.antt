-- What the code reads from an offset on, against the steps of the reader.
use Rattle.std.specs.Prelude.{◌≡◌, List, ◌∷◌, map, ℕ, ◌≤◌, length, Float, Option as Maybe, Some, None}
use Rattle.std.proofs.Math.Option.{none}
use Rattle.spec_calc.specs.declared.Reading.TheVariants as readings
use Rattle.spec_calc.specs.Expression.{Tree}
use Rattle.spec_calc.specs.Reader.{begun, if_of, else_of, Stack, State, wanted, have, top}
use Rattle.calc_symbol.specs.Scan.{syms}
use Rattle.calc_symbol.specs.Lookahead.{from, ends_of}
use Rattle.calc_value.specs.Strict.{strict_value}

-- what a tree comes to, the letters' values being given
abbrev pub value_with : List Float → Tree → Float
value_with vs t = strict_value (map readings.Value vs) t

-- From the offset at, in the state st, the reader comes to n with a tree of value v, for each stack that leaves it alone.
pub record Parses (vs : List Float) (s : List ℕ) (st : Stack → State) (l at low : ℕ) (v : Float) (n : ℕ) : Type 0 where
  pub tree : Tree
  pub valued : value_with vs tree ≡ v
  pub later : low ≤ n
  pub within : n ≤ length s
  pub loose : ends_of (syms s n) ≤ l
  pub reads : (k : Stack) → top k ≤ l → from (st k) (syms s at) ≡ from (have tree k) (syms s n)

abbrev pub ParsesAs : List Float → List ℕ → (Stack → State) → ℕ → ℕ → ℕ → Maybe (Float × ℕ) → Type 0
ParsesAs vs s st l at low (Some r) = Parses vs s st l at low r.0 r.1
ParsesAs vs s st l at low None = (k : Stack) → top k ≤ l → from (st k) (syms s at) ≡ none

-- The same behind a tree of value v.
abbrev pub ContinuesAs : List Float → List ℕ → (Tree → Stack → State) → ℕ → ℕ → Float → Maybe (Float × ℕ) → Type 0
ContinuesAs vs s st l at v r = (t : Tree) → value_with vs t ≡ v → ParsesAs vs s (st t) l at at r

abbrev pub in_if : Tree → Stack → State
in_if c k = wanted (if_of c ∷ k)

abbrev pub in_else : Tree → Tree → Stack → State
in_else c x k = wanted (begun (else_of c x) ∷ k)
