-- The reader reads exactly the calculations, and as the tree that they say.
use Rattle.std.specs.Prelude.{◌≡◌, refl, Bool, true, false, cond, List, [], ℕ, ◌≤◌, ◌<◌, leb, length}
use Rattle.std.proofs.Common.{sym, ◌∙◌, subst, ap, arith, leb-true, le-leb}
use Rattle.std.proofs.Math.Option.{Option, none, some, some-ne-none}
use Rattle.std.proofs.lemmas.Bool.{lt-leb}
use Rattle.spec_calc.specs.Symbol.{Symbol}
use Rattle.spec_calc.specs.Scanner.{symbols, symbols_in}
use Rattle.spec_calc.specs.Expression.{Tree, Expression, longest_calculation, Parses}
use Rattle.spec_calc.specs.Reader.{reduce, run, read_tree, read_spelled, tree_of}
use Rattle.spec_calc.proofs.laws.Complete.{expression_read}
use Rattle.spec_calc.proofs.laws.Sound.{Derived, read_derived}
use Rattle.spec_calc.proofs.laws.Spelling.{spells_sound, spells_complete}

pub read_sound : (ss : List Symbol) (t : Tree) → read_tree ss ≡ some t → Expression ss [] t
read_sound ss t e = subst (Derived ss) e (read_derived ss)

pub read_complete : (ss : List Symbol) (t : Tree) → Expression ss [] t → read_tree ss ≡ some t
unfolding run reduce
read_complete ss t d = expression_read d [] (omega arith) (omega arith)

-- by its length, a text is none or is read
pub long_tree : (s : List ℕ) → longest_calculation < length s → tree_of s ≡ none
unfolding tree_of
long_tree s h = ap (λ (b : Bool). cond b (read_spelled (symbols s)) none) (lt-leb (length s) longest_calculation h)

pub short_tree : (s : List ℕ) → length s ≤ longest_calculation → tree_of s ≡ read_spelled (symbols s)
unfolding tree_of
short_tree s h = ap (λ (b : Bool). cond b (read_spelled (symbols s)) none) (le-leb (length s) longest_calculation h)

pub parses_sound : (s : List ℕ) (t : Tree) → tree_of s ≡ some t → Parses s t
unfolding tree_of
parses_sound s t e = go (leb (length s) longest_calculation) (symbols s) refl refl e
  where
    go :
        (b : Bool) (o : Option (List Symbol)) → leb (length s) longest_calculation ≡ b → symbols s ≡ o → cond b (read_spelled o) none ≡ some t
        → Parses s t
    go false o l p e = absurd (some-ne-none t (sym e))
    go true none l p e = absurd (some-ne-none t (sym e))
    go true (some ss) l p e =
        record { short = leb-true (length s) longest_calculation l; spelled = ss; spelling = spells_sound s p; derived = read_sound ss t e }

pub parses_complete : (s : List ℕ) (t : Tree) → Parses s t → tree_of s ≡ some t
unfolding tree_of
parses_complete s t y = short_tree s y.short ∙ (ap read_spelled (spells_complete y.spelling) ∙ read_complete y.spelled t y.derived)

pub one_tree : (s : List ℕ) (t u : Tree) → Parses s t → Parses s u → t ≡ u
one_tree s t u y z = cc (parses_complete s t y, parses_complete s u z)

-- the empty text is no calculation
pub no_empty : tree_of [] ≡ none
unfolding tree_of run reduce symbols_in
no_empty = refl
