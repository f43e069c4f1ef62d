-- The letters of a calculation among those given, as the array of 21 says them. Assumes nothing.
use mathlib.Core.Path.{◌≡◌, refl}
use mathlib.Core.Bool.{Bool, false}
use mathlib.Core.List.{List}
use mathlib.Core.Option.{Option, none, some}
use Prim.Native.Nat.{ℕ, ◌≤◌, ◌<◌}
use native.Mathlib.Omega.{arith}
use lib.Dec.{eqb}
use lib.ListN.{get_or}
use Rattle.spec_lists.specs.Select.{all, any, holds_of}
use Rattle.spec_lists.specs.Every.{Every, nil, cons}
use Rattle.spec_calc.specs.Expression.{Tree}
use Rattle.spec_calc.specs.Value.{letters}
use Rattle.spec_calc.specs.Reader.{tree_of}
use Rattle.spec_calc.proofs.laws.Theorem.{parses_sound}
use Rattle.spec_calc.proofs.laws.Letters.{letters_bounded}
use Rattle.spec_file.specs.Refusal.{letters_among}

all_agree : (p q : ℕ → Bool) → ((i : ℕ) → i < 21 → p i ≡ q i) → {ls : List ℕ} → Every (λ i. i ≤ 20) ls → all p ls ≡ all q ls
all_agree p q a nil = refl
all_agree p q a (cons {x = l} h hs) = rw (a l (omega arith), all_agree p q a hs)

pub allowed_is : (s : List ℕ) (given : List Bool) (ls : List ℕ) → ((l : ℕ) → l < 21 → get_or given l false ≡ any (eqb l) ls) → holds_of (tree_of s) (λ t. all (λ i. get_or given i false) (letters t)) ≡ holds_of (tree_of s) (letters_among ls)
allowed_is s given ls a = go (tree_of s) refl
  where
    go : (o : Option Tree) → tree_of s ≡ o → holds_of o (λ t. all (λ i. get_or given i false) (letters t)) ≡ holds_of o (letters_among ls)
    go none e = refl
    go (some t) e = all_agree (λ i. get_or given i false) (λ i. any (eqb i) ls) a (letters_bounded s t (parses_sound s t e))
