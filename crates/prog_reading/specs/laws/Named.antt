-- What is known of a named reading: its letter is one of the 21, and it was heard.
use Rattle.std.specs.Prelude.{◌≡◌, refl, Bool, true, false, cond, ◌&&◌, List, [], ◌∷◌, ℕ, ◌-◌, ◌<◌, leb, Float, Option, None, Some}
use Rattle.std.proofs.Common.{subst, arith, leb-true}
use Rattle.std.specs.Float.{nan, inf}
use Rattle.spec_lists.specs.Text.{bytes, same, among, within}
use Rattle.spec_lists.proofs.laws.Both.{both}
use Rattle.spec_calc.specs.declared.Reading.{Reading}
use Rattle.spec_calc.specs.declared.Reading.TheVariants.{Invalid, Value}
use Rattle.prog_reading.specs.declared.Named.{Named}
use Rattle.prog_reading.specs.Reading.{was_heard, valued, signed, reading, named_as, named}

IfHeard : Option Reading → Type 0
IfHeard None = Unit {0}
IfHeard (Some r) = was_heard r ≡ true

heard : (s : List ℕ) → IfHeard (reading s)
unfolding IfHeard reading
heard s = go nan (inf false) (inf true) (same s (bytes "inv")) (same s (bytes "nan")) (same s (bytes "inf")) (same s (bytes "-inf")) (signed s)
  where
    other : (o : Option Float) → IfHeard (valued o)
    other None = tt
    other (Some x) = refl

    go :
        (x y z : Float) (a b c d : Bool) (o : Option Float)
        → IfHeard (cond a (Some Invalid) (cond b (Some (Value x)) (cond c (Some (Value y)) (cond d (Some (Value z)) (valued o)))))
    go x y z true b c d o = refl
    go x y z false true c d o = refl
    go x y z false false true d o = refl
    go x y z false false false true o = refl
    go x y z false false false false o = other o

IfNamed : Option Named → Type 0
IfNamed None = Unit {0}
IfNamed (Some n) = (n.letter < 21) × (was_heard n.reading ≡ true)

as_named : (i : ℕ) (o : Option Reading) → i < 21 → IfHeard o → IfNamed (named_as i o)
unfolding IfNamed IfHeard
as_named i None h k = tt
as_named i (Some r) h k = (h, k)

if_named : (p : List ℕ) → IfNamed (named p)
unfolding IfNamed named
if_named [] = tt
if_named (l ∷ []) = tt
if_named (l ∷ c ∷ s) = go (within 65 85 l) (among ":" c) refl
  where
    go : (t u : Bool) → within 65 85 l ≡ t → IfNamed (cond (t && u) (named_as (l - 65) (reading s)) None)
    go true true e = let z = leb-true l 85 (both (leb 65 l) (leb l 85) e).1 in as_named (l - 65) (reading s) (omega arith) (heard s)
    go true false e = tt
    go false u e = tt

module _ (p : List ℕ) {n : Named} (e : named p ≡ Some n) where
  it : IfNamed (Some n)
  it = subst IfNamed e (if_named p)

  pub small_letter : n.letter < 21
  unfolding IfNamed
  small_letter = it.0

  pub heard_reading : was_heard n.reading ≡ true
  unfolding IfNamed
  heard_reading = it.1
