-- A reading in the asker's input. 01, "Two programs".
use Rattle.std.specs.Prelude.{Bool, true, false, cond, ◌&&◌, List, [], ◌∷◌, ℕ, ◌-◌, Float, Option, None, Some}
use Rattle.std.proofs.Math.Option as found
use Rattle.std.specs.Float.{nan, inf}
use Rattle.std.specs.Float.Ieee.{neg}
use Prim.Native.Char.{code}
use Rattle.spec_lists.specs.Text.{bytes, same, among, within}
use Rattle.spec_calc.specs.declared.Reading.{Reading}
use Rattle.spec_calc.specs.declared.Reading.TheVariants.{NeverHeard, Invalid, Value}
use Rattle.spec_calc.specs.Scanner.{numeral}
use Rattle.prog_reading.specs.declared.Named.{Named}

-- each but one that is never heard
abbrev pub was_heard : Reading → Bool
was_heard NeverHeard = false
was_heard Invalid = true
was_heard (Value x) = true

abbrev pub valued : Option Float → Option Reading
valued None = None
valued (Some x) = Some (Value x)

abbrev pub negated : Option Float → Option Float
negated None = None
negated (Some x) = Some (neg x)

abbrev pub if_found : found.Option Float → Option Float
if_found found.none = None
if_found (found.some x) = Some x

-- 01: "a calculation's number", which has a digit
abbrev pub number : List ℕ → Option Float
number [] = None
number (b ∷ s) = if_found (numeral (b ∷ s))

-- 01: "a calculation's number with an optional `-`". So -0 is minus zero.
abbrev pub signed : List ℕ → Option Float
signed [] = None
signed (b ∷ s) = cond (among "-" b) (negated (number s)) (number (b ∷ s))

-- 01: "then `inv`, `nan`, `inf`, `-inf`, or a calculation's number with an optional `-`". There is one NaN.
unfoldable pub reading : List ℕ → Option Reading
reading s =
    cond (same s (bytes "inv")) (Some Invalid)
    (cond (same s (bytes "nan")) (Some (Value nan))
    (cond (same s (bytes "inf")) (Some (Value (inf false)))
    (cond (same s (bytes "-inf")) (Some (Value (inf true)))
    (valued (signed s)))))

abbrev pub named_as : ℕ → Option Reading → Option Named
named_as i None = None
named_as i (Some r) = Some (record { letter = i; reading = r })

-- 01: "a letter A to U, a colon, then" a reading
unfoldable pub named : List ℕ → Option Named
named [] = None
named (l ∷ []) = None
named (l ∷ c ∷ s) = cond (within (code "A") (code "U") l && among ":" c) (named_as (l - code "A") (reading s)) None
