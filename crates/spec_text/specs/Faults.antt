-- A machine that finds on what a file says whether its text has a cause for a refusal 2 to 10 or 12, where the file keeps the limits that every table
-- keeps and its strings can be quoted. That it agrees is proved (proofs/laws/Clear.antt, proofs/laws/Accepted.antt), so nobody has to believe it.
use Rattle.std.specs.Prelude.{Bool, true, false, not, ◌&&◌, ◌||◌, List, [], ◌∷◌, map, ℕ, eqb}
use Rattle.std.proofs.Math.Option.{Option, none, some}
use Rattle.spec_lists.specs.Text.{same, among}
use Rattle.spec_lists.specs.Select.{holds_of, any, nonempty}
use Rattle.spec_calc.specs.Reader.{tree_of}
use Rattle.spec_file.specs.Contents.{Group, RuleText, Asg, File}
use Rattle.spec_file.specs.Refusal.{letters_among}

-- Between quotes a text has no bare quote, no bare newline and no backslash without its byte. The Bool: the byte before was the backslash of an escape.
abbrev pub quotable_from : Bool → List ℕ → Bool
quotable_from escaped [] = not escaped
quotable_from true (b ∷ s) = quotable_from false s
quotable_from false (b ∷ s) = not (among "\"\n" b) && quotable_from (among "\\" b) s

abbrev pub quotable : List ℕ → Bool
quotable = quotable_from false

-- one of a list stands in it again
abbrev pub repeated : {A : Type 0} → (A → A → Bool) → List A → Bool
repeated e [] = false
repeated e (x ∷ xs) = any (e x) xs || repeated e xs

-- no group has the name s
abbrev pub nowhere_defined : List Group → List ℕ → Bool
nowhere_defined gs s = not (any (λ g. same g.name s) gs)

-- a calculation that is none, or has a letter without input
abbrev pub calculation_faulty : List ℕ → Option (List ℕ) → Bool
calculation_faulty given none = false
calculation_faulty given (some s) = not (holds_of (tree_of s) (letters_among given))

abbrev pub rule_faulty : File → List ℕ → RuleText → Bool
rule_faulty f given r =
    any (nowhere_defined f.uags) r.uags
    || (any (nowhere_defined f.hags) r.hags || calculation_faulty given r.calculation)

abbrev pub letters_of : Asg → List ℕ
letters_of a = map (λ i. i.letter) a.inputs

abbrev pub asg_faulty : File → Asg → Bool
asg_faulty f a = repeated eqb (letters_of a) || any (rule_faulty f (letters_of a)) a.rules

-- the empty text is no file
abbrev pub defines_nothing : File → Bool
defines_nothing f = not (nonempty f.uags || (nonempty f.hags || nonempty f.asgs))

abbrev pub faulty : File → Bool
faulty f =
    defines_nothing f
    || (repeated same (map (λ g. g.name) f.uags)
    || (repeated same (map (λ g. g.name) f.hags) || (repeated same (map (λ a. a.name) f.asgs) || any (asg_faulty f) f.asgs)))
