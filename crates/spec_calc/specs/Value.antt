-- The value of a calculation, what makes it bad, and when it is true. 01, "The calculation"; 02, tickets 3 and 5.
use Rattle.std.specs.Prelude.{◌≡◌, Bool, true, false, cond, not, ◌&&◌, ◌||◌, ℕ, ◌≤◌, min, get_or, Float}
use mathlib.Core.List.{List, [], ◌∷◌, ◌++◌, Memᴰ}
use Rattle.std.proofs.Math.Option.{Option, none, some}
use Rattle.std.specs.Float.Ieee as Ieee
use Rattle.std.specs.Float.{nan, inf, fin, binary64}
use Rattle.std.specs.Float.Ieee.{of_bits}
use Rattle.spec_lists.specs.Select.{all}
use Rattle.spec_lists.specs.Every.{Every}
use Rattle.spec_calc.specs.declared.Operator.{Operator}
use Rattle.spec_calc.specs.declared.Operator.TheVariants.{Or, And, Less, AtMost, More, AtLeast, Equal, Differs, Plus, Minus, Times, Over}
use Rattle.spec_calc.specs.declared.Reading.{Reading}
use Rattle.spec_calc.specs.declared.Reading.TheVariants.{NeverHeard, Invalid, Value}
use Rattle.spec_calc.specs.declared.Worth.{Worth}
use Rattle.spec_calc.specs.declared.Worth.TheVariants.{NoCalculation, BadBy, BadByArithmetic, Is}
use Rattle.spec_calc.specs.Expression.{Tree, number_tree, letter_tree, minus, negation, binary, choice}

abbrev pub zero_value : Float
zero_value = of_bits binary64 0

abbrev pub one_value : Float
one_value = of_bits binary64 0x3ff0_0000_0000_0000

-- 01: "comparisons and logic give 1 or 0"
abbrev pub truth : Bool → Float
truth b = cond b one_value zero_value

-- 01: "anything but 0 is true"
abbrev pub is_true : Float → Bool
is_true x = Ieee.ne x zero_value

-- 01: "Arithmetic is binary64, each operation rounded once"
abbrev pub apply : Operator → Float → Float → Float
apply Or x y = truth (is_true x || is_true y)
apply And x y = truth (is_true x && is_true y)
apply Less x y = truth (Ieee.lt x y)
apply AtMost x y = truth (Ieee.le x y)
apply More x y = truth (Ieee.lt y x)
apply AtLeast x y = truth (Ieee.le y x)
apply Equal x y = truth (Ieee.eq x y)
apply Differs x y = truth (Ieee.ne x y)
apply Plus x y = Ieee.add binary64 x y
apply Minus x y = Ieee.sub binary64 x y
apply Times x y = Ieee.mul binary64 x y
apply Over x y = Ieee.div binary64 x y

-- the reading of a letter among the 21
abbrev pub reading : List Reading → ℕ → Reading
reading rs i = get_or rs i NeverHeard

-- a good reading's value; the others' is never asked for
abbrev pub heard : Reading → Float
heard NeverHeard = zero_value
heard Invalid = zero_value
heard (Value x) = x

-- 01: "only the chosen branch counts". An infinite or not-a-number value goes on by IEEE 754, but then the whole is bad (finite_throughout).
unfoldable pub value : List Reading → Tree → Float
value rs (number_tree x) = x
value rs (letter_tree i) = heard (reading rs i)
value rs (minus t) = Ieee.neg (value rs t)
value rs (negation t) = truth (not (is_true (value rs t)))
value rs (binary o t u) = apply o (value rs t) (value rs u)
value rs (choice c x y) = cond (is_true (value rs c)) (value rs x) (value rs y)

-- neither infinite nor not-a-number
abbrev pub finite : Float → Bool
finite nan = false
finite (inf s) = false
finite (fin s m e) = true

-- 01: "a value that is infinite or not a number is bad, as are the first two"
abbrev pub good : Reading → Bool
good NeverHeard = false
good Invalid = false
good (Value x) = finite x

-- the letters of a calculation, in either branch
abbrev pub letters : Tree → List ℕ
letters (number_tree x) = []
letters (letter_tree i) = i ∷ []
letters (minus t) = letters t
letters (negation t) = letters t
letters (binary o t u) = letters t ++ letters u
letters (choice c x y) = letters c ++ (letters x ++ letters y)

-- the parts of a calculation that are evaluated, itself first. 02: "both sides of `&&` and `||` are evaluated, the branch not chosen isn't"
unfoldable pub evaluated : List Reading → Tree → List Tree
evaluated rs (number_tree x) = number_tree x ∷ []
evaluated rs (letter_tree i) = letter_tree i ∷ []
evaluated rs (minus t) = minus t ∷ evaluated rs t
evaluated rs (negation t) = negation t ∷ evaluated rs t
evaluated rs (binary o t u) = binary o t u ∷ (evaluated rs t ++ evaluated rs u)
evaluated rs (choice c x y) = choice c x y ∷ (evaluated rs c ++ cond (is_true (value rs c)) (evaluated rs x) (evaluated rs y))

-- no evaluated part has "an infinite or not-a-number value"; as a statement, and as the test that decides it
abbrev pub FiniteParts : List Reading → Tree → Type 0
FiniteParts rs t = Every (λ u. finite (value rs u) ≡ true) (evaluated rs t)

abbrev pub finite_throughout : List Reading → Tree → Bool
finite_throughout rs t = all (λ u. finite (value rs u)) (evaluated rs t)

-- 02, ticket 5: "the lowest letter in its text whose reading is bad"; as a statement, and as the function that finds it (proofs/laws/Lowest.antt: lowest_bad_is)
pub record LowestBad (rs : List Reading) (is : List ℕ) (i : ℕ) : Type 0 where
  pub among : Memᴰ i is
  pub bad : good (reading rs i) ≡ false
  pub lowest : Every (λ j. good (reading rs j) ≡ false → i ≤ j) is

abbrev pub lower : ℕ → Option ℕ → ℕ
lower i none = i
lower i (some j) = min i j

-- the lowest of some letters that are not good
abbrev pub lowest : (ℕ → Bool) → List ℕ → Option ℕ
lowest good-one [] = none
lowest good-one (i ∷ is) = cond (good-one i) (lowest good-one is) (some (lower i (lowest good-one is)))

abbrev pub lowest_bad : List Reading → List ℕ → Option ℕ
lowest_bad rs = lowest (λ i. good (reading rs i))

-- 02: "a value, or bad with the lowest letter in its text whose reading is bad, or, with none such, bad by arithmetic"
abbrev pub worth_by : Option ℕ → Bool → Float → Worth
worth_by (some i) whole x = BadBy i
worth_by none true x = Is x
worth_by none false x = BadByArithmetic

-- 01: "If any letter in the text, in either branch, has a bad reading"; 02: "An infinite or not-a-number value of any evaluated part"
abbrev pub tree_worth : List Reading → Tree → Worth
tree_worth rs t = worth_by (lowest_bad rs (letters t)) (finite_throughout rs t) (value rs t)

-- of what a text says, if it is a calculation
abbrev pub worth : List Reading → Option Tree → Worth
worth rs none = NoCalculation
worth rs (some t) = tree_worth rs t

-- 01: "0.99 < result < 1.01, both bounds being the nearest binary64"
abbrev pub lower_bound : Float
lower_bound = of_bits binary64 0x3fef_ae14_7ae1_47ae

abbrev pub upper_bound : Float
upper_bound = of_bits binary64 0x3ff0_28f5_c28f_5c29

-- 001: "the actual test for TRUE is (0.99 < result < 1.01)"
abbrev pub near_one : Float → Bool
near_one x = Ieee.lt lower_bound x && Ieee.lt x upper_bound

-- 01: "[..] has a bad reading, the calculation is false. Otherwise it is true exactly if 0.99 < result < 1.01"; 02: "makes the whole calculation false"
abbrev pub true_worth : Worth → Bool
true_worth NoCalculation = false
true_worth (BadBy i) = false
true_worth BadByArithmetic = false
true_worth (Is x) = near_one x

abbrev pub holds : List Reading → Tree → Bool
holds rs t = true_worth (tree_worth rs t)
