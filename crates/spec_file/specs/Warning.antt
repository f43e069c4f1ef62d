-- The warnings of an accepted file, by place. 01, "Load refusals, in their order", its last paragraph; 02, ticket 4: "Warning 3 goes".
use Rattle.std.specs.Prelude.{◌≡◌, cond, ℕ}
use mathlib.Core.List.{List, [], ◌∷◌, Memᴰ}
use Rattle.std.proofs.Math.Option.{Option, none, some}
use Rattle.spec_grammar.specs.declared.Role.TheVariants as role
use Rattle.spec_grammar.specs.Sentence.{Tagged}
use Rattle.spec_file.specs.declared.Warning.{Warning}
use Rattle.spec_file.specs.declared.Warning.TheVariants.{UnknownItem, UnknownPredicate}
use Rattle.spec_file.specs.Contents.{has_role, place}

-- 01's numbers
abbrev pub number : Warning → ℕ
number UnknownItem = 1
number UnknownPredicate = 2

pub record Warned : Type 0 where
  pub warning : Warning
  pub place : ℕ

-- 01: "1 unknown top-level item (its name), 2 unknown predicate in a RULE body (its name)"
pub data Warns (x : Tagged) : Warning → Type 0 where
  item : x.role ≡ role.UnknownItem → Warns x UnknownItem
  predicate : x.role ≡ role.UnknownPredicate → Warns x UnknownPredicate

-- one of the tokens xs gives the warning w
pub record Given (xs : List Tagged) (w : Warned) : Type 0 where
  pub token : Tagged
  pub among : Memᴰ token xs
  pub warns : Warns token w.warning
  pub at : w.place ≡ place token

-- ---- A machine that lists them. proofs/laws/Warnings.antt proves that it lists exactly these, by place; nobody has to believe it.

abbrev pub warning_of : Tagged → Option Warning
warning_of x = cond (has_role role.UnknownItem x) (some UnknownItem) (cond (has_role role.UnknownPredicate x) (some UnknownPredicate) none)

abbrev pub with_place : Option Warning → Tagged → List Warned → List Warned
with_place none x ws = ws
with_place (some w) x ws = record { warning = w; place = place x } ∷ ws

-- the warnings of a file
abbrev pub warnings : List Tagged → List Warned
warnings [] = []
warnings (x ∷ xs) = with_place (warning_of x) x (warnings xs)
