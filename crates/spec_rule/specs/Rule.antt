-- What a rule asks of a question, and what the rules of a group give. 01, "The question"; 001, the access rule in steps 1 to 3; 02, ticket 5.
use Rattle.std.specs.Prelude.{Bool, true, false, cond, not, ◌&&◌, List, [], ◌∷◌, map, ℕ, suc, leb, eqb, length, take, drop}
use Rattle.std.proofs.Math.Option.{Option, none, some}
use Rattle.spec_lists.specs.Text.{same, lowered}
use Rattle.spec_lists.specs.Select.{any, select, first}
use Rattle.spec_calc.specs.declared.Reading.{Reading}
use Rattle.spec_calc.specs.declared.Worth.{Worth}
use Rattle.spec_calc.specs.declared.Worth.TheVariants.{NoCalculation, BadBy, BadByArithmetic, Is}
use Rattle.spec_calc.specs.Expression.{Tree}
use Rattle.spec_calc.specs.Value.{worth, near_one, true_worth}
use Rattle.spec_calc.specs.Reader.{tree_of}
use Rattle.spec_rule.specs.declared.Access.{Access}
use Rattle.spec_rule.specs.declared.Access.TheVariants as access
use Rattle.spec_rule.specs.declared.Stop.{Stop}
use Rattle.spec_rule.specs.declared.Stop.TheVariants.{Nothing, Letter}
use Rattle.spec_rule.specs.declared.Outcome.{Outcome}
use Rattle.spec_rule.specs.declared.Outcome.TheVariants as outcomes
use Rattle.spec_rule.specs.Roles.{role_prefix}
use Rattle.spec_rule.specs.Question.{Question}

-- a rule and what it asks, of a file or of a table
pub record Rule : Type 0 where
  pub level : ℕ
  pub permission : Access
  pub trap : Bool
  pub switched_off : Bool
  -- for each UAG and each HAG that it names, the members as they stand there; a file's hosts are lowered first
  pub uags : List (List (List ℕ))
  pub hags : List (List (List ℕ))
  pub calculation : Option (List ℕ)

-- the rule with its calculation left out
abbrev pub without_calculation : Rule → Rule
without_calculation r =
    record {
      level = r.level;
      permission = r.permission;
      trap = r.trap;
      switched_off = r.switched_off;
      uags = r.uags;
      hags = r.hags;
      calculation = none;
    }

-- 01: "permission (0, 1, 2)"; 001: "WRITE permission implies READ permission."
abbrev pub rank : Access → ℕ
rank access.None = 0
rank access.Read = 1
rank access.Write = 2

-- ---- Functions that decide what Privilege.antt states. Nobody has to believe them: proofs/laws/Asked.antt, Stopped.antt and Privilege.antt
-- prove that they agree with it.

-- 01: "the user is a member of one of its UAGs (or it names none)"; "Several UAG lists in one rule count as one."
-- A predicate says which members match: `matches_question` for users, equality with the lowered name for hosts.
abbrev pub belongs : (List ℕ → Bool) → List (List (List ℕ)) → Bool
belongs matches [] = true
belongs matches (g ∷ gs) = any (λ members. any matches members) (g ∷ gs)

-- the text begins with those bytes
abbrev pub begins : List ℕ → List ℕ → Bool
begins p s = same p (take (length p) s)

-- which members of a user group match. 02: "a UAG member beginning `role/` matches a client one of whose roles equals the rest of it. [..] Such a member no
-- longer matches a user name"
abbrev pub matches_client : List ℕ → List (List ℕ) → List ℕ → Bool
matches_client user roles member = cond (begins role_prefix member) (any (same (drop (length role_prefix) member)) roles) (same user member)

abbrev pub matches_question : Question → List ℕ → Bool
matches_question q = matches_client q.user q.roles

-- the tree that a text says, if it says one, is true of the readings
abbrev pub true_tree : List Reading → Option Tree → Bool
true_tree rs o = true_worth (worth rs o)

-- 01: "its calculation, if any, is true"
abbrev pub calculation_holds : List Reading → Option (List ℕ) → Bool
calculation_holds rs none = true
calculation_holds rs (some s) = true_tree rs (tree_of s)

-- what a rule asks of level, user, host and calculation. 01: "the host likewise (its ASCII letters lowered first, stored bytes as they are)"
abbrev pub asks : Rule → Question → Bool
asks r q =
    leb q.level r.level
    && (belongs (matches_question q) r.uags
    && (belongs (same (lowered q.host)) r.hags && calculation_holds q.readings r.calculation))

-- 01: "A rule passes if it isn't switched off, the field's level is at most the rule's, [..]"
abbrev pub passes : Question → Rule → Bool
passes q r = not r.switched_off && asks r q

-- what a rule asks that does not depend on readings: "it isn't switched off, the field's level is at most the rule's, the user is a member of one of its
-- UAGs (or it names none), the host likewise". It passes exactly if it stands and its calculation is true (proofs/laws/Passing.antt: passes_stands).
abbrev pub stands : Question → Rule → Bool
stands q r =
    not r.switched_off
    && (leb q.level r.level && (belongs (matches_question q) r.uags && belongs (same (lowered q.host)) r.hags))

abbrev pub greater : Access → Access → Access
greater a b = cond (leb (rank a) (rank b)) b a

-- 01: "the greatest of the passing rules' permissions, NONE if none pass"
abbrev pub greatest : List Access → Access
greatest [] = access.None
greatest (a ∷ others) = greater a (greatest others)

-- 001: "The maximum access allowed by step 2 is the access chosen."
abbrev pub access_by : Question → List Rule → Access
access_by q rs = greatest (map (λ r. r.permission) (select (passes q) rs))

-- 001: "the first WRITE rule that passes the rule checks"
abbrev pub gives_write : Rule → Bool
gives_write r = eqb (rank r.permission) (rank access.Write)

abbrev pub trap_of : Option Rule → Bool
trap_of none = false
trap_of (some r) = r.trap

-- 01: "Trap is that of the first passing WRITE rule, and off if there is none."
abbrev pub trap_by : Question → List Rule → Bool
trap_by q rs = trap_of (first gives_write (select (passes q) rs))

-- what a rule's calculation comes to
abbrev pub judged : Worth → Outcome
judged NoCalculation = outcomes.False
judged (BadBy i) = outcomes.Stopped i
judged BadByArithmetic = outcomes.False
judged (Is x) = cond (near_one x) outcomes.True outcomes.False

abbrev pub outcome : List Reading → Option (List ℕ) → Outcome
outcome rs none = outcomes.True
outcome rs (some s) = judged (worth rs (tree_of s))

-- 02: "whose permission is above the access answered, whose calculation is bad by a letter"
abbrev pub stop_above : Access → Access → Outcome → Stop
stop_above a permission outcomes.True = Nothing
stop_above a permission outcomes.False = Nothing
stop_above a permission (outcomes.Stopped i) = cond (leb (suc (rank a)) (rank permission)) (Letter i) Nothing

-- "and which fails by nothing else"
abbrev pub stop_by : Question → Access → Rule → Stop
stop_by q a r = cond (stands q r) (stop_above a r.permission (outcome q.readings r.calculation)) Nothing

abbrev pub or_else : Stop → Stop → Stop
or_else Nothing s = s
or_else (Letter i) s = Letter i

abbrev pub first_stop : List Stop → Stop
first_stop [] = Nothing
first_stop (s ∷ ss) = or_else s (first_stop ss)

-- "the letter, or that there is none [..], of the first rule" such
abbrev pub letter_by : Question → Access → List Rule → Stop
letter_by q a rs = first_stop (map (stop_by q a) rs)
