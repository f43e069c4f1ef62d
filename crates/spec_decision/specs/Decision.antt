-- The answer to a question on a table. 01, "The question"; 02, tickets 2 and 5.
use Rattle.std.specs.Prelude.{Bool, false, cond, List, [], ℕ}
use Rattle.std.proofs.Math.Option.{Option, none, some}
use Rattle.spec_rule.specs.declared.Access.{Access}
use Rattle.spec_rule.specs.declared.Access.TheVariants as access
use Rattle.spec_rule.specs.declared.Decision.{Decision}
use Rattle.spec_rule.specs.declared.Stop.{Stop}
use Rattle.spec_rule.specs.declared.Stop.TheVariants.{Nothing}
use Rattle.spec_rule.specs.Roles.{roles_fit}
use Rattle.spec_rule.specs.Question.{Question}
use Rattle.spec_rule.specs.Rule.{Rule}
use Rattle.spec_rule.specs.Decision.{with_letter, decision_by}
use Rattle.spec_rule.specs.Answering.{a_level, answering}
use Rattle.spec_file.specs.Limit.{access_groups}
use Rattle.spec_table.specs.Layout.{Content}
use Rattle.spec_table.specs.View.{view}
use Rattle.spec_table.specs.Check.{is_table}
use Rattle.spec_table.specs.Policy.{name, rules_of}
use Rattle.spec_decision.specs.declared.Answer.{Answer}
use Rattle.spec_decision.specs.declared.Answer.TheVariants.{Answered, NotTable, BadLevel, BadRoles}

-- 01: 20 "not a table", of a question and of a look-up
abbrev pub not_table_number : ℕ
not_table_number = 20

-- 01: 21 "level neither 0 nor 1"
abbrev pub bad_level_number : ℕ
bad_level_number = 21

-- 02, ticket 2: "26 more than 16 roles or one too long"
abbrev pub bad_roles_number : ℕ
bad_roles_number = 26

-- the papers' number of a refusal
abbrev pub number : Answer → Option ℕ
number (Answered d) = none
number NotTable = some not_table_number
number BadLevel = some bad_level_number
number BadRoles = some bad_roles_number

-- the access of an answer. 01 of 20 and 21: "NONE, no trap"; 26 is answered as 21 is
abbrev pub access_in : Answer → Access
access_in (Answered d) = d.access
access_in NotTable = access.None
access_in BadLevel = access.None
access_in BadRoles = access.None

abbrev pub trap_in : Answer → Bool
trap_in (Answered d) = d.trap
trap_in NotTable = false
trap_in BadLevel = false
trap_in BadRoles = false

-- 02: "the letter, or that there is none (as when refused)"
abbrev pub letter_in : Answer → Stop
letter_in (Answered d) = d.letter
letter_in NotTable = Nothing
letter_in BadLevel = Nothing
letter_in BadRoles = Nothing

-- what an answer gives
abbrev pub decision_in : Answer → Decision
decision_in a = with_letter (access_in a) (trap_in a) (letter_in a)

-- "without DEFAULT the answer is NONE, no trap": no group, no rules
abbrev pub rules_in : Content → Option (List ℕ) → List Rule
rules_in c none = []
rules_in c (some row) = rules_of c row

-- the rules of the group that answers
abbrev pub rules_for : Content → List ℕ → List Rule
rules_for c g = rules_in c (answering (name c access_groups) g (c.records access_groups))

-- what a question is answered by some rules. 02: 26 "after 21"
abbrev pub answer_by : Question → List Rule → Answer
answer_by q rs = cond (a_level q.level) (cond (roles_fit q.roles) (Answered (decision_by q rs)) BadRoles) BadLevel

-- "20 comes before 21 and 22."
unfoldable pub decide : List ℕ → Question → Answer
decide b q = cond (is_table b) (answer_by q (rules_for (view b) q.group)) NotTable
