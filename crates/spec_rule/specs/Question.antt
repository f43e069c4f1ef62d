-- A question without its table. 01, "The question"; 02, ticket 2.
use Rattle.std.specs.Prelude.{Bool, ◌&&◌, List, [], ℕ, ◌≤◌}
use Rattle.spec_calc.specs.declared.Reading.{Reading}
use Rattle.spec_rule.specs.Answering.{greatest_level, a_level}
use Rattle.spec_rule.specs.Roles.{RolesFit, roles_fit, lent_roles}

-- 01: "Given: a table, a group name, user, host, level, and 21 readings." 02: "Questions now carry up to 16 roles"
pub record Question : Type 0 where
  pub group : List ℕ
  pub user : List ℕ
  pub roles : List (List ℕ)
  pub host : List ℕ
  pub level : ℕ
  pub readings : List Reading

-- the question of a group, a user, a host, roles, a level and readings
abbrev pub asking : List ℕ → List ℕ → List ℕ → List (List ℕ) → ℕ → List Reading → Question
asking g u h roles l rs = record { group = g; user = u; roles = roles; host = h; level = l; readings = rs }

-- a question without roles: "Channel Access clients, the register's and the asker's have none."
abbrev pub question_of : List ℕ → List ℕ → List ℕ → ℕ → List Reading → Question
question_of g u h l rs = asking g u h [] l rs

-- the question with other roles
abbrev pub with_roles : Question → List (List ℕ) → Question
with_roles q roles = asking q.group q.user q.host roles q.level q.readings

-- the question with other readings
abbrev pub reading_instead : Question → List Reading → Question
reading_instead q rs = asking q.group q.user q.host q.roles q.level rs

-- the question whose roles are lent as a pool and lengths
abbrev pub lent_question : List ℕ → List ℕ → List ℕ → List ℕ → List ℕ → ℕ → List Reading → Question
lent_question g u h pool lengths l rs = asking g u h (lent_roles pool lengths) l rs

-- 02: "a valid question": one that is refused neither for its level (21) nor for its roles (26)
pub record Valid (q : Question) : Type 0 where
  pub level : q.level ≤ greatest_level
  pub roles : RolesFit q.roles

-- the same as a test (proofs/laws/Roles.antt: valid_is)
abbrev pub valid : Question → Bool
valid q = a_level q.level && roles_fit q.roles
