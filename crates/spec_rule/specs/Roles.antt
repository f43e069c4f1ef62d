-- Roles: how many a question may carry, how they are lent, and which member of a user group is a role. 02, ticket 2; 001, "role/".
use Rattle.std.specs.Prelude.{Bool, cond, ◌&&◌, List, [], ◌∷◌, ℕ, ◌+◌, ◌≤◌, leb, length, take, drop, replicate}
use Rattle.spec_lists.specs.Text.{bytes}
use Rattle.spec_lists.specs.Every.{Every}
use Rattle.spec_lists.specs.Select.{all, total}

-- 001: "items beginning with "role/""
abbrev pub role_prefix : List ℕ
role_prefix = bytes "role/"

abbrev pub most_roles : ℕ
most_roles = 16

abbrev pub longest_role : ℕ
longest_role = 60

-- "up to 16 roles, each at most 60 bytes"; else 26
pub record RolesFit (roles : List (List ℕ)) : Type 0 where
  pub count : length roles ≤ most_roles
  pub each : Every (λ r. length r ≤ longest_role) roles

-- the same as a test (proofs/laws/Roles.antt: roles_fit_is)
abbrev pub roles_fit : List (List ℕ) → Bool
roles_fit roles = leb (length roles) most_roles && all (λ r. leb (length r) longest_role) roles

-- ---- Roles as a caller of the code lends them: one behind the other in one pool of bytes, and the length of each. No sentence of the papers has this:
-- docs/DECISIONS.md, "How roles are lent".

-- the first n bytes are the first role, and so on
abbrev pub cut_roles : List ℕ → List ℕ → List (List ℕ)
cut_roles pool [] = []
cut_roles pool (n ∷ ns) = take n pool ∷ cut_roles (drop n pool) ns

-- more than a question may carry
abbrev pub too_many_roles : List (List ℕ)
too_many_roles = replicate (most_roles + 1) []

-- lengths that pass the pool name no roles of the caller's: they are refused as too many are
abbrev pub lent_roles : List ℕ → List ℕ → List (List ℕ)
lent_roles pool ns = cond (leb (total ns) (length pool)) (cut_roles pool ns) too_many_roles
