-- The groups that a rule names and their members, of users and of hosts.
use Rattle.std.specs.Prelude.{◌≡◌, Bool, List, map, ℕ, ◌<◌, length}
use Rattle.spec_lists.specs.Text.{same, lowered}
use Rattle.spec_lists.specs.Runs.{Run, part}
use Rattle.spec_rule.specs.Roles.{cut_roles}
use Rattle.spec_rule.specs.Rule.{matches_client}
use Rattle.spec_file.specs.Limit.{Section, user_groups, host_groups, rules, references}
use Rattle.spec_table.specs.View.{view}
use Rattle.spec_table.specs.Check.{run_at, number_field, undefined_number}
use Rattle.spec_table.specs.Policy.{members_of, referred, row}
use Rattle.ask_member.specs.declared.Name.{Name}
use Rattle.ask_member.specs.declared.Name.TheVariants.{User, Host}

abbrev pub groups : Name → Section
groups (User u) = user_groups
groups (Host h) = host_groups

-- which members match a name, or a user's roles. 01: "the host likewise (its ASCII letters lowered first, stored bytes as they are)"
abbrev pub matches : Name → List ℕ → Bool
matches (User u) = matches_client u.now.name.now (cut_roles u.now.roles.pool.now u.now.roles.lengths.now)
matches (Host h) = same (lowered h.now)

-- which word of a rule begins its references
abbrev pub references_word : Name → ℕ
references_word (User u) = 1
references_word (Host h) = 3

abbrev pub references_run : Name → List ℕ → Run
references_run k = run_at (references_word k)

-- the members of the i-th group
abbrev pub members_in : List ℕ → Name → ℕ → List (List ℕ)
members_in b k i = members_of (view b) (row (view b) (groups k) i)

-- the i-th reference's number is that of a group, unless it says that there is no such group
pub record Refers (b : List ℕ) (k : Name) (i : ℕ) : Type 0 where
  pub inside :
      (number_field (row (view b) references i) ≡ undefined_number → ⊥)
      → number_field (row (view b) references i) < length ((view b).records (groups k))

-- the members of the group that the i-th reference gives
abbrev pub members_referred : List ℕ → Name → ℕ → List (List ℕ)
members_referred b k i = referred (view b) (groups k) (row (view b) references i)

-- the groups that the i-th rule names, each with its members
abbrev pub groups_named : List ℕ → Name → ℕ → List (List (List ℕ))
groups_named b k i =
    map (referred (view b) (groups k)) (part (references_run k (row (view b) rules i)) ((view b).records references))
