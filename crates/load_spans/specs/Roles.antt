-- The tokens of a role in the arrays: how many, and how far to the next. Roles stand as numbers, as in the arrays.
use Rattle.std.specs.Prelude.{cond, ◌||◌, List, [], ℕ, zero, suc, ◌+◌, ◌-◌, ◌≤◌, ◌<◌, eqb, length, get_or}
use Rattle.spec_grammar.specs.Sentence.{Tagged}
use Rattle.load_tokens.specs.Arrays.{Arrays, tagged_from}

-- the code of a role other than NoRole
pub record RoleCode (q : ℕ) : Type 0 where
  pub some : 0 < q
  pub known : q < 18

-- the arrays that say what texts are
abbrev pub arrays : List ℕ → List ℕ → Arrays
arrays starts ends = record { kinds = []; places = []; starts = starts; ends = ends }

-- the spans of n tokens are in s
pub record SpansFit (s starts ends roles : List ℕ) (n : ℕ) : Type 0 where
  pub few : n ≤ 16384
  pub short : length s ≤ 16384
  pub has_starts : n ≤ length starts
  pub has_ends : n ≤ length ends
  pub has_roles : n ≤ length roles
  pub in_order : (i : ℕ) → i < n → get_or starts i 0 ≤ get_or ends i 0
  pub inside : (i : ℕ) → i < n → get_or ends i 0 ≤ length s

-- ---- the tokens from one index up to another

module _ (s : List ℕ) (a : Arrays) (roles : List ℕ) where
  abbrev pub tokens : ℕ → ℕ → List Tagged
  tokens i to = tagged_from s a roles i (to - i)

-- ---- counting

-- how many of k roles from the i-th on are m
unfoldable pub tally : ℕ → List ℕ → ℕ → ℕ → ℕ
tally m roles i zero = 0
tally m roles i (suc k) = cond (eqb (get_or roles i 0) m) 1 0 + tally m roles (suc i) k

-- ---- the way to the next

-- how many of k roles from the i-th on stand before the first that is a or b
unfoldable pub gap : ℕ → ℕ → List ℕ → ℕ → ℕ → ℕ
gap a b roles i zero = 0
gap a b roles i (suc k) = cond (eqb (get_or roles i 0) a || eqb (get_or roles i 0) b) 0 (suc (gap a b roles (suc i) k))
