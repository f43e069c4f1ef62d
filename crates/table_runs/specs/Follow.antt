-- Runs that are to follow each other, taken one after the other.
use Rattle.std.specs.Prelude.{◌≡◌, Option, Some, None, Bool, true, false, ◌&&◌, List, [], ◌∷◌, ◌++◌, map, ℕ, ◌+◌, ◌≤◌, ◌<◌, eqb, leb, length, slice_index}
use Rattle.spec_lists.specs.Select.{joined}
use Rattle.spec_lists.specs.Runs.{Run}
use Rattle.spec_file.specs.Limit.{Section, user_groups, host_groups, members}
use Rattle.spec_table.specs.Layout.{Content, width}
use Rattle.spec_table.specs.View.{total_of, count_of, offset_of, strings_order, view}
use Rattle.spec_table.specs.Check.{run_at, members_run, in_turn, sections_stand}

-- what is left to ask of the runs behind those that were taken
abbrev pub rest_follows : Option ℕ → List Run → ℕ → Bool
rest_follows (Some n) more e = in_turn n more e
rest_follows None more e = false

abbrev pub reached : Option ℕ → ℕ
reached (Some n) = n
reached None = 0

-- the runs rs from a number on, whatever runs follow, and where they end; None if one of them starts elsewhere
pub record Follow (rs : List Run) (from limit : ℕ) (r : Option ℕ) : Type 0 where
  pub same : (more : List Run) (e : ℕ) → in_turn from (rs ++ more) e ≡ rest_follows r more e
  pub small : reached r ≤ limit

-- the runs of a record that begin at some of its words
abbrev pub runs_in : List ℕ → List ℕ → List Run
runs_in starts row = joined (map (λ j. run_at j row ∷ []) starts)

-- bytes whose sections stand have such runs, one or two, in the records of a section
pub record HasRuns (b : List ℕ) (s : Section) (starts : List ℕ) : Type 0 where
  pub stand : sections_stand b ≡ true
  pub few : length starts ≤ 2
  pub within : (k : ℕ) → k < length starts → slice_index starts k + 1 < width s

-- the runs of a section
abbrev pub all_runs : List ℕ → Section → List ℕ → List Run
all_runs b s starts = joined (map (runs_in starts) ((view b).records s))

-- the runs of user groups, then of host groups, use up the members
abbrev pub members_follow : Content → Bool
members_follow c = in_turn 0 (map members_run (c.records user_groups ++ c.records host_groups)) (length (c.records members))

-- the strings start at a number, end with the table and lie within the bytes
abbrev pub ends_stand : List ℕ → ℕ → Bool
ends_stand b at =
    eqb (offset_of b strings_order) at && (eqb (at + count_of b strings_order) (total_of b) && leb (total_of b) (length b))

-- ---- numbers that keep the sums from wrapping

abbrev pub sum_limit : ℕ
sum_limit = 1099511627776

-- what 65,536 records of two runs each can add
abbrev pub most_added : ℕ
most_added = 8589934592
