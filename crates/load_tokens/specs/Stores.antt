-- A token stored behind the others, and what that leaves as it was.
use Rattle.std.specs.Prelude.{List, ℕ, ◌<◌, ◌≤◌, length, get_or, set}
use Rattle.load_tokens.specs.Arrays.{Arrays}

-- arrays of their four lists
abbrev pub arrays_of : List ℕ → List ℕ → List ℕ → List ℕ → Arrays
arrays_of k p s e = record { kinds = k; places = p; starts = s; ends = e }

-- the numbers of one token
pub record Numbers : Type 0 where
  pub kind : ℕ
  pub place : ℕ
  pub start : ℕ
  pub end : ℕ

abbrev pub stored : Arrays → ℕ → Numbers → Arrays
stored a i t =
    record {
      kinds = set a.kinds i t.kind;
      places = set a.places i t.place;
      starts = set a.starts i t.start;
      ends = set a.ends i t.end;
    }

-- each array is long enough for n tokens
pub record Room (n : ℕ) (a : Arrays) : Type 0 where
  pub kinds : n ≤ length a.kinds
  pub places : n ≤ length a.places
  pub starts : n ≤ length a.starts
  pub ends : n ≤ length a.ends

-- a token's numbers are those of a text: its kind is one, its text lies in the file, and its place
pub record Good (n : ℕ) (a : Arrays) (i : ℕ) : Type 0 where
  pub kind : get_or a.kinds i 0 < 14
  pub place : get_or a.places i 0 < n
  pub start : get_or a.starts i 0 ≤ get_or a.ends i 0
  pub end : get_or a.ends i 0 ≤ n
