-- Where the table stands, and who writes there. 01, "The later edition": "Nobody else writes the table."
use Rattle.std.specs.Prelude.{◌≡◌, Bool, cond, List, [], ◌∷◌, map, ℕ, zero, suc, ◌+◌, ◌≤◌, ◌<◌}
use Rattle.std.proofs.Math.Option.{Option, none, some}
use Rattle.spec_lists.specs.Select.{select}
use Rattle.spec_lists.specs.Every.{Every}
use Rattle.spec_load.specs.Load.{load}
use Rattle.spec_demand.specs.Calls.{Call, text_loaded}

-- a program's memory: the byte at each address
abbrev pub Memory : Type 0
Memory = ℕ → ℕ

-- so many bytes of it, from an address on
pub record Storage : Type 0 where
  pub from : ℕ
  pub size : ℕ

pub record Within (a : ℕ) (s : Storage) : Type 0 where
  pub from : s.from ≤ a
  pub before : a < s.from + s.size

-- two storages with no byte in common
abbrev pub Apart : Storage → Storage → Type 0
Apart s t = (a : ℕ) → Within a s → Within a t → ⊥

abbrev pub bytes_from : Memory → ℕ → ℕ → List ℕ
bytes_from m a zero = []
bytes_from m a (suc n) = m a ∷ bytes_from m (suc a) n

abbrev pub bytes_in : Memory → Storage → List ℕ
bytes_in m s = bytes_from m s.from s.size

-- A call as it is made: what is called; whether it is lent this table (one of a text alone, on another table, or a load into other storage is not); the
-- storage lent to it for writing besides the table, the call's own stack counted as lent; and the memory before and after.
pub record Step : Type 0 where
  pub call : Call
  pub on_table : Bool
  pub lent : List Storage
  pub before : Memory
  pub after : Memory

abbrev pub calls_of : List Step → List Call
calls_of xs = map (λ x. x.call) (select (λ x. x.on_table) xs)

-- nothing is written outside some storages
abbrev pub WritesOnly : List Storage → Memory → Memory → Type 0
WritesOnly lent before after = (a : ℕ) → Every (λ s. Within a s → ⊥) lent → after a ≡ before a

-- What the contracts of the calls promise: a load into the table leaves there what its definition says; any other call writes only what it is lent for that.
abbrev pub Leaves : Storage → Step → Option (List ℕ) → Type 0
Leaves table x none = WritesOnly x.lent x.before x.after
Leaves table x (some s) = bytes_in x.after table ≡ (load (bytes_in x.before table) s).bytes

abbrev pub Made : Storage → Step → Type 0
Made table x = Leaves table x (cond x.on_table (text_loaded x.call) none)

-- "Nobody else writes the table": what is lent to a call for writing is apart from it, and from one call to the next its bytes stay as they are.
-- Of the memory at first, the calls, and the memory at last.
abbrev pub NobodyElseWrites : Storage → Memory → List Step → Memory → Type 0
NobodyElseWrites table first [] last = bytes_in last table ≡ bytes_in first table
NobodyElseWrites table first (x ∷ xs) last =
    (bytes_in x.before table ≡ bytes_in first table) × (Every (Apart table) x.lent × NobodyElseWrites table x.after xs last)
