-- The premises of demand 3 can be met: by any calls of which none is an accepted load, in a memory that holds the table and nothing else.
use Rattle.std.specs.Prelude.{◌≡◌, refl, true, false, List, [], ◌∷◌, map, ℕ, suc, ◌+◌, length, get_or}
use Rattle.std.proofs.Common.{sym, ap₂, subst, arith}
use Rattle.std.proofs.Math.Option.{Option, none, some}
use Rattle.spec_lists.specs.Every.{Every, nil, cons}
use Rattle.spec_load.proofs.laws.Load.{refused_leaves}
use Rattle.spec_demand.specs.Calls.{Call, load_text, text_loaded, NoNewTable, NoAcceptedLoad}
use Rattle.spec_demand.specs.Memory.{Memory, Storage, Apart, bytes_from, bytes_in, Step, calls_of, WritesOnly, Leaves, Made, NobodyElseWrites}
use Rattle.spec_demand.proofs.laws.Loaded.{load_leaves}

abbrev pub memory_of : List ℕ → Memory
memory_of b = λ a. get_or b a 0

abbrev pub whole : List ℕ → Storage
whole b = record { from = 0; size = length b }

-- a call on the table that changes nothing and is lent nothing
abbrev pub still : Memory → Call → Step
still m c = record { call = c; on_table = true; lent = []; before = m; after = m }

held_from : (b : List ℕ) (m : Memory) (a : ℕ) → ((i : ℕ) → m (a + i) ≡ get_or b i 0) → bytes_from m a (length b) ≡ b
held_from [] m a h = refl
held_from (x ∷ b) m a h =
    let here : a + 0 ≡ a = omega arith in
    ap₂ (λ (y : ℕ) (ys : List ℕ). y ∷ ys) (rw here at (h 0))
    (held_from b m (suc a) (λ i. let next : a + suc i ≡ suc a + i = omega arith in rw next at (h (suc i))))

pub held : (b : List ℕ) → bytes_in (memory_of b) (whole b) ≡ b
held b = held_from b (memory_of b) 0 (λ i. let z : 0 + i ≡ i = omega arith in rw z)

pub stills_made : (b : List ℕ) (cs : List Call) → NoAcceptedLoad b cs → Every (Made (whole b)) (map (still (memory_of b)) cs)
stills_made b [] n = nil
stills_made b (c ∷ cs) n =
    cons
    (by (text_loaded c) n.0)
    (stills_made b cs (subst (λ (x : List ℕ). NoAcceptedLoad x cs) (load_leaves b (text_loaded c) n.0) n.1))
  where
    by : (o : Option (List ℕ)) → NoNewTable b o → Leaves (whole b) (still (memory_of b) c) o
    by none h = λ a e. refl
    by (some s) h = rw (held b) (sym (refused_leaves b s h))

pub stills_alone : (table : Storage) (m : Memory) (cs : List Call) → NobodyElseWrites table m (map (still m) cs) m
stills_alone table m [] = refl
stills_alone table m (c ∷ cs) = (refl, (nil, stills_alone table m cs))

-- ---- a load into other storage

abbrev pub elsewhere : Storage → List ℕ → Memory → Memory → Step
elsewhere other s m m' = record { call = load_text s; on_table = false; lent = other ∷ []; before = m; after = m' }

-- accepted or not, it may come between: it writes only its own storage, which is apart from the table
pub elsewhere_fits :
    (table other : Storage) (b s : List ℕ) (m m' : Memory) → Apart table other → WritesOnly (other ∷ []) m m'
    → let xs = elsewhere other s m m' ∷ [] in Every (Made table) xs × NoAcceptedLoad b (calls_of xs) × NobodyElseWrites table m xs m'
elsewhere_fits table other b s m m' a w = (cons w nil, tt, (refl, (cons a nil, refl)))
