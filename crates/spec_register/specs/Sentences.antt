-- Words for the sentences of 02, ticket 1, on a gateway: which calls do what, and why one is refused.
use Rattle.std.specs.Prelude.{◌≡◌, Bool, List, [], ◌∷◌, ◌⊎◌, ℕ, zero, suc, ◌/◌, ◌%◌, ◌<◌, eqb, length}
use Rattle.std.proofs.Math.Option.{Option, none, some}
use Rattle.spec_lists.specs.Every.{Every}
use Rattle.spec_calc.specs.declared.Reading.{Reading}
use Rattle.spec_calc.specs.Value.{reading}
use Rattle.spec_rule.specs.Privilege.{Some, FirstSuch}
use Rattle.spec_rule.specs.Answering.{greatest_level}
use Rattle.spec_file.specs.Limit.{most, access_groups, longest_name}
use Rattle.spec_table.specs.View.{view}
use Rattle.spec_table.specs.Table.{Table, letter_field}
use Rattle.spec_decision.specs.LookUp.{links_in}
use Rattle.spec_decision.specs.Groups.{Numbered, full_name, groups_of, group_name}
use Rattle.spec_register.specs.declared.Added.TheVariants as added
use Rattle.spec_register.specs.declared.Changed.TheVariants as changed
use Rattle.spec_register.specs.declared.Reloaded.TheVariants as reloaded
use Rattle.spec_register.specs.Register.{Client, Register, empty, most_clients, letters, client_at, readings_at}
use Rattle.spec_register.specs.Calls.{Gateway, Call, add, change, remove, set_reading, load_again, after as after_call, Answer, client_added}
use Rattle.spec_register.specs.Calls.{rights_changed, table_loaded, answer, refusal_of}

-- "from an empty register with every reading never heard", over any lent bytes
abbrev pub begun : List ℕ → Gateway
begun t = record { table = t; register = empty }

abbrev pub NotRefused : Gateway → Call → Type 0
NotRefused g c = refusal_of (answer g c) ≡ none

-- every call of a sequence, each made on what the earlier ones left, that is not refused has P
abbrev pub EachDone : (Gateway → Call → Type 0) → Gateway → List Call → Type 0
EachDone P g [] = Unit {0}
EachDone P g (c ∷ cs) = (NotRefused g c → P g c) × EachDone P (after_call g c) cs

-- "up to 64 connected clients"; of each of 64 access groups, "its group's 21" readings
pub record Sized (r : Register) : Type 0 where
  pub places : length r.clients ≡ most_clients
  pub groups : length r.readings ≡ most access_groups
  pub readings : Every (λ rs. length rs ≡ letters) r.readings

-- ---- places

abbrev pub Free : Register → ℕ → Type 0
Free r p = client_at r p ≡ none

abbrev pub Taken : Register → ℕ → Type 0
Taken r p = (c : Client) × (client_at r p ≡ some c)

-- "the lowest free place"
pub record LowestFree (r : Register) (p : ℕ) : Type 0 where
  pub place : p < most_clients
  pub free : Free r p
  pub lower : (q : ℕ) → q < p → Taken r q

-- the place p, and nothing else, is given anew: it has the client o, or none
pub record OnlyPlace (p : ℕ) (o : Option Client) (before after : Register) : Type 0 where
  pub here : client_at after p ≡ o
  pub others : (q : ℕ) → (q ≡ p → ⊥) → client_at after q ≡ client_at before q
  pub readings : after.readings ≡ before.readings

-- "until changed or removed": the call is neither, of the client at p
abbrev pub SparesClient : ℕ → Gateway → Call → Type 0
SparesClient p g (add c) = Unit {0}
SparesClient p g (change q c) = q ≡ p → ⊥
SparesClient p g (remove q) = q ≡ p → ⊥
SparesClient p g (set_reading n letter x) = Unit {0}
SparesClient p g (load_again s) = Unit {0}

-- ---- readings

-- the reading of a letter in the i-th access group
abbrev pub reading_at : Register → ℕ → ℕ → Reading
reading_at r i letter = reading (readings_at r i) letter

-- "Setting one reading changes that one place among its group's 21."
pub record OnlyReading (i letter : ℕ) (x : Reading) (before after : Register) : Type 0 where
  pub here : reading_at after i letter ≡ x
  pub others : (j l : ℕ) → (j ≡ i → l ≡ letter → ⊥) → reading_at after j l ≡ reading_at before j l
  pub clients : after.clients ≡ before.clients

-- "an access group given by name (the first so named; empty is DEFAULT)"
abbrev pub Named : List ℕ → List ℕ → Numbered → Type 0
Named b n g = FirstSuch (λ h. group_name b h ≡ full_name n) (groups_of b) g

-- "each stays as last set", and "until then", a good load: the call is no load, and sets no reading of the i-th group's letter
abbrev pub SparesReading : ℕ → ℕ → Gateway → Call → Type 0
SparesReading i letter g (add c) = Unit {0}
SparesReading i letter g (change q c) = Unit {0}
SparesReading i letter g (remove q) = Unit {0}
SparesReading i letter g (set_reading n l x) = (h : Numbered) → Named g.table n h → h.number ≡ i → l ≡ letter → ⊥
SparesReading i letter g (load_again s) = ⊥

-- "no accepted load": the table stands as it was loaded
abbrev pub NoLoad : Gateway → Call → Type 0
NoLoad g (add c) = Unit {0}
NoLoad g (change q c) = Unit {0}
NoLoad g (remove q) = Unit {0}
NoLoad g (set_reading n l x) = Unit {0}
NoLoad g (load_again s) = ⊥

-- ---- refusals

-- 23: "a client's name over 60 bytes"
abbrev pub HasLongName : Client → Type 0
HasLongName c = Some (λ n. longest_name < length n) (c.group ∷ c.user ∷ c.host ∷ [])

-- 21: "level neither 0 nor 1"
abbrev pub HasBadLevel : Client → Type 0
HasBadLevel c = greatest_level < c.level

-- 24: "all 64 places taken"
abbrev pub AllTaken : Register → Type 0
AllTaken r = (p : ℕ) → p < most_clients → Taken r p

-- 22, where this does not hold: "a reading for an undefined access group or a letter without input". The first group so named has an input of the letter.
pub record HasInput (b n : List ℕ) (letter : ℕ) : Type 0 where
  pub group : Numbered
  pub named : Named b n group
  pub input : Some (λ i. letter_field i ≡ letter) (links_in (view b) group.row)

-- a number, and when a call is refused with it unless an earlier one of its causes applies
pub record Cause : Type 1 where
  pub number : ℕ
  pub applies : Type 0

abbrev pub on : ℕ → Type 0 → Cause
on n A = record { number = n; applies = A }

-- causes in their order: the first that applies gives the number; none if none does
abbrev pub FirstApplies : List Cause → Option ℕ → Type 0
FirstApplies [] o = o ≡ none
FirstApplies (c ∷ cs) o = (c.applies × (o ≡ some c.number)) ⊎ ((c.applies → ⊥) × FirstApplies cs o)

-- "23 a client's name over 60 bytes, then 21, then 24 all 64 places taken"
abbrev pub add_causes : Register → Client → List Cause
add_causes r c = on 23 (HasLongName c) ∷ on 21 (HasBadLevel c) ∷ on 24 (AllTaken r) ∷ []

-- "change and remove give 25 for a place with no client, before the others"
abbrev pub change_causes : Register → ℕ → Client → List Cause
change_causes r p c = on 25 (Free r p) ∷ on 23 (HasLongName c) ∷ on 21 (HasBadLevel c) ∷ []

abbrev pub remove_causes : Register → ℕ → List Cause
remove_causes r p = on 25 (Free r p) ∷ []

-- "a reading for an undefined access group or a letter without input is 22, after 20"
abbrev pub set_causes : List ℕ → List ℕ → ℕ → List Cause
set_causes b n letter = on 20 (Table b → ⊥) ∷ on 22 (HasInput b n letter → ⊥) ∷ []

-- ---- "which places changed, as 64 bits"

-- the bits in an answer; a refused call answers none
abbrev pub changed_in : Answer → ℕ
changed_in (client_added (added.At p m)) = m
changed_in (client_added (added.Refused x)) = 0
changed_in (rights_changed (changed.Places m)) = m
changed_in (rights_changed (changed.Refused x)) = 0
changed_in (table_loaded (reloaded.Accepted n w m)) = m
changed_in (table_loaded (reloaded.Refused x p)) = 0
changed_in (table_loaded reloaded.NotRegister) = 0

-- bit p of a number, the lowest being bit 0
abbrev pub bit_of : ℕ → ℕ → Bool
bit_of zero n = eqb (n % 2) 1
bit_of (suc p) n = bit_of p (n / 2)
