-- The calls of a register: what each answers, and what it leaves. 02, ticket 1.
use Rattle.std.specs.Prelude.{List, [], ◌∷◌, ℕ}
use Rattle.std.proofs.Math.Option.{Option, none, some}
use Rattle.spec_calc.specs.declared.Reading.{Reading}
use Rattle.spec_rule.specs.declared.Decision.{Decision}
use Rattle.spec_file.specs.Refusal as text
use Rattle.spec_decision.specs.Groups.{Numbered, group_named}
use Rattle.spec_load.specs.declared.Loaded.{Loaded}
use Rattle.spec_load.specs.declared.Loaded.TheVariants as loaded
use Rattle.spec_load.specs.Load.{load}
use Rattle.spec_register.specs.declared.Refused.{Refused}
use Rattle.spec_register.specs.declared.Refused.TheVariants.{NotRegister}
use Rattle.spec_register.specs.declared.Added.{Added}
use Rattle.spec_register.specs.declared.Added.TheVariants as added
use Rattle.spec_register.specs.declared.Changed.{Changed}
use Rattle.spec_register.specs.declared.Changed.TheVariants as changed
use Rattle.spec_register.specs.declared.Reloaded.{Reloaded}
use Rattle.spec_register.specs.declared.Reloaded.TheVariants as reloaded
use Rattle.spec_register.specs.Register.{Client, Register, with_client, with_reading, unheard}
use Rattle.spec_register.specs.Right.{right, differing}
use Rattle.spec_register.specs.Refusal.{number, add_refusal, change_refusal, remove_refusal, set_refusal, lowest_free}

-- "add, change and remove a client (group, level, user, host), set one reading of an access group given by name [..], load again"
pub data Call : Type 0 where
  add : Client → Call
  change : ℕ → Client → Call
  remove : ℕ → Call
  -- of a group's name, a letter, the reading
  set_reading : List ℕ → ℕ → Reading → Call
  load_again : List ℕ → Call

-- what a gateway keeps: the bytes lent for a table, and the register
pub record Gateway : Type 0 where
  pub table : List ℕ
  pub register : Register

-- a call that is refused leaves what there was
abbrev pub unless : {A : Type 0} → Option Refused → A → A → A
unless none done left = done
unless (some x) done left = left

-- ---- what each call leaves in the register

abbrev pub after_add : Register → Client → Register
after_add r c = unless (add_refusal r c) (with_client r (lowest_free r.clients) (some c)) r

abbrev pub after_change : Register → ℕ → Client → Register
after_change r p c = unless (change_refusal r p c) (with_client r p (some c)) r

abbrev pub after_remove : Register → ℕ → Register
after_remove r p = unless (remove_refusal r p) (with_client r p none) r

abbrev pub reading_set : Register → Option Numbered → ℕ → Reading → Register
reading_set r none letter x = r
reading_set r (some g) letter x = with_reading r g.number letter x

abbrev pub after_set : List ℕ → Register → List ℕ → ℕ → Reading → Register
after_set b r n letter x = unless (set_refusal b n letter) (reading_set r (group_named b n) letter x) r

-- "A good load makes every reading never heard"; a refused one changes nothing
abbrev pub after_load : Loaded → Register → Register
after_load (loaded.Accepted n w) r = unheard r
after_load (loaded.Refused x p) r = r

abbrev pub after : Gateway → Call → Gateway
after g (add c) = record { table = g.table; register = after_add g.register c }
after g (change p c) = record { table = g.table; register = after_change g.register p c }
after g (remove p) = record { table = g.table; register = after_remove g.register p }
after g (set_reading n letter x) = record { table = g.table; register = after_set g.table g.register n letter x }
after g (load_again s) =
    record { table = (load g.table s).bytes; register = after_load (load g.table s).answer g.register }

abbrev pub after_calls : Gateway → List Call → Gateway
after_calls g [] = g
after_calls g (c ∷ cs) = after_calls (after g c) cs

-- ---- what each call answers

-- the right of a place as it stands
abbrev pub right_at : Gateway → ℕ → Decision
right_at g = right g.table g.register

-- "which places changed, as 64 bits"
abbrev pub changed_by : Gateway → Call → ℕ
changed_by g c = differing (right_at g) (right_at (after g c))

pub data Answer : Type 0 where
  client_added : Added → Answer
  rights_changed : Changed → Answer
  table_loaded : Reloaded → Answer

abbrev pub added_at : Option Refused → ℕ → ℕ → Added
added_at none p m = added.At p m
added_at (some x) p m = added.Refused x

abbrev pub changed_or : Option Refused → ℕ → Changed
changed_or none m = changed.Places m
changed_or (some x) m = changed.Refused x

abbrev pub reloaded_as : Loaded → ℕ → Reloaded
reloaded_as (loaded.Accepted n w) m = reloaded.Accepted n w m
reloaded_as (loaded.Refused x p) m = reloaded.Refused x p

abbrev pub answer : Gateway → Call → Answer
answer g (add c) = client_added (added_at (add_refusal g.register c) (lowest_free g.register.clients) (changed_by g (add c)))
answer g (change p c) = rights_changed (changed_or (change_refusal g.register p c) (changed_by g (change p c)))
answer g (remove p) = rights_changed (changed_or (remove_refusal g.register p) (changed_by g (remove p)))
answer g (set_reading n letter x) = rights_changed (changed_or (set_refusal g.table n letter) (changed_by g (set_reading n letter x)))
answer g (load_again s) = table_loaded (reloaded_as (load g.table s).answer (changed_by g (load_again s)))

-- ---- refused calls

-- the number that a refused call answers; a load's is its text's
abbrev pub refusal_of : Answer → Option ℕ
refusal_of (client_added (added.At p m)) = none
refusal_of (client_added (added.Refused x)) = some (number x)
refusal_of (rights_changed (changed.Places m)) = none
refusal_of (rights_changed (changed.Refused x)) = some (number x)
refusal_of (table_loaded (reloaded.Accepted n w m)) = none
refusal_of (table_loaded (reloaded.Refused x p)) = some (text.number x)
refusal_of (table_loaded reloaded.NotRegister) = some (number NotRegister)
