-- Each standing client's right is what a question with the answering group's readings would answer now.
use Rattle.std.specs.Prelude.{◌≡◌, refl, List, [], ◌∷◌, ◌⊎◌, ℕ, ◌≤◌, ◌<◌, length, get_or}
use Rattle.std.proofs.Common.{sym, ap, ◌∙◌, inl, inr, arith, get_or-set_same, get_or-set_other}
use Rattle.std.proofs.Math.Option.{Option, none, some}
use Rattle.std.proofs.Math.Decide.{ℕ_discrete, dec_lt}
use Rattle.std.proofs.Math.ListN.{get_or-eq_default}
use Rattle.std.proofs.Math.Seq.{set_out}
use Rattle.spec_calc.specs.declared.Reading.{Reading}
use Rattle.spec_rule.specs.declared.Decision.{Decision}
use Rattle.spec_rule.specs.Privilege.{Answers}
use Rattle.spec_rule.specs.Question.{Question}
use Rattle.spec_rule.proofs.laws.Roles.{no_roles_fit}
use Rattle.spec_rule.specs.Answering.{greatest_level}
use Rattle.spec_rule.specs.Decision.{no_access}
use Rattle.spec_rule.proofs.laws.Privilege.{answering_is}
use Rattle.spec_table.specs.Table.{Table}
use Rattle.spec_decision.specs.declared.Answer.{Answer}
use Rattle.spec_decision.specs.declared.Answer.TheVariants.{Answered, NotTable, BadLevel, BadRoles}
use Rattle.spec_decision.specs.Decision.{decision_in, decide}
use Rattle.spec_decision.specs.Groups.{Numbered, groups_of, group_name, group_named}
use Rattle.spec_decision.proofs.laws.Refused.{not_table_is, bad_level_is, bad_roles_is}
use Rattle.spec_load.specs.declared.Loaded.{Loaded}
use Rattle.spec_load.specs.declared.Loaded.TheVariants as loaded
use Rattle.spec_load.specs.Load.{load}
use Rattle.spec_register.specs.declared.Refused.{Refused}
use Rattle.spec_register.specs.Register.{Client, Register, empty, most_clients, client_at, readings_at, with_client}
use Rattle.spec_register.specs.Right.{question_now, right_of}
use Rattle.spec_register.specs.Refusal.{add_refusal, change_refusal, remove_refusal, set_refusal, lowest_free}
use Rattle.spec_register.specs.Calls.{Gateway, Call, add, change, remove, set_reading}
use Rattle.spec_register.specs.Calls.{load_again, unless, reading_set, after_load, after, after_calls, right_at}
use Rattle.spec_register.specs.Sentences.{Sized, begun, Free, HasLongName}
use Rattle.spec_register.proofs.laws.Sized.{at_replicate, empty_sized, call_sized}
use Rattle.spec_register.proofs.laws.Lowest.{none_some}
use Rattle.spec_register.proofs.laws.Refused.{add_done, change_done, add_refused, change_refused}
use Rattle.spec_register.proofs.laws.Places.{passed}

-- ---- what a question would answer

-- the question's readings are those of the group that answers
pub answering_readings :
    (b : List ℕ) (r : Register) (c : Client) (h : Numbered) → Answers (group_name b) c.group (groups_of b) (some h)
    → (question_now b r c).readings ≡ readings_at r h.number
answering_readings b r c h a = rw ((answering_is (group_name b) c.group (groups_of b) (some h)).1 a)

module _ (g : Gateway) (p : ℕ) where
  pub right_is_answer :
      (c : Client) (d : Decision) → client_at g.register p ≡ some c → decide g.table (question_now g.table g.register c) ≡ Answered d
      → right_at g p ≡ d
  right_is_answer c d h e = rw (h, e)

  -- "as a free place's always is"
  pub free_right : Free g.register p → right_at g p ≡ no_access
  free_right h = rw h

  pub beyond_right : Sized g.register → most_clients ≤ p → right_at g p ≡ no_access
  beyond_right s h = free_right (get_or-eq_default g.register.clients none (omega (arith, s.places)))

  -- "While the lent bytes are no table, all rights are NONE without trap"
  pub no_table_right : (Table g.table → ⊥) → right_at g p ≡ no_access
  no_table_right n = by (client_at g.register p)
    where
      by : (o : Option Client) → right_of g.table g.register o ≡ no_access
      by none = refl
      by (some c) = ap decision_in ((not_table_is g.table (question_now g.table g.register c)).1 n)

-- ---- every standing client may ask

abbrev pub Fitting : Client → Type 0
Fitting c = (HasLongName c → ⊥) × (c.level ≤ greatest_level)

abbrev pub AllFit : Register → Type 0
AllFit r = (p : ℕ) (c : Client) → client_at r p ≡ some c → Fitting c

-- a place holds what it is given, or what it held
either : (r : Register) (p q : ℕ) (o : Option Client) → (client_at (with_client r p o) q ≡ o) ⊎ (client_at (with_client r p o) q ≡ client_at r q)
either r p q o = by (ℕ_discrete q p) (dec_lt p (length r.clients))
  where
    by : Dec (q ≡ p) → Dec (p < length r.clients) → (client_at (with_client r p o) q ≡ o) ⊎ (client_at (with_client r p o) q ≡ client_at r q)
    by (yes e) (yes h) = inl (rw e (get_or-set_same r.clients p o none h))
    by (yes e) (no n) = inr (ap (λ (l : List (Option Client)). get_or l q none) (set_out r.clients p o (omega arith)))
    by (no n) h = inr (get_or-set_other r.clients p q o none n)

module _ (r : Register) (f : AllFit r) where
  put_fits : (o : Option Refused) (p : ℕ) (c : Client) → (o ≡ none → Fitting c) → AllFit (unless o (with_client r p (some c)) r)
  put_fits none p c h q d e = by (either r p q (some c))
    where
      by : (client_at (with_client r p (some c)) q ≡ some c) ⊎ (client_at (with_client r p (some c)) q ≡ client_at r q) → Fitting d
      by (inl k) = let same : c ≡ d = cc in rw (← same) (h refl)
      by (inr k) = f q d (sym k ∙ e)
  put_fits (some x) p c h q d e = f q d e

  taken_fits : (o : Option Refused) (p : ℕ) → AllFit (unless o (with_client r p none) r)
  taken_fits none p q d e = by (either r p q none)
    where
      by : (client_at (with_client r p none) q ≡ none) ⊎ (client_at (with_client r p none) q ≡ client_at r q) → Fitting d
      by (inl k) = none_some k e
      by (inr k) = f q d (sym k ∙ e)
  taken_fits (some x) p q d e = f q d e

  set_fits : (o : Option Refused) (h : Option Numbered) (letter : ℕ) (x : Reading) → AllFit (unless o (reading_set r h letter x) r)
  set_fits none none letter x = f
  set_fits none (some h) letter x = f
  set_fits (some y) h letter x = f

  load_fits : (a : Loaded) → AllFit (after_load a r)
  load_fits (loaded.Accepted n w) = f
  load_fits (loaded.Refused x p) = f

pub call_fits : (g : Gateway) (d : Call) → Sized g.register → AllFit g.register → AllFit (after g d).register
call_fits g (add c) s f =
    put_fits g.register f (add_refusal g.register c) (lowest_free g.register.clients) c
    (λ e.
    let long = passed ((add_refused g none s c).0 ((add_done g c).1 e)) in
    let level = (passed long.1).0 in
    (long.0, omega arith))
call_fits g (change p c) s f =
    put_fits g.register f (change_refusal g.register p c) p c
    (λ e.
    let long = passed (passed ((change_refused g none p c).0 ((change_done g p c).1 e))).1 in
    let level = (passed long.1).0 in
    (long.0, omega arith))
call_fits g (remove p) s f = taken_fits g.register f (remove_refusal g.register p) p
call_fits g (set_reading n letter x) s f = set_fits g.register f (set_refusal g.table n letter) (group_named g.table n) letter x
call_fits g (load_again text) s f = load_fits g.register f (load g.table text).answer

calls_fit : (g : Gateway) (cs : List Call) → Sized g.register → AllFit g.register → AllFit (after_calls g cs).register
calls_fit g [] s f = f
calls_fit g (c ∷ cs) s f = calls_fit (after g c) cs (call_sized g c s) (call_fits g c s f)

pub none_fits : AllFit empty
none_fits p c e = none_some (at_replicate most_clients none p) e

pub clients_fit : (t : List ℕ) (cs : List Call) → AllFit (after_calls (begun t) cs).register
clients_fit t cs = calls_fit (begun t) cs empty_sized none_fits

-- "After each call of any sequence from an empty register with every reading never heard [..], each standing client's right and trap flag equal what
-- a question with the answering group's readings would answer now."
pub right_answers :
    (g : Gateway) → AllFit g.register → (p : ℕ) (c : Client) → client_at g.register p ≡ some c → Table g.table
    → decide g.table (question_now g.table g.register c) ≡ Answered (right_at g p)
right_answers g fit p c h table = by (decide g.table q) refl
  where
    q : Question
    q = question_now g.table g.register c

    by : (a : Answer) → decide g.table q ≡ a → a ≡ Answered (right_at g p)
    by (Answered d) e = ap Answered (sym (right_is_answer g p c d h e))
    by NotTable e = absurd ((not_table_is g.table q).0 e table)
    by BadLevel e = absurd (omega (arith, ((bad_level_is g.table q).0 e).1, (fit p c h).1))
    by BadRoles e = absurd (((bad_roles_is g.table q).0 e).2 no_roles_fit)
