-- From what a load answers to what is told and left under a register.
use Rattle.std.specs.Prelude.{◌≡◌, refl, Bool, true, false, cond, List, ℕ, ◌≤◌, length, replicate}
use Rattle.std.proofs.Common.{sym, ap, ap₂, ◌∙◌}
use Rattle.std.proofs.lemmas.List.Edits.{sets}
use Rattle.spec_file.specs.declared.Refusal.{Refusal}
use Rattle.spec_table.specs.Check.{is_table}
use Rattle.spec_load.specs.declared.Loaded.{Loaded}
use Rattle.spec_load.specs.declared.Loaded.TheVariants as loaded
use Rattle.spec_load.specs.Load.{Result, is_accepted, load}
use Rattle.spec_load.proofs.laws.Load.{refused_leaves}
use Rattle.spec_register.specs.declared.Reloaded.{Reloaded}
use Rattle.spec_register.specs.declared.Reloaded.TheVariants as reloaded
use Rattle.spec_register.specs.Calls.{reloaded_as}
use Rattle.spec_places.specs.Storage.{Lent, lent, all_readings}
use Rattle.spec_places.specs.Calls.{has_room, differing_in, reloaded_by, left_reloaded, told_reloaded}
use Rattle.spec_demand.proofs.laws.Exact.{leaves_table}
use Rattle.reg_settle.specs.Settle.{AllSettled}
use Rattle.reload.specs.Reload.{Reloads}

module _ (s : Lent) (text : List ℕ) where
  abbrev left_if : Bool → Lent
  left_if b = cond b (reloaded_by s (load s.table text).bytes (load s.table text).answer) s

  abbrev told_if : Bool → Reloaded
  told_if b = cond b (reloaded_as (load s.table text).answer (differing_in s.places (left_reloaded s text).places)) reloaded.NotRegister

  pub no_room : has_room s ≡ false → Reloads s text s reloaded.NotRegister
  no_room e = record { told = sym (ap told_if e); left = sym (ap left_if e) }

  module _ {t : List ℕ} {a : Loaded} (same : record { answer = a; bytes = t } ≡ load s.table text) where
    answer_is : (load s.table text).answer ≡ a
    answer_is = sym (ap (λ (r : Result). r.answer) same)

    bytes_are : (load s.table text).bytes ≡ t
    bytes_are = sym (ap (λ (r : Result). r.bytes) same)

    pub table_left : {n w : ℕ} → a ≡ loaded.Accepted n w → is_table t ≡ true
    table_left e = ap is_table (sym bytes_are) ∙ leaves_table s.table text (ap is_accepted (answer_is ∙ e))

    module _ (room : has_room s ≡ true) where
      left_by : {l : Loaded} → a ≡ l → left_reloaded s text ≡ reloaded_by s t l
      left_by e = ap left_if room ∙ ap₂ (reloaded_by s) bytes_are (answer_is ∙ e)

      told_by : {l : Loaded} (after : Lent) → a ≡ l → left_reloaded s text ≡ after → told_reloaded s text ≡ reloaded_as l (differing_in s.places after.places)
      told_by after e f =
          ap told_if room ∙ ap₂ (λ (k : Loaded) (x : Lent). reloaded_as k (differing_in s.places x.places)) (answer_is ∙ e) f

      pub reload_refused :
          {x : Refusal} {p : ℕ} → a ≡ loaded.Refused x p → Reloads s text (lent t s.places s.states s.values) (reloaded.Refused x p)
      reload_refused e =
          let f = left_by e in
          let z : s.table ≡ t = sym (refused_leaves s.table text (ap is_accepted (answer_is ∙ e))) ∙ bytes_are in
          record { told = sym (told_by s e f); left = ap (λ (b : List ℕ). lent b s.places s.states s.values) (sym z) ∙ sym f }

      pub reload_accepted :
          {n w m : ℕ} {places states : List ℕ} → a ≡ loaded.Accepted n w → AllSettled t s.places places m
          → states ≡ sets s.states 0 (replicate all_readings 0)
          → Reloads s text (lent t places states s.values) (reloaded.Accepted n w m)
      reload_accepted {n} {w} {m} {places} {states} e v c =
          record { told = ap (reloaded.Accepted n w) v.changed ∙ sym (told_by (lent t places states s.values) e f); left = sym f }
        where
          f : left_reloaded s text ≡ lent t places states s.values
          f = left_by e ∙ ap₂ (λ (b d : List ℕ). lent t b d s.values) (sym v.left) (sym c)
