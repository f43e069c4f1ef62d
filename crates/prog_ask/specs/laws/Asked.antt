-- From what a load answers to all that is printed.
use Rattle.std.specs.Prelude.{◌≡◌, List, ℕ, ◌≤◌, length, Ok, Err}
use Rattle.std.proofs.Math.Path.{refl, sym, ap}
use Rattle.std.proofs.Common.{◌∙◌, arith}
use Rattle.std.proofs.Math.Bool.{true}
use Rattle.spec_file.specs.declared.Refusal.{Refusal}
use Rattle.spec_load.specs.declared.Loaded.{Loaded}
use Rattle.spec_load.specs.declared.Loaded.TheVariants as loaded
use Rattle.spec_load.specs.Load as loading
use Rattle.spec_load.specs.Load.{load}
use Rattle.spec_demand.specs.Calls.{is_accepted}
use Rattle.spec_demand.proofs.laws.Exact.{leaves_table}
use Rattle.prog_report.specs.Report.{refusal_line}
use Rattle.prog_text.specs.Put.{Stands}
use Rattle.prog_text.specs.laws.Put.{put_whole}
use Rattle.prog_replies.specs.laws.History.{wrote}
use Rattle.prog_ask.specs.Asked.{asked_by, asked, Begun}

module _ (rules lent out : List ℕ) {lent' : List ℕ} {a : Loaded} (same : record { answer = a; bytes = lent' } ≡ load lent rules) where
  answer_is : (load lent rules).answer ≡ a
  answer_is = sym (ap (λ (r : loading.Result). r.answer) same)

  left : lent' ≡ (load lent rules).bytes
  left = ap (λ (r : loading.Result). r.bytes) same

  pub begins_ready : {n w : ℕ} → a ≡ loaded.Accepted n w → Begun rules lent lent' out out (Ok tt)
  unfolding asked
  begins_ready e =
      let accepted : is_accepted (load lent rules).answer ≡ true = ap is_accepted (answer_is ∙ e) in (
        left,
        rw left (leaves_table lent rules accepted),
        λ input. ap (λ (l : Loaded). asked_by l (load lent rules).bytes input) (answer_is ∙ e) ∙ rw left refl,
        refl,
      )

  pub begins_refused :
      {k : Refusal} {p n : ℕ} {out' : List ℕ} → a ≡ loaded.Refused k p → 64 ≤ length out → Stands (refusal_line k p) out out' n 64
      → Begun rules lent lent' out out' (Err n)
  unfolding asked
  begins_refused e room s =
      let h = s.short in
      let t = wrote s.put (omega arith) in (
        left,
        t.counts,
        λ input. ap (λ (l : Loaded). asked_by l (load lent rules).bytes input) (answer_is ∙ e) ∙ sym (put_whole s.put (omega arith)),
        t.rest,
      )
