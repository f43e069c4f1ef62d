-- From what a load and an export answer and leave to what is printed.
use Rattle.std.specs.Prelude.{◌≡◌, refl, Bool, true, false, cond, List, ◌++◌, ℕ, ◌+◌, ◌≤◌, leb, length, drop}
use Rattle.std.proofs.Math.Path.{sym}
use Rattle.std.proofs.Common.{ap, subst, ◌∙◌, arith, length-take-le, leb-true}
use Rattle.std.proofs.lemmas.List.Edits.{sets-eq}
use Rattle.spec_file.specs.declared.Refusal.{Refusal}
use Rattle.spec_table.specs.View.{view}
use Rattle.spec_table.specs.Check.{is_table}
use Rattle.spec_load.specs.declared.Loaded.{Loaded}
use Rattle.spec_load.specs.declared.Loaded.TheVariants as loaded
use Rattle.spec_load.specs.Load as load
use Rattle.spec_text.specs.Lines.{greatest_text}
use Rattle.spec_export.specs.declared.Exported.{Exported}
use Rattle.spec_export.specs.declared.Exported.TheVariants as exports
use Rattle.spec_export.specs.Unwritable.{text_in, unwritable}
use Rattle.spec_export.specs.Export.{Result, if_room, of_content, exported, left, export}
use Rattle.spec_export.proofs.laws.Answer.{wrote}
use Rattle.prog_text.specs.Put.{Put, Stands}
use Rattle.prog_text.specs.laws.Put.{reached_fits, put_within, put_whole, put_as}
use Rattle.prog_report.specs.Report.{refusal_line}
use Rattle.prog_export.specs.Printed.{told, printed_by, printed, Prints}

-- a text that was written had room
fits : (m n : ℕ) (b : List ℕ) → exported m b ≡ exports.Written n → n ≤ m
unfolding exported
fits m n b = on_table (is_table b)
  where
    with_room :
        (z : Bool) → leb (length (text_in (view b))) m ≡ z
        → cond z (exports.Written (length (text_in (view b)))) (exports.NoRoom (length (text_in (view b)))) ≡ exports.Written n → n ≤ m
    with_room true x e =
        let y : length (text_in (view b)) ≡ n = cc in
        let z = leb-true (length (text_in (view b))) m x in
        omega arith
    with_room false x e = let z : ◌≡◌ {A = ℕ} 0 1 = cc in absurd (omega arith)

    on_content : (y : Bool) → cond y exports.Unwritable (if_room (length (text_in (view b))) m) ≡ exports.Written n → n ≤ m
    on_content true e = let z : ◌≡◌ {A = ℕ} 0 1 = cc in absurd (omega arith)
    on_content false e = with_room (leb (length (text_in (view b))) m) refl e

    on_table : (x : Bool) → cond x (of_content m (view b)) exports.NotTable ≡ exports.Written n → n ≤ m
    on_table true e = on_content (unwritable (view b)) e
    on_table false e = let z : ◌≡◌ {A = ℕ} 0 1 = cc in absurd (omega arith)

module _ (rules lent out : List ℕ) {lent' : List ℕ} {a : Loaded} (same : record { answer = a; bytes = lent' } ≡ load.load lent rules) where
  by_load : printed (length out) lent rules ≡ printed_by (length out) a lent'
  unfolding printed
  by_load = sym (ap (λ (r : load.Result). printed_by (length out) r.answer r.bytes) same)

  -- what stands at the start of the lent bytes is what is printed
  stands :
      {ws out' : List ℕ} {r : ℕ} → printed_by (length out) a lent' ≡ ws → (greatest_text ≤ length out → length ws ≤ length out) → Put ws out 0 out' r
      → Prints rules lent lent' out out' r
  stands e room p =
      record {
        loads = ap (λ (r : load.Result). r.bytes) same;
        put = put_as (by_load ∙ e) p;
        counts = (put_within p, sym (length-take-le _ _ (put_within p)));
        whole = λ h. put_whole p (room h) ∙ sym (by_load ∙ e);
      }

  pub refused_prints :
      {k : Refusal} {p r : ℕ} {out' : List ℕ} → a ≡ loaded.Refused k p → Stands (refusal_line k p) out out' r 64 → Prints rules lent lent' out out' r
  refused_prints e s = stands (ap (λ (x : Loaded). printed_by (length out) x lent') e) (λ h. let z = s.short in omega arith) s.put

  module _
      {n w : ℕ} (accepted : a ≡ loaded.Accepted n w) {out₁ : List ℕ} {e : Exported} (exporting : record { answer = e; bytes = out₁ } ≡ export out lent')
    where
      answered : e ≡ exported (length out) lent'
      answered = ap (λ (r : Result). r.answer) exporting

      left_so : out₁ ≡ left out (text_in (view lent')) e
      left_so = ap (λ (r : Result). r.bytes) exporting ∙ ap (left out (text_in (view lent'))) (sym answered)

      by_export : printed_by (length out) a lent' ≡ told e (text_in (view lent'))
      by_export =
          ap (λ (x : Loaded). printed_by (length out) x lent') accepted ∙ ap (λ (x : Exported). told x (text_in (view lent'))) (sym answered)

      pub text_prints : {k : ℕ} → e ≡ exports.Written k → Prints rules lent lent' out out₁ k
      text_prints {k} h =
          let t = text_in (view lent') in
          let l = (wrote (length out) lent' k (sym answered ∙ h)).length_of in
          let f = fits (length out) k lent' (sym answered ∙ h) in
          let z : length t ≡ 0 + length t = omega arith in
          stands (by_export ∙ ap (λ (x : Exported). told x t) h) (λ g. omega arith) record {
            bytes = left_so ∙ ap (left out t) h ∙ ap (λ (n : ℕ). t ++ drop n out) z ∙ sym (sets-eq t out 0 (omega arith));
            end = sym l ∙ z ∙ sym (reached_fits (length out) (0 + length t) (omega arith));
          }

      -- the line of a refusal, which has left the lent bytes
      pub line_prints :
          {x : Exported} {ws out' : List ℕ} {r : ℕ} → e ≡ x → left out (text_in (view lent')) x ≡ out → told x (text_in (view lent')) ≡ ws
          → length ws ≤ greatest_text → Put ws out₁ 0 out' r → Prints rules lent lent' out out' r
      line_prints {x} {ws} {out'} {r} h stays t short p =
          let o : out₁ ≡ out = left_so ∙ ap (left out (text_in (view lent'))) h ∙ stays in
          stands
          (by_export ∙ ap (λ (y : Exported). told y (text_in (view lent'))) h ∙ t)
          (λ z. omega arith)
          (subst (λ (l : List ℕ). Put ws l 0 out' r) o p)
