-- From the listing of a text's warnings to what the checker prints.
use Rattle.std.proofs.Math.Path.{◌≡◌, refl, sym, ap}
use Rattle.std.proofs.Common.{◌∙◌, arith, take_all, take_at, length-take-le}
use Rattle.std.specs.Prelude.{List, map, ℕ, ◌≤◌, take, drop}
use Rattle.std.proofs.Math.ListN.{length}
use Rattle.spec_file.specs.declared.Refusal.{Refusal}
use Rattle.spec_file.specs.Limit.{most_bytes}
use Rattle.spec_file.specs.Warning.{number, Warned, warnings}
use Rattle.spec_file.specs.Load.{Verdict, refuse, accept, verdict}
use Rattle.spec_load.specs.declared.Listed.{Listed}
use Rattle.spec_load.specs.declared.Listed.TheVariants.{Warnings, Refused}
use Rattle.spec_load.specs.Listing.{Listing, laid_over, listed_by, listing}
use Rattle.prog_report.specs.Report.{refusal_line}
use Rattle.prog_text.specs.Put.{Stands}
use Rattle.prog_text.specs.laws.Put.{put_within, put_as, put_whole}
use Rattle.prog_check.specs.Checked.{told, checked}
use Rattle.prog_warnings.specs.Lines.{lines_by}
use Rattle.prog_check.specs.Lines.{most_printed, Prints}
use Rattle.prog_check.specs.laws.Few.{length_map, few_warnings}
use Rattle.prog_check.specs.laws.Lines.{lines_of}

-- a list that has room, laid over another
over : (new old : List ℕ) (n : ℕ) → length new ≡ n → n ≤ length old → take n (laid_over new old) ≡ new
over new old n e h = rw (take_all (length old) new (omega arith)) (take_at new (drop (length new) old) n e)

-- the warnings, how many there are, and the lists that hold them
record Told (s numbers places numbers' places' : List ℕ) (n : ℕ) : Type 0 where
  ws : List Warned
  few : n ≤ most_bytes
  many : length ws ≡ n
  prints : checked s ≡ lines_by (map (λ w. number w.warning) ws) (map (λ w. w.place) ws)
  ns : numbers' ≡ laid_over (map (λ w. number w.warning) ws) numbers
  ps : places' ≡ laid_over (map (λ w. w.place) ws) places

module _
    (s numbers places : List ℕ) {numbers' places' : List ℕ} {a : Listed}
    (same : record { answer = a; numbers = numbers'; places = places' } ≡ listing 0 numbers places s)
  where
    answers : (v : Verdict) → verdict s ≡ v → record { answer = a; numbers = numbers'; places = places' } ≡ listed_by 0 numbers places v
    unfolding listing
    answers v e = rw e at same

    pub refused_prints : {k : Refusal} {p : ℕ} → a ≡ Refused k p → checked s ≡ refusal_line k p
    unfolding checked
    refused_prints {k} {p} h = go (verdict s) (answers (verdict s) refl)
      where
        go : (v : Verdict) → record { answer = a; numbers = numbers'; places = places' } ≡ listed_by 0 numbers places v → told v ≡ refusal_line k p
        go (refuse j q) e =
            let z : Refused j q ≡ Refused k p = sym (ap (λ (l : Listing). l.answer) e) ∙ h in
            let x : j ≡ k = cc in
            let y : q ≡ p = cc in
            rw (x, y) refl
        go (accept xs) e =
            let z : Warnings (length (warnings xs)) ≡ Refused k p = sym (ap (λ (l : Listing). l.answer) e) ∙ h in
            let y : ◌≡◌ {A = ℕ} 0 1 = cc in
            absurd (omega arith)

    told_warnings : (n : ℕ) → a ≡ Warnings n → Told s numbers places numbers' places' n
    unfolding checked
    told_warnings n h = go (verdict s) refl (answers (verdict s) refl)
      where
        go :
            (v : Verdict) → verdict s ≡ v → record { answer = a; numbers = numbers'; places = places' } ≡ listed_by 0 numbers places v
            → Told s numbers places numbers' places' n
        go (refuse j q) v e =
            let z : Refused j q ≡ Warnings n = sym (ap (λ (l : Listing). l.answer) e) ∙ h in
            let y : ◌≡◌ {A = ℕ} 0 1 = cc in
            absurd (omega arith)
        go (accept xs) v e =
            let z : Warnings (length (warnings xs)) ≡ Warnings n = sym (ap (λ (l : Listing). l.answer) e) ∙ h in
            let y : length (warnings xs) ≡ n = cc in
            record {
              ws = warnings xs;
              few = let f = few_warnings s xs v in omega arith;
              many = y;
              prints = ap told v ∙ sym (lines_of (warnings xs));
              ns = ap (λ (l : Listing). l.numbers) e;
              ps = ap (λ (l : Listing). l.places) e;
            }

    pub warnings_few : {n : ℕ} → a ≡ Warnings n → n ≤ most_bytes
    warnings_few {n} h = (told_warnings n h).few

    pub warnings_print :
        {n : ℕ} → a ≡ Warnings n → length numbers ≡ most_bytes → length places ≡ most_bytes → checked s ≡ lines_by (take n numbers') (take n places')
    warnings_print {n} h ln lp =
        let t = told_warnings n h in
        let f = t.few in
        let m : length (map (λ (w : Warned). number w.warning) t.ws) ≡ n = length_map (λ w. number w.warning) t.ws ∙ t.many in
        let q : length (map (λ (w : Warned). w.place) t.ws) ≡ n = length_map (λ w. w.place) t.ws ∙ t.many in
        let en = ap (take n) t.ns ∙ over (map (λ w. number w.warning) t.ws) numbers n m (omega arith) in
        let ep = ap (take n) t.ps ∙ over (map (λ w. w.place) t.ws) places n q (omega arith) in
        t.prints
        ∙ sym (ap (λ (l : List ℕ). lines_by l (map (λ w. w.place) t.ws)) en)
        ∙ sym (ap (λ (l : List ℕ). lines_by (take n numbers') l) ep)

-- the lines that stand in the lent bytes are those of the text
pub prints : {s ws out out' : List ℕ} {r most : ℕ} → checked s ≡ ws → most ≤ most_printed → Stands ws out out' r most → Prints s out out' r
prints e h a =
    record {
      put = put_as e a.put;
      counts = (put_within a.put, sym (length-take-le _ _ (put_within a.put)));
      whole = λ room. put_whole a.put (let z = a.short in omega arith) ∙ sym e;
    }
