-- Laws of the lines of warnings.
use Rattle.std.specs.Prelude.{◌≡◌, refl, List, [], ◌∷◌, ◌++◌, ℕ, suc, ◌+◌, ◌*◌, ◌≤◌, ◌<◌, length, get_or}
use Rattle.std.proofs.Common.{sym, ap, ◌∙◌, append-nil, append_assoc, arith, length-append}
use Rattle.spec_lists.specs.Text.{bytes}
use Rattle.prog_report.specs.Report.{placed, warning_line}
use Rattle.prog_text.specs.Put.{Put}
use Rattle.prog_text.specs.laws.Put.{reached_fits}
use Rattle.prog_text.specs.laws.Digits.{few_digits}
use Rattle.prog_report.specs.laws.Length.{placed_length}
use Rattle.prog_warnings.specs.Lines.{lines_by, longest_line}

-- one warning more
lines_more :
    (ns ps : List ℕ) (n p : ℕ) → length ns ≡ length ps → lines_by (ns ++ (n ∷ [])) (ps ++ (p ∷ [])) ≡ lines_by ns ps ++ warning_line n p
lines_more [] [] n p e = append-nil (warning_line n p)
lines_more [] (q ∷ ps) n p e = absurd (omega arith)
lines_more (m ∷ ns) [] n p e = absurd (omega arith)
lines_more (m ∷ ns) (q ∷ ps) n p e =
    ap (λ (l : List ℕ). warning_line m q ++ l) (lines_more ns ps n p (omega arith))
    ∙ sym (append_assoc (warning_line m q) (lines_by ns ps) (warning_line n p))

-- ---- how long a line is

short_warning : (n p : ℕ) → n < 1000 → p < 100000 → length (warning_line n p) ≤ longest_line
short_warning n p h k =
    omega (
      arith,
      length-append (placed (bytes "warning ") n p) (10 ∷ []),
      placed_length (bytes "warning ") n p,
      few_digits 2 n (omega arith),
      few_digits 4 p (omega arith),
    )

pub short_lines :
    (ns ps : List ℕ) → ((i : ℕ) → get_or ns i 0 < 1000) → ((i : ℕ) → get_or ps i 0 < 100000) → length (lines_by ns ps) ≤ longest_line * length ns
short_lines [] ps h k = omega arith
short_lines (n ∷ ns) [] h k = omega arith
short_lines (n ∷ ns) (p ∷ ps) h k =
    let i = short_lines ns ps (λ j. h (suc j)) (λ j. k (suc j)) in
    omega (arith, length-append (warning_line n p) (lines_by ns ps), short_warning n p (h 0) (k 0))

-- ---- line by line

pub nothing : {out : List ℕ} {at : ℕ} → at ≤ length out → Put [] out at out at
nothing {out} {at} h = record { bytes = refl; end = sym (reached_fits (length out) (at + 0) (omega arith) ∙ (let z : at + 0 ≡ at = omega arith in z)) }

pub none_numbered : (ns ps : List ℕ) → length ns ≡ 0 → lines_by ns ps ≡ []
none_numbered [] ps e = refl
none_numbered (n ∷ ns) ps e = absurd (omega arith)

pub none_placed : (ns ps : List ℕ) → length ps ≡ 0 → lines_by ns ps ≡ []
none_placed [] ps e = refl
none_placed (n ∷ ns) [] e = refl
none_placed (n ∷ ns) (p ∷ ps) e = absurd (omega arith)
