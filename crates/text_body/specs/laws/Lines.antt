-- The lines of a rule's body, part by part.
use Rattle.std.specs.Prelude.{◌≡◌, refl, Bool, true, false, cond, not, List, [], ◌∷◌, ◌++◌, ℕ, ◌+◌, ◌≤◌, ◌<◌, length}
use Rattle.std.proofs.Common.{sym, ap, ap₂, ◌∙◌, append_assoc, arith}
use Rattle.std.proofs.lemmas.Bool.{false≢true}
use Rattle.std.proofs.Math.Option.{none, some}
use Rattle.std.specs.declared.ops.Range.{Range}
use Rattle.spec_lists.specs.Text.{bytes}
use Rattle.spec_file.specs.Limit.{rules, references}
use Rattle.spec_table.specs.Layout.{Content}
use Rattle.spec_table.specs.Check.{no_calculation, calculation_run}
use Rattle.spec_table.specs.Policy.{name, set_bit}
use Rattle.spec_text.specs.Lines.{quoted, called, calculation_line, ended}
use Rattle.text_marks.specs.Names.{run, names, listed}
use Rattle.text_marks.specs.laws.Ended.{ended_one}
use Rattle.text_marks.specs.laws.Names.{names_some}
use Rattle.text_marks.specs.laws.Filled.{bit_there, calculation_bit}
use Rattle.text_body.specs.Body.{references_text, calculation_text}

called_list : (word inside : List ℕ) → called word inside ++ bytes "\n" ≡ word ++ (bytes "(" ++ (inside ++ bytes ")\n"))
called_list word inside =
    append_assoc word (bytes "(" ++ (inside ++ bytes ")")) (bytes "\n")
    ∙ ap (λ (t : List ℕ). word ++ (bytes "(" ++ t)) (append_assoc inside (bytes ")") (bytes "\n"))

list_line : (word : List ℕ) (ss : List (List ℕ)) → (ss ≡ [] → ⊥) → references_text word ss ≡ word ++ (bytes "(" ++ (listed ss ++ bytes ")\n"))
list_line word [] h = absurd (h refl)
list_line word (s ∷ ss) h = ended_one (called word (listed (s ∷ ss))) ∙ called_list word (listed (s ∷ ss))

-- the groups of a kind that a rule names, as a run of references
module _ (c : Content) (word : List ℕ) (r : Range ℕ) where
  pub references_full :
      r.end ≤ length (c.records references) → r.start < r.end
      → references_text word (names c references (run r)) ≡ word ++ (bytes "(" ++ (listed (names c references (run r)) ++ bytes ")\n"))
  references_full h l =
      list_line word (names c references (run r)) (names_some c references (run r) (omega arith) (λ z. absurd (omega (arith, l, z))))

-- a calculation, as the code finds where it stands
module _ (c : Content) (row : List ℕ) {first n : ℕ} (e : first ≡ (calculation_run row).first) (f : n ≡ (calculation_run row).count) where
  pub calculation_full :
      (first + n ≡ 0 → ⊥) → calculation_text c row ≡ called (bytes "CALC") (quoted (name c rules row)) ++ bytes "\n"
  calculation_full h =
      by
      (no_calculation (calculation_run row))
      (calculation_bit (calculation_run row) ∙ sym (ap₂ (λ (x y : ℕ). set_bit (x + y)) e f) ∙ bit_there (first + n) h)
    where
      by :
          (b : Bool) → not b ≡ true
          → ended (calculation_line (cond b none (some (name c rules row)))) ≡ called (bytes "CALC") (quoted (name c rules row)) ++ bytes "\n"
      by true z = absurd (false≢true z)
      by false z = ended_one (called (bytes "CALC") (quoted (name c rules row)))
