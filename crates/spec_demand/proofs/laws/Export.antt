-- What an export gives of a loaded table. 02, ticket 6.
use Rattle.std.specs.Prelude.{◌≡◌, refl, Bool, true, false, ◌||◌, List, [], ◌∷◌, ◌++◌, ◌↔◌, ℕ, ◌≤◌, length, take, drop}
use Rattle.std.proofs.Common.{sym, ap, subst, ◌∙◌}
use Rattle.std.proofs.lemmas.Bool.{false≢true, not-true}
use Rattle.std.proofs.Math.Option.{none}
use Rattle.std.proofs.Math.Seq.{take-append_seam}
use Rattle.spec_lists.specs.Select.{nonempty}
use Rattle.spec_lists.proofs.laws.Both.{neither}
use Rattle.spec_grammar.specs.Sentence.{Tagged}
use Rattle.spec_file.specs.Limit.{most_bytes}
use Rattle.spec_file.specs.Contents.{File, file_of}
use Rattle.spec_file.specs.Acceptance.{Acceptable}
use Rattle.spec_file.proofs.laws.Theorem.{acceptable_is}
use Rattle.spec_table.specs.View.{view}
use Rattle.spec_table.specs.Check.{well_formed, is_table}
use Rattle.spec_table.specs.Written.{content, table_of}
use Rattle.spec_table.proofs.laws.Fits.{Fits}
use Rattle.spec_table.proofs.laws.Accepted.{fits}
use Rattle.spec_table.proofs.laws.Stands.{content_stands}
use Rattle.spec_table.proofs.laws.Theorem.{viewed}
use Rattle.spec_load.specs.Load.{is_accepted, load, Result}
use Rattle.spec_decision.specs.Decision.{decide}
use Rattle.spec_decision.specs.LookUp.{look_up, part_in, number}
use Rattle.spec_text.specs.Lines.{text_of}
use Rattle.spec_text.specs.Faults.{defines_nothing, faulty}
use Rattle.spec_text.proofs.laws.Pieces.{said_at, file_pieces}
use Rattle.spec_text.proofs.laws.Unplaced.{kept}
use Rattle.spec_text.proofs.laws.AcceptedQuotable.{quotable_said}
use Rattle.spec_text.proofs.laws.Accepted.{faultless}
use Rattle.spec_export.specs.declared.Exported.{Exported}
use Rattle.spec_export.specs.declared.Exported.TheVariants.{Written}
use Rattle.spec_export.specs.Unwritable.{text_in, Unwritable, unwritable}
use Rattle.spec_export.specs.Export.{exported, left, export}
use Rattle.spec_export.proofs.laws.Kept.{says_kept}
use Rattle.spec_export.proofs.laws.Unwritable.{unwritable_is}
use Rattle.spec_export.proofs.laws.Answer.{wrote}
use Rattle.spec_export.proofs.laws.Back.{file_unwritable, accepted_back, table_back}
use Rattle.spec_demand.specs.Exporting.{DefinesNothing, LooksUp, Alike}
use Rattle.spec_demand.proofs.laws.Exact.{laid_down}
use Rattle.spec_demand.proofs.laws.Privilege.{input_is}
use Rattle.spec_demand.proofs.laws.Register.{same_file}

-- ---- of a loaded table

looked : {b g : List ℕ} {letter : ℕ} {n : List ℕ} → (number (look_up b g letter) ≡ none) × (part_in (look_up b g letter) b ≡ n) → LooksUp b g letter n
looked h = record { found = h.0; named = h.1 }

empty_list : {A : Type 0} (xs : List A) → nonempty xs ≡ false → xs ≡ []
empty_list [] e = refl
empty_list (x ∷ xs) e = absurd (false≢true (sym e))

nothing_defined : (f : File) → defines_nothing f ≡ true → DefinesNothing f
nothing_defined f e =
    let k = not-true (nonempty f.uags || (nonempty f.hags || nonempty f.asgs)) e in
    let u = neither (nonempty f.uags) (nonempty f.hags || nonempty f.asgs) k in
    let h = neither (nonempty f.hags) (nonempty f.asgs) u.1 in
    record { uags = empty_list f.uags u.0; hags = empty_list f.hags h.0; asgs = empty_list f.asgs h.1 }

defined_nothing : (f : File) → DefinesNothing f → defines_nothing f ≡ true
defined_nothing f d = rw (d.uags, d.hags, d.asgs) refl

module _ (s : List ℕ) (xs : List Tagged) (a : Acceptable s xs) (rest : List ℕ) where
  abbrev f : File
  f = file_of xs

  abbrev b : List ℕ
  b = table_of f ++ rest

  ok : Fits f
  ok = fits s xs (acceptable_is s xs a)

  in_view : view b ≡ content f
  in_view = viewed f ok rest

  -- 27 of a loaded table
  by_file : unwritable (view b) ≡ faulty f
  by_file = ap unwritable in_view ∙ file_unwritable f ok (quotable_said a.as_read)

  well : well_formed (view b) ≡ true
  well = ap well_formed in_view ∙ content_stands f ok

  pub loaded_unwritable : Unwritable (view b) ↔ DefinesNothing f
  loaded_unwritable = (
    λ u. nothing_defined f (go (defines_nothing f) refl (sym by_file ∙ (unwritable_is (view b) well).1 u)),
    λ d. (unwritable_is (view b) well).0 (by_file ∙ rw (defined_nothing f d) refl),
  )
    where
      go : (x : Bool) → defines_nothing f ≡ x → faulty f ≡ true → x ≡ true
      go true d e = refl
      go false d e = sym (faultless a.as_read a.uncaused d) ∙ e

  -- bytes that begin with the file's table are alike to questions, look-ups and exports
  same_tables : (other : List ℕ) → (is_table b ≡ is_table (table_of f ++ other)) × (view b ≡ view (table_of f ++ other)) → Alike b (table_of f ++ other)
  unfolding decide exported
  same_tables other k =
      record {
        answers = λ q. rw (← k.0, ← k.1) refl;
        inputs = λ g letter m. (
          λ h. looked ((input_is s xs a rest g letter m).1 ((input_is s xs a other g letter m).0 (h.found, h.named))),
          λ h. looked ((input_is s xs a other g letter m).1 ((input_is s xs a rest g letter m).0 (h.found, h.named))),
        );
        texts = λ out. rw (← k.0, ← k.1) refl;
      }

  abbrev Back : List ℕ → List ℕ → Type 0
  Back lent t =
      (is_accepted (load lent t).answer ≡ true) × ((load lent t).bytes ≡ table_of f ++ drop (length (table_of f)) lent) × Alike b (load lent t).bytes

  loaded_back :
      (lent text : List ℕ) (ys : List Tagged) → Acceptable text ys → table_of (file_of ys) ≡ table_of f → length (table_of f) ≤ length lent → Back lent text
  loaded_back lent text ys acc same room =
      let laid = laid_down lent text ys acc (subst (λ (t : List ℕ). length t ≤ length lent) (sym same) room) in
      let bytes : (load lent text).bytes ≡ table_of f ++ drop (length (table_of f)) lent =
      ap (λ (r : Result). r.bytes) laid ∙ ap (λ (t : List ℕ). t ++ drop (length t) lent) same in
      let other = drop (length (table_of f)) lent in
      (ap (λ (r : Result). is_accepted r.answer) laid, bytes, subst (Alike b) (sym bytes) (same_tables other (same_file s xs a rest other refl refl)))

  written_text : (out : List ℕ) (n : ℕ) → exported (length out) b ≡ Written n → length (text_in (view b)) ≡ n → take n (export out b).bytes ≡ text_in (view b)
  written_text out n e k =
      let t = text_in (view b) in
      subst (λ m. take m (left out t (exported (length out) b)) ≡ t) k
      (ap (λ (x : Exported). take (length t) (left out t x)) e ∙ take-append_seam t (drop (length t) out))

  pub comes_back :
      (out lent : List ℕ) (n : ℕ) → (export out b).answer ≡ Written n → n ≤ most_bytes → length (table_of f) ≤ length lent
      → let t = take n (export out b).bytes in
      (is_accepted (load lent t).answer ≡ true) × ((load lent t).bytes ≡ table_of f ++ drop (length (table_of f)) lent) × Alike b (load lent t).bytes
  comes_back out lent n e l room =
      let w = wrote (length out) b n e in
      let text : List ℕ = text_of (kept f) in
      let same : text_in (view b) ≡ text = ap text_in in_view ∙ ap text_of (says_kept f ok) in
      let taken : take n (export out b).bytes ≡ text = written_text out n e w.length_of ∙ same in
      let fine : faulty f ≡ false = sym by_file ∙ w.writable in
      let q = quotable_said a.as_read in
      let short : length text ≤ most_bytes = subst (λ m. m ≤ most_bytes) (sym w.length_of ∙ ap length same) l in
      subst (λ t. Back lent t) (sym taken)
      (loaded_back lent text (said_at 0 (file_pieces (kept f))) (accepted_back f ok q fine short) (table_back f ok q fine) room)
