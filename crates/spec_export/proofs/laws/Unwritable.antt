-- The machine finds 27 exactly where the ticket's words ask for it: of every well-formed table.
use Rattle.std.specs.Prelude.{◌≡◌, refl, Bool, true, false, not, ◌&&◌, ◌||◌, List, [], ◌∷◌, ◌↔◌, ℕ}
use Rattle.std.proofs.Common.{sym, ap, subst, ◌∙◌, arith}
use Rattle.std.proofs.lemmas.Bool.{false≢true}
use Rattle.std.proofs.Math.Option.{Option, none, some}
use Rattle.spec_lists.specs.Select.{all}
use Rattle.spec_lists.proofs.laws.Both.{both, neither}
use Rattle.spec_token.specs.Token.{BetweenQuotes}
use Rattle.spec_rule.specs.Privilege.{Some, here, further}
use Rattle.spec_file.specs.declared.Refusal.{Refusal}
use Rattle.spec_file.specs.declared.Refusal.TheVariants.{Ungrammatical}
use Rattle.spec_file.specs.Contents.{File, file_of}
use Rattle.spec_file.specs.Refusal.{contexts}
use Rattle.spec_file.specs.Acceptance.{HasCause, for_cause}
use Rattle.spec_file.specs.Load.{RefusalAt, causes, refused_by}
use Rattle.spec_file.proofs.laws.Causes.{nowhere, caused_by}
use Rattle.spec_file.proofs.laws.Theorem.{free_is, cause_is}
use Rattle.spec_table.specs.Layout.{Content}
use Rattle.spec_table.specs.Check.{well_formed}
use Rattle.spec_text.specs.Lines.{text_of}
use Rattle.spec_text.specs.Faults.{quotable, defines_nothing, faulty}
use Rattle.spec_text.proofs.laws.Pieces.{said_at, file_pieces}
use Rattle.spec_text.proofs.laws.Keeps.{Quotable, Keeps}
use Rattle.spec_text.proofs.laws.KeptText.{unplaced_faults, unplaced_definitions}
use Rattle.spec_text.proofs.laws.Quotable.{quotable_sound, quotable_complete}
use Rattle.spec_text.proofs.laws.Read.{text_reads, shallow, empty, empty_cause}
use Rattle.spec_text.proofs.laws.Says.{says}
use Rattle.spec_text.proofs.laws.Clear.{uncaused}
use Rattle.spec_text.proofs.laws.Accepted.{faultless}
use Rattle.spec_export.specs.Says.{file_in}
use Rattle.spec_export.specs.Unwritable.{strings_in, Unwritable, unquotable, caused, unwritable}
use Rattle.spec_export.proofs.laws.Quotes.{strings_quotable}
use Rattle.spec_export.proofs.laws.Limits.{keeps}

-- ---- of a file that can be quoted and keeps the limits

module _ (f : File) (q : Quotable f) (k : Keeps f) where
  -- a text with a fault has a cause
  faulty_caused : faulty f ≡ true → (r : Refusal) × (p : ℕ) × HasCause (text_of f) r p
  faulty_caused e = go (defines_nothing f) refl
    where
      by_cause : (h : defines_nothing f ≡ false) (o : Option RefusalAt) → refused_by causes (contexts (said_at 0 (file_pieces f))) ≡ o → (r : Refusal) × (p : ℕ) × HasCause (text_of f) r p
      by_cause h (some x) d = (x.refusal, x.place, for_cause (text_reads f q k.named h) (shallow f) (caused_by (said_at 0 (file_pieces f)) d))
      by_cause h none d =
          let s = says f 0 k.named in
          let fine : faulty (file_of (said_at 0 (file_pieces f))) ≡ false =
          faultless (text_reads f q k.named h) (nowhere (contexts (said_at 0 (file_pieces f))) d)
          (sym (unplaced_definitions (file_of (said_at 0 (file_pieces f)))) ∙ (ap defines_nothing s ∙ (unplaced_definitions f ∙ h))) in
          absurd (false≢true (sym fine ∙ (sym (unplaced_faults (file_of (said_at 0 (file_pieces f)))) ∙ (ap faulty s ∙ (unplaced_faults f ∙ e)))))

      go : (b : Bool) → defines_nothing f ≡ b → (r : Refusal) × (p : ℕ) × HasCause (text_of f) r p
      go true h = (Ungrammatical, 0, subst (λ s. HasCause s Ungrammatical 0) (sym (empty f h)) empty_cause)
      go false h = by_cause h (refused_by causes (contexts (said_at 0 (file_pieces f)))) refl

  -- a text without a fault has none
  faultless_free : faulty f ≡ false → (r : Refusal) (p : ℕ) → HasCause (text_of f) r p → ⊥
  faultless_free e r p c =
      let h = (neither (defines_nothing f) _ e).0 in
      let free = free_is (text_of f) (said_at 0 (file_pieces f)) (text_reads f q k.named h) (shallow f) (uncaused f 0 k e) in
      let clash = sym (cause_is (text_of f) r p c) ∙ free in
      let z : ◌≡◌ {A = ℕ} 0 1 = cc in omega arith

-- ---- of a table

some_unquotable : (ss : List (List ℕ)) → all quotable ss ≡ false → Some (λ s. BetweenQuotes s → ⊥) ss
some_unquotable [] e = absurd (false≢true (sym e))
some_unquotable (s ∷ ss) e = go (quotable s) refl (some_unquotable ss) e
  where
    go :
        (b : Bool) → quotable s ≡ b → (all quotable ss ≡ false → Some (λ s. BetweenQuotes s → ⊥) ss) → b && all quotable ss ≡ false
        → Some (λ s. BetweenQuotes s → ⊥) (s ∷ ss)
    go true h later e = further (later e)
    go false h later e = here (λ d. absurd (false≢true (sym h ∙ quotable_complete s d)))

none_unquotable : (ss : List (List ℕ)) → all quotable ss ≡ true → Some (λ s. BetweenQuotes s → ⊥) ss → ⊥
none_unquotable [] e d = elim d [ ]
none_unquotable (s ∷ ss) e (here n) = n (quotable_sound s (both (quotable s) (all quotable ss) e).0)
none_unquotable (s ∷ ss) e (further h) = none_unquotable ss (both (quotable s) (all quotable ss) e).1 h

module _ (c : Content) (w : well_formed c ≡ true) where
  found_so : unwritable c ≡ true → Unwritable c
  found_so = go (all quotable (strings_in c)) refl
    where
      go : (b : Bool) → all quotable (strings_in c) ≡ b → not b || faulty (file_in c) ≡ true → Unwritable c
      go false h e = unquotable (some_unquotable (strings_in c) h)
      go true h e = caused (faulty_caused (file_in c) (strings_quotable c h) (keeps c w) e).2

  so_found : Unwritable c → unwritable c ≡ true
  so_found u = go (all quotable (strings_in c)) refl (faulty (file_in c)) refl u
    where
      go : (b : Bool) → all quotable (strings_in c) ≡ b → (d : Bool) → faulty (file_in c) ≡ d → Unwritable c → not b || d ≡ true
      go false h d e u = refl
      go true h true e u = refl
      go true h false e (unquotable s) = absurd (none_unquotable (strings_in c) h s)
      go true h false e (caused {r = r} {p = p} k) = absurd (faultless_free (file_in c) (strings_quotable c h) (keeps c w) e r p k)

  pub unwritable_is : (unwritable c ≡ true) ↔ Unwritable c
  unwritable_is = (found_so, so_found)
