-- An export, case by case. 02, ticket 6: "Refusals: 20; then 27 [..]; then 28".
use Rattle.std.specs.Prelude.{◌≡◌, Bool, List, ◌++◌, ◌↔◌, ◌⊎◌, ℕ, ◌≤◌, ◌<◌, leb, length, drop}
use Rattle.std.proofs.Math.Path.{refl}
use Rattle.std.proofs.Common.{sym, ap, ◌∙◌, inl, inr, arith, le-leb}
use Rattle.std.proofs.Math.Bool.{true, false, cond}
use Rattle.std.proofs.lemmas.Bool.{false≢true, lt-leb}
use Rattle.std.proofs.Math.Option.{some}
use Rattle.spec_lists.proofs.laws.Both.{both}
use Rattle.spec_table.specs.Table.{Table}
use Rattle.spec_table.specs.View.{view}
use Rattle.spec_table.specs.Check.{sections_stand, well_formed, is_table}
use Rattle.spec_table.proofs.laws.Table.{table_is}
use Rattle.spec_text.specs.Lines.{greatest_text}
use Rattle.spec_export.specs.declared.Exported.{Exported}
use Rattle.spec_export.specs.declared.Exported.TheVariants.{Written, NotTable, NoRoom}
use Rattle.spec_export.specs.declared.Exported.TheVariants as exports
use Rattle.spec_export.specs.Unwritable.{text_in, Unwritable, unwritable}
use Rattle.spec_export.specs.Export.{number, if_room, of_content, exported, left, export, Result}
use Rattle.spec_export.proofs.laws.Bound.{text_in_bounded}
use Rattle.spec_export.proofs.laws.Unwritable.{unwritable_is}

formed : (b : List ℕ) → is_table b ≡ true → well_formed (view b) ≡ true
unfolding is_table
formed b e = (both (sections_stand b) (well_formed (view b)) e).1

-- ---- of a table

module _ (b : List ℕ) (t : Table b) where
  checked : is_table b ≡ true
  checked = (table_is b).1 t

  pub unwritable_or_not : Unwritable (view b) ⊎ (Unwritable (view b) → ⊥)
  unwritable_or_not = go (unwritable (view b)) refl
    where
      go : (x : Bool) → unwritable (view b) ≡ x → Unwritable (view b) ⊎ (Unwritable (view b) → ⊥)
      go true e = inl ((unwritable_is (view b) (formed b checked)).0 e)
      go false e = inr (λ u. false≢true (sym e ∙ (unwritable_is (view b) (formed b checked)).1 u))

  writable : (Unwritable (view b) → ⊥) → unwritable (view b) ≡ false
  writable n = go (unwritable (view b)) refl
    where
      go : (x : Bool) → unwritable (view b) ≡ x → unwritable (view b) ≡ false
      go true e = absurd (n ((unwritable_is (view b) (formed b checked)).0 e))
      go false e = e

  pub text_short : length (text_in (view b)) ≤ greatest_text
  text_short = text_in_bounded (view b) (formed b checked)

-- ---- case by case

module _ (lent b : List ℕ) where
  answered : {a : Exported} → exported (length lent) b ≡ a → export lent b ≡ record { answer = a; bytes = left lent (text_in (view b)) a }
  answered e = ap (λ (x : Exported). record { answer = x; bytes = left lent (text_in (view b)) x }) e

  pub exported_not_table : (Table b → ⊥) → export lent b ≡ record { answer = NotTable; bytes = lent }
  unfolding exported
  exported_not_table n = answered (go (is_table b) refl)
    where
      go : (x : Bool) → is_table b ≡ x → cond x (of_content (length lent) (view b)) NotTable ≡ NotTable
      go true e = absurd (n ((table_is b).0 e))
      go false e = refl

  module _ (t : Table b) where
    -- what is answered of a table's content
    on_content : {a : Exported} → of_content (length lent) (view b) ≡ a → export lent b ≡ record { answer = a; bytes = left lent (text_in (view b)) a }
    unfolding exported
    on_content e = answered (rw (checked b t) e)

    pub exported_unwritable : Unwritable (view b) → export lent b ≡ record { answer = exports.Unwritable; bytes = lent }
    exported_unwritable u = on_content (rw ((unwritable_is (view b) (formed b (checked b t))).1 u) refl)

    pub exported_no_room :
        (Unwritable (view b) → ⊥) → length lent < length (text_in (view b))
        → export lent b ≡ record { answer = NoRoom (length (text_in (view b))); bytes = lent }
    exported_no_room n l = on_content (rw (writable b t n, lt-leb (length (text_in (view b))) (length lent) l) refl)

    pub exported_text :
        (Unwritable (view b) → ⊥) → length (text_in (view b)) ≤ length lent
        → export lent b ≡ record { answer = Written (length (text_in (view b))); bytes = text_in (view b) ++ drop (length (text_in (view b))) lent }
    exported_text n l = on_content (rw (writable b t n, le-leb (length (text_in (view b))) (length lent) l) refl)

-- ---- refusals

module _ (lent b : List ℕ) (n : ℕ) where
  pub refused_export : number (export lent b).answer ≡ some n → ((n ≡ 20) ⊎ (n ≡ 27) ⊎ (n ≡ 28)) × ((export lent b).bytes ≡ lent)
  refused_export e = go (exported (length lent) b) e
    where
      go : (a : Exported) → number a ≡ some n → ((n ≡ 20) ⊎ (n ≡ 27) ⊎ (n ≡ 28)) × (left lent (text_in (view b)) a ≡ lent)
      go (Written k) e = let z : ◌≡◌ {A = ℕ} 0 1 = cc in absurd (omega arith)
      go NotTable e = (inl cc, refl)
      go exports.Unwritable e = (inr (inl cc), refl)
      go (NoRoom k) e = (inr (inr cc), refl)

-- an answer that a text was written
pub record Wrote (b : List ℕ) (n : ℕ) : Type 0 where
  pub checked : is_table b ≡ true
  pub writable : unwritable (view b) ≡ false
  pub length_of : length (text_in (view b)) ≡ n

pub wrote : (m : ℕ) (b : List ℕ) (n : ℕ) → exported m b ≡ Written n → Wrote b n
unfolding exported
wrote m b n = on_table (is_table b) refl
  where
    with_room : (z : Bool) → is_table b ≡ true → unwritable (view b) ≡ false → cond z (Written (length (text_in (view b)))) (NoRoom (length (text_in (view b)))) ≡ Written n → Wrote b n
    with_room true x y e = record { checked = x; writable = y; length_of = cc }
    with_room false x y e = let z : ◌≡◌ {A = ℕ} 0 1 = cc in absurd (omega arith)

    on_content : (y : Bool) → is_table b ≡ true → unwritable (view b) ≡ y → cond y exports.Unwritable (if_room (length (text_in (view b))) m) ≡ Written n → Wrote b n
    on_content true x u e = let z : ◌≡◌ {A = ℕ} 0 1 = cc in absurd (omega arith)
    on_content false x u e = with_room (leb (length (text_in (view b))) m) x u e

    on_table : (x : Bool) → is_table b ≡ x → cond x (of_content m (view b)) NotTable ≡ Written n → Wrote b n
    on_table true x e = on_content (unwritable (view b)) x refl e
    on_table false x e = let z : ◌≡◌ {A = ℕ} 0 1 = cc in absurd (omega arith)

unwritable_answer : (m : ℕ) (b : List ℕ) → number (exported m b) ≡ some 27 → Table b × Unwritable (view b)
unfolding exported
unwritable_answer m b = on_table (is_table b) refl
  where
    with_room : (z : Bool) → number (cond z (Written (length (text_in (view b)))) (NoRoom (length (text_in (view b))))) ≡ some 27 → Table b × Unwritable (view b)
    with_room true e = let z : ◌≡◌ {A = ℕ} 0 1 = cc in absurd (omega arith)
    with_room false e = let z : ◌≡◌ {A = ℕ} 28 27 = cc in absurd (omega arith)

    on_content : (y : Bool) → is_table b ≡ true → unwritable (view b) ≡ y → number (cond y exports.Unwritable (if_room (length (text_in (view b))) m)) ≡ some 27 → Table b × Unwritable (view b)
    on_content true x u e = ((table_is b).0 x, (unwritable_is (view b) (formed b x)).0 u)
    on_content false x u e = with_room (leb (length (text_in (view b))) m) e

    on_table : (x : Bool) → is_table b ≡ x → number (cond x (of_content m (view b)) NotTable) ≡ some 27 → Table b × Unwritable (view b)
    on_table true x e = on_content (unwritable (view b)) x refl e
    on_table false x e = let z : ◌≡◌ {A = ℕ} 20 27 = cc in absurd (omega arith)

pub exactly_27 : (lent b : List ℕ) → (number (export lent b).answer ≡ some 27) ↔ (Table b × Unwritable (view b))
exactly_27 lent b =
    (unwritable_answer (length lent) b, λ k. ap (λ (r : Result). number r.answer) (exported_unwritable lent b k.0 k.1))
