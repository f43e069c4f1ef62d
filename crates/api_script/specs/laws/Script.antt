-- Laws of scripts and of their calls.
use Rattle.std.specs.Prelude.{◌≡◌, refl, Bool, true, false, leb, min, List, [], ◌∷◌, length, drop, get_or}
use Rattle.std.proofs.Common.{sym, ap, ◌∙◌, div-add-mod', length-drop, take_all, leb-true, leb-false}
use Rattle.std.proofs.Math.Path.{subst}
use Prim.Native.Nat.{ℕ, zero, suc, ◌+◌, ◌*◌, ◌-◌, ◌/◌, ◌≤◌, ◌<◌}
use native.Mathlib.Omega.{arith}
use Rattle.std.proofs.Math.ListN.{get_or-eq_default}
use Rattle.spec_lists.specs.Every.{Every, nil, cons}
use Rattle.spec_lists.proofs.laws.Every.{every_at}
use Rattle.spec_calc.specs.declared.Reading.{Reading}
use Rattle.spec_file.specs.Load.{Verdict, refuse, accept, verdict}
use Rattle.load_tokens.specs.Arrays.{between}
use Rattle.spec_load.specs.declared.Loaded.{Loaded}
use Rattle.spec_load.specs.declared.Listed.{Listed}
use Rattle.spec_load.specs.Load.{Result, load}
use Rattle.spec_load.specs.Listing.{Listing, listed_by, listing}
use Rattle.spec_export.specs.declared.Exported.{Exported}
use Rattle.spec_export.specs.Export.{export}
use Rattle.spec_export.specs.Export as export
use Rattle.spec_demand.specs.Calls.{load_text, list_warnings, export_text, hold}
use Rattle.spec_calc.specs.States.{readings}
use Rattle.api_script.specs.declared.Reply.{Reply}
use Rattle.api_script.specs.declared.Reply.TheVariants as reply
use Rattle.api_script.specs.Script.{Script, script_of, word, text_at, reading_calls, call_of, call_at, calls_from}
use Rattle.api_script.specs.Replies.{answer_to, Lent, lent_of, left_by, left_by_calls, Made}

-- ---- parts of a text

module _ (s : List ℕ) (a e : ℕ) {m : ℕ} (f : m ≡ min e (length s)) where
  -- as far as the text goes
  pub part_in : between s a m ≡ between s a e
  part_in = go (leb e (length s)) refl
    where
      go : (b : Bool) → leb e (length s) ≡ b → between s a m ≡ between s a e
      go true q = let l = leb-true e (length s) q in let z : m ≡ e = omega arith in ap (between s a) z
      go false q =
          let l = leb-false e (length s) q in
          let z : m ≡ length s = omega arith in
          ap (between s a) z
          ∙ take_all (length s - a) (drop a s) (rw length-drop (omega arith))
          ∙ sym (take_all (e - a) (drop a s) (rw length-drop (omega arith)))

  pub part_none : m ≤ a → [] ≡ between s a e
  part_none h = let z : m - a ≡ 0 = omega arith in (let y : [] ≡ between s a m = rw z refl in y) ∙ part_in

-- ---- calls

-- how many warnings there are does not depend on the room for their list
pub listed_alike : (skip : ℕ) (numbers places : List ℕ) (s : List ℕ) → (listing skip numbers places s).answer ≡ (listing skip [] [] s).answer
unfolding listing
listed_alike skip numbers places s = by (verdict s)
  where
    by : (v : Verdict) → (listed_by skip numbers places v).answer ≡ (listed_by skip [] [] v).answer
    by (refuse n p) = refl
    by (accept xs) = refl

-- a number from 3 on calls what writes nothing
pub others_leave :
    (m : ℕ) (a b c roles lengths : List ℕ) (k n : ℕ) (rs : List Reading) (room : ℕ) (lent : Lent) → 2 < m
    → lent ≡ left_by lent (call_of m a b c roles lengths k n rs room)
others_leave zero a b c roles lengths k n rs room lent h = absurd (omega arith)
others_leave (suc zero) a b c roles lengths k n rs room lent h = absurd (omega arith)
others_leave (suc (suc zero)) a b c roles lengths k n rs room lent h = absurd (omega arith)
others_leave (suc (suc (suc m))) a b c roles lengths k n rs room lent h =
    let leave : Every (λ x. lent ≡ left_by lent x) (reading_calls a b c roles lengths k n rs) =
    cons refl (cons refl (cons refl (cons refl (cons refl (cons refl (cons refl (cons refl (cons refl nil)))))))) in
    every_at m (hold a rs) refl leave

-- a number over 11 asks whether a calculation is true
pub truth_called :
    (m : ℕ) (a b c roles lengths : List ℕ) (k n : ℕ) (rs : List Reading) (room : ℕ) → 11 < m
    → hold a rs ≡ call_of m a b c roles lengths k n rs room
truth_called m a b c roles lengths k n rs room h =
    sym (get_or-eq_default (load_text a ∷ list_warnings a k ∷ export_text room ∷ reading_calls a b c roles lengths k n rs) (hold a rs) h)

module _ (s : Script) (i : ℕ) (lent : Lent) {w : ℕ} (what : w ≡ word s.words i 0) where
  pub export_made :
      {after : List ℕ} {r : Exported} → w ≡ 2 → s.room ≡ length lent.text → record { answer = r; bytes = after } ≡ export lent.text lent.table
      → Made lent (call_at s i) (lent_of lent.table lent.numbers lent.places after) (reply.Exported r)
  export_made z n x =
      let first = sym what ∙ z in
      record {
        answer = ap (λ (o : export.Result). reply.Exported o.answer) x ∙ rw (first, n);
        left = ap (λ (o : export.Result). lent_of lent.table lent.numbers lent.places o.bytes) x ∙ rw (first, n);
      }

  module _ {t : List ℕ} (text : t ≡ text_at s.words s.pool i 1) where
    pub load_made :
        {after : List ℕ} {r : Loaded} → w ≡ 0 → record { answer = r; bytes = after } ≡ load lent.table t
        → Made lent (call_at s i) (lent_of after lent.numbers lent.places lent.text) (reply.Loaded r)
    load_made z l =
        let first = sym what ∙ z in
        record {
          answer = ap (λ (o : Result). reply.Loaded o.answer) l ∙ rw (text, first);
          left = ap (λ (o : Result). lent_of o.bytes lent.numbers lent.places lent.text) l ∙ rw (text, first);
        }

    pub list_made :
        {numbers places : List ℕ} {k : ℕ} {r : Listed} → w ≡ 1 → k ≡ word s.words i 7
        → record { answer = r; numbers = numbers; places = places } ≡ listing k lent.numbers lent.places t
        → Made lent (call_at s i) (lent_of lent.table numbers places lent.text) (reply.Listed r)
    list_made {k = k} z e l =
        let first = sym what ∙ z in
        record {
          answer = ap (λ (o : Listing). reply.Listed o.answer) l ∙ ap reply.Listed (listed_alike k lent.numbers lent.places t) ∙ rw (text, e, first);
          left = ap (λ (o : Listing). lent_of lent.table o.numbers o.places lent.text) l ∙ rw (text, e, first);
        }

    pub other_made :
        {b c roles lengths : List ℕ} {k n at : ℕ} {rs : List Reading} {r : Reply} → 2 < w
        → b ≡ text_at s.words s.pool i 3 → c ≡ text_at s.words s.pool i 5
        → roles ≡ text_at s.words s.pool i 9 → lengths ≡ text_at s.words s.pool i 11 → k ≡ word s.words i 7 → n ≡ get_or s.levels i 0
        → at ≡ word s.words i 8 → rs ≡ readings s.states s.values at
        → ((room : ℕ) → r ≡ answer_to lent.table (call_of w t b c roles lengths k n rs room)) → Made lent (call_at s i) lent r
    other_made {b} {c} {roles} {lengths} {k} {n} {at} {rs} z eb ec eo el ek en ea er h =
        let same : call_of w t b c roles lengths k n rs s.room ≡ call_at s i = rw (text, eb, ec, eo, el, ek, en, er, ea, what) in
        record {
          answer = h s.room ∙ ap (answer_to lent.table) same;
          left = others_leave w t b c roles lengths k n rs s.room lent z ∙ ap (left_by lent) same;
        }

-- ---- scripts

-- each call of a script stands in it whole
pub call_within : (i n : ℕ) → i < n / 16 → i * 16 + 16 ≤ n
call_within i n h = omega (arith, div-add-mod' n 16)

module _ (s : Script) (n : ℕ) (start : Lent) where
  -- from the i-th call on, what is left to do comes to what was to do at the start
  pub record Followed (lent : Lent) (i : ℕ) : Type 0 where
    pub within : i ≤ n
    pub comes : left_by_calls lent (calls_from s i (n - i)) ≡ left_by_calls start (calls_from s 0 n)

  pub followed_none : Followed start 0
  followed_none =
      let z : n - 0 ≡ n = omega arith in
      record { within = omega arith; comes = rw z }

  pub followed_more :
      {lent after : Lent} {i : ℕ} → Followed lent i → i < n → length lent.text ≡ s.room
      → after ≡ left_by lent (call_at (script_of s.words s.pool s.levels s.states s.values (length lent.text)) i) → Followed after (i + 1)
  unfolding calls_from
  followed_more {lent} {after} {i} h l r e =
      let m : n - i ≡ suc (n - (i + 1)) = omega arith in
      let made : after ≡ left_by lent (call_at s i) =
      subst (λ room. after ≡ left_by lent (call_at (script_of s.words s.pool s.levels s.states s.values room) i)) r e in
      record { within = omega arith; comes = rw made (rw m at h.comes) }

  pub followed_all : {lent : Lent} {i : ℕ} → Followed lent i → n ≤ i → lent ≡ left_by_calls start (calls_from s 0 n)
  unfolding calls_from
  followed_all {lent} {i} h l =
      let z : n - i ≡ 0 = omega arith in
      rw z at h.comes
