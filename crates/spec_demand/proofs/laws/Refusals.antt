-- What a refused load or listing answers: a number of 01's or 02's and a place.
use Rattle.std.specs.Prelude.{◌≡◌, refl, Bool, true, false, cond, List, ◌⊎◌, ℕ, ◌≤◌, ◌<◌, leb, length}
use Rattle.std.proofs.Common.{sym, ap, ◌∙◌, inl, inr, arith, leb-false}
use Rattle.spec_grammar.specs.Sentence.{Tagged}
use Rattle.spec_file.specs.declared.Refusal.{Refusal}
use Rattle.spec_file.specs.declared.Refusal.TheVariants.{NoRoom}
use Rattle.spec_file.specs.Contents.{file_of}
use Rattle.spec_file.specs.Refusal.{number}
use Rattle.spec_file.specs.Load.{Verdict, refuse, accept, verdict}
use Rattle.spec_table.specs.Written.{table_of}
use Rattle.spec_table.specs.Layout.{greatest_table}
use Rattle.spec_table.proofs.laws.Accepted.{fits}
use Rattle.spec_table.proofs.laws.Theorem.{table_length}
use Rattle.spec_load.specs.declared.Loaded.TheVariants as loaded
use Rattle.spec_load.specs.declared.Listed.TheVariants as listed
use Rattle.spec_load.specs.Load.{written, without_room, by_verdict, load}
use Rattle.spec_load.specs.Listing.{listed_by, listing}
use Rattle.spec_file.proofs.laws.Theorem.{refused_is}
use Rattle.spec_file.proofs.laws.Numbered.{OfAText, refusal_numbered}

-- the text is at fault, or the bytes needed are more than those lent
pub refused_load_numbered :
    (lent s : List ℕ) (r : Refusal) (p : ℕ) → (load lent s).answer ≡ loaded.Refused r p
    → (OfAText (number r) × (p ≤ length s)) ⊎ ((number r ≡ 11) × (length lent < p) × (p ≤ greatest_table))
unfolding load
refused_load_numbered lent s r p e = by (verdict s) refl e
  where
    Numbered : Type 0
    Numbered = (OfAText (number r) × (p ≤ length s)) ⊎ ((number r ≡ 11) × (length lent < p) × (p ≤ greatest_table))

    room :
        (xs : List Tagged) (b : Bool) → verdict s ≡ accept xs → leb (length (table_of (file_of xs))) (length lent) ≡ b
        → (cond b (written lent xs) (without_room lent xs)).answer ≡ loaded.Refused r p → Numbered
    room xs true v l h = let z : ◌≡◌ {A = ℕ} 0 1 = cc in absurd (omega arith)
    room xs false v l h =
        let t = length (table_of (file_of xs)) in
        let same : t ≡ p = cc in
        let which : NoRoom ≡ r = cc in
        let more = leb-false t (length lent) l in
        let most = table_length (file_of xs) (fits s xs v) in
        inr (ap number (sym which), omega arith, omega arith)

    by : (v : Verdict) → verdict s ≡ v → (by_verdict lent v).answer ≡ loaded.Refused r p → Numbered
    by (refuse q z) v h = let same : refuse q z ≡ refuse r p = cc in inl (refusal_numbered (refused_is s r p (v ∙ same)))
    by (accept xs) v h = room xs (leb (length (table_of (file_of xs))) (length lent)) v refl h

pub refused_listing_numbered :
    (skip : ℕ) (numbers places s : List ℕ) (r : Refusal) (p : ℕ) → (listing skip numbers places s).answer ≡ listed.Refused r p
    → OfAText (number r) × (p ≤ length s)
unfolding listing
refused_listing_numbered skip numbers places s r p e = by (verdict s) refl e
  where
    by :
        (v : Verdict) → verdict s ≡ v → (listed_by skip numbers places v).answer ≡ listed.Refused r p
        → OfAText (number r) × (p ≤ length s)
    by (refuse q z) v h = let same : refuse q z ≡ refuse r p = cc in refusal_numbered (refused_is s r p (v ∙ same))
    by (accept xs) v h = let z : ◌≡◌ {A = ℕ} 0 1 = cc in absurd (omega arith)
