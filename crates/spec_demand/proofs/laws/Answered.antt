-- What a load and a listing answer, from what a text is: no machine stands in these statements but the functions that they are of.
use Rattle.std.specs.Prelude.{◌≡◌, List, ℕ}
use Rattle.std.proofs.Common.{ap}
use Rattle.spec_grammar.specs.Sentence.{Tagged}
use Rattle.spec_file.specs.declared.Refusal.{Refusal}
use Rattle.spec_file.specs.Acceptance.{Acceptable, Refusable}
use Rattle.spec_file.proofs.laws.Theorem.{acceptable_is, refusable_is}
use Rattle.spec_load.specs.declared.Loaded.TheVariants as loaded
use Rattle.spec_load.specs.declared.Listed.TheVariants as listed
use Rattle.spec_load.specs.Load.{by_verdict, load}
use Rattle.spec_load.specs.Listing.{warnings_written, listed_by, listing}

-- a refusable text is answered by its refusal and place, and no lent byte is changed
pub refused_load : (lent s : List ℕ) (r : Refusal) (p : ℕ) → Refusable s r p → load lent s ≡ record { answer = loaded.Refused r p; bytes = lent }
unfolding load
refused_load lent s r p h = ap (by_verdict lent) (refusable_is s r p h)

pub refused_listing :
    (skip : ℕ) (numbers places s : List ℕ) (r : Refusal) (p : ℕ) → Refusable s r p
    → listing skip numbers places s ≡ record { answer = listed.Refused r p; numbers = numbers; places = places }
unfolding listing
refused_listing skip numbers places s r p h = ap (listed_by skip numbers places) (refusable_is s r p h)

-- an acceptable text's warnings are listed
pub accepted_listing :
    (skip : ℕ) (numbers places s : List ℕ) (xs : List Tagged) → Acceptable s xs → listing skip numbers places s ≡ warnings_written skip numbers places xs
unfolding listing
accepted_listing skip numbers places s xs h = ap (listed_by skip numbers places) (acceptable_is s xs h)
