-- What a load that is refused leaves.
use Rattle.std.specs.Prelude.{◌≡◌, refl, Bool, true, false, cond, List, ℕ, leb, length}
use Rattle.std.proofs.Common.{sym}
use Rattle.std.proofs.lemmas.Bool.{false≢true}
use Rattle.spec_grammar.specs.Sentence.{Tagged}
use Rattle.spec_file.specs.Contents.{file_of}
use Rattle.spec_file.specs.Load.{Verdict, refuse, accept, verdict}
use Rattle.spec_table.specs.Written.{table_of}
use Rattle.spec_load.specs.Load.{is_accepted, written, without_room, by_verdict, load}

-- 01: "A refused call changes no lent byte"
pub refused_leaves : (lent s : List ℕ) → is_accepted (load lent s).answer ≡ false → (load lent s).bytes ≡ lent
unfolding load
refused_leaves lent s e = by (verdict s) e
  where
    room :
        (xs : List Tagged) (b : Bool) → is_accepted (cond b (written lent xs) (without_room lent xs)).answer ≡ false
        → (cond b (written lent xs) (without_room lent xs)).bytes ≡ lent
    room xs true h = absurd (false≢true (sym h))
    room xs false h = refl

    by : (v : Verdict) → is_accepted (by_verdict lent v).answer ≡ false → (by_verdict lent v).bytes ≡ lent
    by (refuse n p) h = refl
    by (accept xs) h = room xs (leb (length (table_of (file_of xs))) (length lent)) h
