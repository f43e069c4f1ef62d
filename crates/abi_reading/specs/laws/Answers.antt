-- A call gives what the function that it calls gives.
use Rattle.std.specs.Prelude.{◌≡◌, List, ℕ}
use Rattle.std.proofs.Common.{subst}
use Rattle.spec_calc.specs.declared.Reading.{Reading}
use Rattle.spec_register.specs.declared.Changed.{Changed}
use Rattle.spec_places.specs.Storage.{Lent}
use Rattle.spec_places.specs.Calls.{told_set, left_set}
use Rattle.reg_set.specs.Set.{Given}
use Rattle.api_register.specs.Numbers.{TellsChanged}
use Rattle.api_register.specs.laws.Tells.{changed_so}
use Rattle.abi_reading.specs.Answers.{Gives, Sets}

pub gives :
    {answer a : Changed} {left after : Lent} {word word' : List ℕ} {r : ℕ} → Given answer left a after → TellsChanged a word word' r
    → Gives answer left after word word' r
gives g t = record { told = changed_so g.answers t; leaves = g.leaves }

-- for a reading that is equal to the one that was set
pub sets :
    (s : Lent) (n : List ℕ) (letter : ℕ) {x y : Reading} {a : Changed} {after : Lent} {word word' : List ℕ} {r : ℕ} → x ≡ y
    → Given (told_set s n letter x) (left_set s n letter x) a after → TellsChanged a word word' r → Sets s n letter y after word word' r
sets s n letter {x} {y} {a} {after} {word} {word'} {r} e g t = subst (λ (z : Reading). Sets s n letter z after word word' r) e (gives g t)
