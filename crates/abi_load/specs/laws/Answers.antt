-- A call answers what the function that it calls answers.
use Rattle.std.specs.Prelude.{◌≡◌, List, ℕ}
use Rattle.std.proofs.Common.{ap, ◌∙◌}
use Rattle.spec_load.specs.Load.{Result}
use Rattle.spec_load.specs.Listing.{Listing}
use Rattle.spec_register.specs.declared.Reloaded.{Reloaded}
use Rattle.spec_places.specs.Storage.{Lent}
use Rattle.reload.specs.Reload as reload
use Rattle.api_numbers.specs.Numbers.{load_number, listed_number}
use Rattle.api_register.specs.Numbers.{TellsReloaded}
use Rattle.api_register.specs.laws.Tells.{reloaded_so}
use Rattle.abi_load.specs.Answers.{Leaves, Lists, Reloads}

pub leaves : {o o' : Result} {r : ℕ} → o ≡ o' → r ≡ load_number o.answer → Leaves o' o.bytes r
leaves e g = record { left = ap (λ (x : Result). x.bytes) e; answered = g ∙ ap (λ (x : Result). load_number x.answer) e }

pub lists : {l l' : Listing} {r : ℕ} → l ≡ l' → r ≡ listed_number l.answer → Lists l' l.numbers l.places r
lists e g =
    record {
      left_numbers = ap (λ (x : Listing). x.numbers) e;
      left_places = ap (λ (x : Listing). x.places) e;
      answered = g ∙ ap (λ (x : Listing). listed_number x.answer) e;
    }

pub reloads :
    {before after : Lent} {text word word' : List ℕ} {l : Reloaded} {r : ℕ} → reload.Reloads before text after l → TellsReloaded l word word' r
    → Reloads before text after word word' r
reloads g t = record { told = reloaded_so g.told t; left = g.left }
