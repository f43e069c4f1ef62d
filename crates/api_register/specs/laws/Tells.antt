use Rattle.std.specs.Prelude.{◌≡◌, refl, List, ℕ, set}
use Rattle.spec_file.specs.declared.Refusal.{Refusal}
use Rattle.spec_file.specs.Refusal as refusal
use Rattle.spec_register.specs.declared.Refused.{Refused}
use Rattle.spec_register.specs.declared.Added.{Added}
use Rattle.spec_register.specs.declared.Added.TheVariants as added
use Rattle.spec_register.specs.declared.Changed.{Changed}
use Rattle.spec_register.specs.declared.Changed.TheVariants as changed
use Rattle.spec_register.specs.declared.Reloaded.{Reloaded}
use Rattle.spec_register.specs.declared.Reloaded.TheVariants as reloaded
use Rattle.spec_register.specs.Refusal as refused
use Rattle.api_numbers.specs.Numbers.{packed}
use Rattle.api_register.specs.Numbers.{TellsAdded, TellsChanged, TellsReloaded}

-- what is told of an answer is told of an equal one
module _ {b c : List ℕ} {r : ℕ} where
  pub added_so : {x y : Added} → x ≡ y → TellsAdded x b c r → TellsAdded y b c r
  added_so e t = rw e at t

  pub changed_so : {x y : Changed} → x ≡ y → TellsChanged x b c r → TellsChanged y b c r
  changed_so e t = rw e at t

  pub reloaded_so : {x y : Reloaded} → x ≡ y → TellsReloaded x b c r → TellsReloaded y b c r
  reloaded_so e t = rw e at t
