use mathlib.Core.Path.{◌∙◌, ap}
use Rattle.api_numbers.specs.Numbers.{found_number}
use Rattle.abi_look.proofs.hrazvanut_abi_group_at_checked.Goals as goal

pub returns : goal.returns
returns c = c.found_number.ensures ∙ ap found_number c.group_at_checked.ensures
