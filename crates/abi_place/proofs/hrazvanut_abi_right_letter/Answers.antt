use Rattle.spec_rule.specs.Number.{decision_number}
use mathlib.Core.Path.{◌∙◌, ap}
use Rattle.abi_place.proofs.hrazvanut_abi_right_letter.Goals as goal

pub returns : goal.returns
returns c = c.number.ensures ∙ ap decision_number c.right.ensures
