use mathlib.Core.Path.{ap}
use Prim.Native.Nat.{ℕ, ◌/◌}
use Rattle.text_body.specs.laws.Bodies.{has_body}
use Rattle.text_body.proofs.has_body.Goals as goal

pub returns : goal.returns
returns c = let a = c.args in has_body a.table.now a.rule c.requires (ap (λ (x : ℕ). x / 16) c.field-off.ensures.is) c.field-users.ensures.is c.field-hosts.ensures.is c.field-first.ensures.is c.field-n.ensures.is
