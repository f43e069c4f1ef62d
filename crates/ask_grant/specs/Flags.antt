-- What a rule's flags give.
use Rattle.std.specs.Prelude.{ℕ}
use Rattle.spec_rule.specs.declared.Decision.{Decision}
use Rattle.spec_rule.specs.Decision.{grant}
use Rattle.spec_table.specs.Check.{permission_bits, trap_bit}
use Rattle.spec_table.specs.Policy.{permission, set_bit}

abbrev pub flagged : ℕ → Decision
flagged f = grant (permission (permission_bits f)) (set_bit (trap_bit f))
