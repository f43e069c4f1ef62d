use Rattle.std.proofs.Common.{◌≡◌, drop}
use Rattle.spec_lists.specs.Text.{same}
use Rattle.spec_lists.specs.Select.{any}
use Rattle.spec_rule.specs.Roles.{cut_roles}
use Rattle.ask_roles.proofs.Roles.contain.Given as goal

-- the roles from the n-th on stand in the rest
abbrev pub invariant-loop-n : goal.invariant-loop-n
invariant-loop-n l = any (same l.fn.name) (cut_roles l.fn.self.pool.now l.fn.self.lengths.now) ≡ any (same l.fn.name) (cut_roles l.rest (drop l.n-index l.fn.self.lengths.now))
