use Rattle.std.proofs.Common.{sym, ◌∙◌}
use Rattle.ask_roles.specs.laws.Lent.{too_many, fit_by}
use Rattle.ask_fit.proofs.fit.Goals as goal

pub returns-then-are_short : goal.returns-then-are_short
returns-then-are_short c =
    rw c.if-are_short.true at (fit_by c.args.roles.pool.now c.args.roles.lengths.now c.if-roles-gt-MOST_ROLES.false c.are_short.ensures c.total-end.ensures)

pub returns-else-are_short : goal.returns-else-are_short
returns-else-are_short c =
    c.if-are_short.false
    ∙ rw c.if-are_short.false at (fit_by c.args.roles.pool.now c.args.roles.lengths.now c.if-roles-gt-MOST_ROLES.false c.are_short.ensures c.total-end.ensures)

pub returns-then-roles-gt-MOST_ROLES : goal.returns-then-roles-gt-MOST_ROLES
returns-then-roles-gt-MOST_ROLES c = sym (too_many c.args.roles.pool.now c.args.roles.lengths.now c.if-roles-gt-MOST_ROLES.true)
