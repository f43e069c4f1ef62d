use Rattle.std.proofs.Common.{sym}
use Rattle.calc_numeral.specs.laws.Stand.{stands, stands_inside, differs}
use Rattle.calc_symbol.specs.laws.Lookaheads.{mark_here, mark_missing}
use Rattle.calc_symbol.proofs.mark_at.Goals as goal

pub returns-then-stands_at : goal.returns-then-stands_at
returns-then-stands_at c = let a = c.args in
    let p = c.skip_blanks-p.result in
    mark_here a.s.now a.at c.skip_blanks-p.ensures (sym (stands a.s.now p a.b c.stands_at.ensures c.if-stands_at.true))
    (stands_inside a.s.now p a.b c.stands_at.ensures c.if-stands_at.true)

pub returns-else-stands_at : goal.returns-else-stands_at
returns-else-stands_at c = let a = c.args in
    mark_missing a.s.now a.at c.skip_blanks-p.ensures
    (λ h. differs a.s.now c.skip_blanks-p.result a.b c.stands_at.ensures h c.if-stands_at.false)
