use Rattle.std.proofs.Common.{refl, arith}
use Rattle.calc_numeral.specs.laws.Stand.{stands, differs}
use Rattle.calc_numeral.specs.laws.Numerals.{fraction_many, fraction_none, fraction_point, fraction_is}
use Rattle.calc_numeral.proofs.fraction_at.Goals as goal
use Rattle.calc_numeral.proofs.fraction_at.Goals.{then-d-at-via-then-d-at, then-d-at-via-else-d-at+then-stands_at}

pub returns-in_err-d : goal.returns-in_err-d
returns-in_err-d c = let a = c.args in
    rw c.from_residual.ensures (λ w lw ew. fraction_many a.s.now a.at a.left a.n w lw ew c.in_err-d.ensures)

pub returns-then-d-at : goal.returns-then-d-at
returns-then-d-at c = λ w lw ew. let a = c.args in
    elim c.then-d-at.branch [
      | then-d-at-via-then-d-at v ↦ fraction_none a.s.now a.at a.left a.n w lw ew c.in_ok-d.ensures v.if-d-at.true
      | then-d-at-via-else-d-at+then-stands_at v ↦ fraction_point a.s.now a.at a.left a.n w lw ew c.in_ok-d.ensures refl (stands a.s.now c.in_ok-d.d.end 46 v.stands_at.ensures v.if-stands_at.true)
    ]

pub returns : goal.returns
returns c = λ w lw ew. let a = c.args in
    fraction_is a.s.now a.at a.left a.n w lw ew c.in_ok-d.ensures refl (differs a.s.now c.in_ok-d.d.end 46 c.stands_at.ensures (omega arith) c.if-stands_at.false) c.if-d-at.false c.decimal_of.ensures
