use Rattle.std.specs.Prelude.{Some, None}
use Rattle.std.proofs.Common.{arith}
use Rattle.spec_calc.specs.Reader.{wanted}
use Rattle.calc_symbol.specs.declared.First.TheVariants.{Number, Letter}
use Rattle.calc_symbol.specs.laws.Lookaheads.{wanted_end, from_none, begins_from}
use Rattle.calc_symbol.specs.laws.Scans.{at_end, not_blank, next_figure, next_number, next_no_number, next_letter, next_other}
use Rattle.calc_symbol.proofs.first_at.Goals as goal

pub returns-in_err-b : goal.returns-in_err-b
returns-in_err-b c = let a = c.args in
    rw c.from_residual.ensures
    (begins_from a.s.now a.at c.skip_blanks-p.ensures None (wanted_end _ (at_end a.s.now c.skip_blanks-p.result c.in_err-b.ensures.lookup.3)))

pub number_at-requires : goal.number_at-requires
number_at-requires c = let b = c.in_ok-b.ensures.lookup in
    (b.3.0, next_figure c.args.s.now c.skip_blanks-p.result b.3.0 (b.4 (omega arith) 0) c.class_of.result c.class_of.ensures.0 c.in-Figure.is)

pub returns-in_err-v-in-Figure : goal.returns-in_err-v-in-Figure
returns-in_err-v-in-Figure c = let b = c.in_ok-b.ensures.lookup in
    let z = c.skip_blanks-p.ensures in
    rw c.from_residual-in_err-v-in-Figure.ensures
    (begins_from c.args.s.now c.args.at z None
    (λ k. from_none _ (next_no_number c.args.s.now c.skip_blanks-p.result b.3.0 (b.4 (omega arith) 0) c.class_of.result c.class_of.ensures.0 c.in-Figure.is c.in_err-v-in-Figure.ensures) (wanted k)))

pub returns-in-Blank : goal.returns-in-Blank
returns-in-Blank c = let b = c.in_ok-b.ensures.lookup in
    not_blank c.args.s.now c.skip_blanks-p.result b.3.0 (b.4 (omega arith) 0) c.class_of.result c.class_of.ensures.0 c.in-Blank.is c.skip_blanks-p.ensures.bare

pub returns-in_ok-v-in-Figure : goal.returns-in_ok-v-in-Figure
returns-in_ok-v-in-Figure c = let b = c.in_ok-b.ensures.lookup in
    let v = c.in_ok-v-in-Figure in
    begins_from c.args.s.now c.args.at c.skip_blanks-p.ensures (Some (Number v.v, v.n)) (next_number c.args.s.now c.skip_blanks-p.result b.3.0 (b.4 (omega arith) 0) c.class_of.result c.class_of.ensures.0 c.in-Figure.is v.ensures)

pub returns-in-Letter : goal.returns-in-Letter
returns-in-Letter c = let b = c.in_ok-b.ensures.lookup in
    begins_from c.args.s.now c.args.at c.skip_blanks-p.ensures (Some (Letter c.in-Letter.i, _)) (next_letter c.args.s.now c.skip_blanks-p.result b.3.0 (b.4 (omega arith) 0) c.class_of.result c.class_of.ensures.0 c.in-Letter.is c.class_of.ensures.1)

pub first_other-requires : goal.first_other-requires
first_other-requires c = let b = c.in_ok-b.ensures.lookup in
    (b.3.0, next_other c.args.s.now c.skip_blanks-p.result b.3.0 (b.4 (omega arith) 0) c.class_of.result c.class_of.ensures.0 c.in-Other.is)

pub returns-in-Other : goal.returns-in-Other
returns-in-Other c = begins_from c.args.s.now c.args.at c.skip_blanks-p.ensures c.first_other.result c.first_other.ensures
