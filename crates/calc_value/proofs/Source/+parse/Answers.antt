use Rattle.std.specs.Prelude.{refl}
use Rattle.std.proofs.Common.{subst, arith}
use Rattle.spec_calc.specs.Symbol.{colon, close_paren}
use Rattle.spec_calc.specs.Reader.{minus_of, not_of}
use Rattle.calc_symbol.specs.declared.First.{First}
use Rattle.calc_symbol.specs.declared.Joint.{Joint}
use Rattle.calc_symbol.specs.Lookahead.{BeginsAs, JoinsAs}
use Rattle.calc_value.specs.laws.Steps.{branches_is, other_is, operand_number, operand_letter, prefix_bad, minus_is, not_is, open_bad, open_missing, open_is}
use Rattle.calc_value.specs.laws.Steps.{rest_choice, rest_bad, rest_by}
use Rattle.calc_value.proofs.Source.+parse.Goals as goal

pub branches-other-requires : goal.branches-other-requires
branches-other-requires t c = let z = c.in_ok-x.ensures in
    let y = c.in_ok-p.ensures colon (λ y. refl) in
    (omega (arith, c.decreases, z.later, y.later, y.within), y.within)

pub branches-returns : goal.branches-returns
branches-returns t c = λ d e. let s = c.args.self.now in
    branches_is s.values.now s.text.now c.args.at d e c.in_ok-x.ensures c.other.result (c.in_ok-p.ensures colon (λ y. refl)) c.other.ensures

pub operand-returns-in_err-v-in-Minus : goal.operand-returns-in_err-v-in-Minus
operand-returns-in_err-v-in-Minus t c = let s = c.args.self.now in
    let y = subst (λ (f : First). BeginsAs s.text.now c.args.at f c.in_ok-first.p) c.in-Minus.is c.in_ok-first.ensures in
    rw c.from_residual-in_err-v-in-Minus.ensures (prefix_bad s.values.now s.text.now c.args.at minus_of refl y (λ k. refl) c.in_err-v-in-Minus.ensures)

pub operand-returns-in_err-w-in-Not : goal.operand-returns-in_err-w-in-Not
operand-returns-in_err-w-in-Not t c = let s = c.args.self.now in
    let y = subst (λ (f : First). BeginsAs s.text.now c.args.at f c.in_ok-first.p) c.in-Not.is c.in_ok-first.ensures in
    rw c.from_residual-in_err-w-in-Not.ensures (prefix_bad s.values.now s.text.now c.args.at not_of refl y (λ k. refl) c.in_err-w-in-Not.ensures)

pub operand-returns-in_err-x-in-Open : goal.operand-returns-in_err-x-in-Open
operand-returns-in_err-x-in-Open t c = let s = c.args.self.now in
    let y = subst (λ (f : First). BeginsAs s.text.now c.args.at f c.in_ok-first.p) c.in-Open.is c.in_ok-first.ensures in
    rw c.from_residual-in_err-x-in-Open.ensures (open_bad s.values.now s.text.now c.args.at y c.in_err-x-in-Open.ensures)

pub operand-returns-in_err-q-in-Open : goal.operand-returns-in_err-q-in-Open
operand-returns-in_err-q-in-Open t c = let s = c.args.self.now in
    let y = subst (λ (f : First). BeginsAs s.text.now c.args.at f c.in_ok-first.p) c.in-Open.is c.in_ok-first.ensures in
    rw c.from_residual-in_err-q-in-Open.ensures
    (open_missing s.values.now s.text.now c.args.at y c.in_ok-x-in-Open.ensures c.in_err-q-in-Open.ensures)

pub operand-returns-in-Number : goal.operand-returns-in-Number
operand-returns-in-Number t c = let s = c.args.self.now in
    operand_number s.values.now s.text.now c.args.at
    (subst (λ (f : First). BeginsAs s.text.now c.args.at f c.in_ok-first.p) c.in-Number.is c.in_ok-first.ensures)

pub operand-returns-in-Letter : goal.operand-returns-in-Letter
operand-returns-in-Letter t c = let s = c.args.self.now in
    let y = subst (λ (f : First). BeginsAs s.text.now c.args.at f c.in_ok-first.p) c.in-Letter.is c.in_ok-first.ensures in
    operand_letter s.values.now s.text.now c.args.at y.0 (omega (arith, y.1, s.whole, c.from.ensures)) (rw c.from.ensures)

pub operand-returns-in_ok-v-in-Minus : goal.operand-returns-in_ok-v-in-Minus
operand-returns-in_ok-v-in-Minus t c = let s = c.args.self.now in
    minus_is s.values.now s.text.now c.args.at
    (subst (λ (f : First). BeginsAs s.text.now c.args.at f c.in_ok-first.p) c.in-Minus.is c.in_ok-first.ensures) c.in_ok-v-in-Minus.ensures

pub operand-returns-in_ok-w-in-Not : goal.operand-returns-in_ok-w-in-Not
operand-returns-in_ok-w-in-Not t c = let s = c.args.self.now in
    not_is s.values.now s.text.now c.args.at
    (subst (λ (f : First). BeginsAs s.text.now c.args.at f c.in_ok-first.p) c.in-Not.is c.in_ok-first.ensures) c.in_ok-w-in-Not.ensures c.denied.ensures

pub operand-returns-in_ok-q-in-Open : goal.operand-returns-in_ok-q-in-Open
operand-returns-in_ok-q-in-Open t c = let s = c.args.self.now in
    open_is s.values.now s.text.now c.args.at
    (subst (λ (f : First). BeginsAs s.text.now c.args.at f c.in_ok-first.p) c.in-Open.is c.in_ok-first.ensures) c.in_ok-x-in-Open.ensures
    (c.in_ok-q-in-Open.ensures close_paren (λ y. refl))

pub other-returns : goal.other-returns
other-returns t c = λ d e x f. let s = c.args.self.now in other_is s.values.now s.text.now c.args.at d x e f c.in_ok-y.ensures c.chosen.ensures

pub rest-returns-in_err-u-in-By : goal.rest-returns-in_err-u-in-By
rest-returns-in_err-u-in-By t c = λ d e. let s = c.args.self.now in
    let y = subst (λ (j : Joint). JoinsAs s.text.now c.args.at c.args.l j c.in-Some.p) c.in-By.is c.in-Some.ensures in
    rw c.from_residual.ensures
    (rest_bad s.values.now s.text.now c.args.at c.args.l d e y.0 y.1 c.level_of.result c.level_of.ensures c.in_err-u-in-By.ensures)

pub rest-returns-in-Choice : goal.rest-returns-in-Choice
rest-returns-in-Choice t c = λ d e. let s = c.args.self.now in
    let y = subst (λ (j : Joint). JoinsAs s.text.now c.args.at c.args.l j c.in-Some.p) c.in-Choice.is c.in-Some.ensures in
    rest_choice s.values.now s.text.now c.args.at c.args.l d e c.branches.result y.0 y.1 c.branches.ensures

pub rest-returns-in_ok-u-in-By : goal.rest-returns-in_ok-u-in-By
rest-returns-in_ok-u-in-By t c = λ d e. let s = c.args.self.now in
    let y = subst (λ (j : Joint). JoinsAs s.text.now c.args.at c.args.l j c.in-Some.p) c.in-By.is c.in-Some.ensures in
    rest_by s.values.now s.text.now c.args.at c.args.l d e y.0 y.1 c.level_of.result c.level_of.ensures c.rest.result c.in_ok-u-in-By.ensures
    c.applied.ensures c.rest.ensures
