use Rattle.load_repeats.specs.laws.Repeated.{first_again}
use Rattle.load_repeats.proofs.given_again.Goals as goal

pub returns-clause-value : goal.returns-clause-value
returns-clause-value c =
    let e = first_again c.args.t.now.text.now c.args.t.now.list.now in
    let u = c.name_repeated-name.ensures in
    let h = c.repeated-letter.ensures in
    let a = c.repeated-calc.ensures in
    let l = c.earlier.ensures in
    let m = c.earlier-2.ensures in
    cc
