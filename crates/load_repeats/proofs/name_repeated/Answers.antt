use Rattle.load_repeats.specs.laws.Repeated.{first_name}
use Rattle.load_repeats.proofs.name_repeated.Goals as goal

pub returns : goal.returns
returns c =
    let e = first_name c.args.t.now.text.now c.args.t.now.list.now in
    let u = c.repeated-uag.ensures in
    let h = c.repeated-hag.ensures in
    let a = c.repeated-asg.ensures in
    let l = c.earlier.ensures in
    let m = c.earlier-2.ensures in
    cc
