use Rattle.load_groups.specs.laws.Undefined.{first_group}
use Rattle.load_groups.proofs.undefined_group.Goals as goal

pub returns-clause-value : goal.returns-clause-value
returns-clause-value c =
    let e = first_group c.args.t.now.text.now c.args.t.now.list.now in
    let u = c.undefined-uag.ensures in
    let h = c.undefined-hag.ensures in
    let l = c.earlier.ensures in
    cc
