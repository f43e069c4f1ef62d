use Rattle.load_spans.specs.Spans.{text_of}
use Rattle.load_flags.specs.laws.Numbers.{numbered_or}
use Rattle.load_flags.proofs.number_of.Goals as goal

pub returns : goal.returns
returns c =
    let at = text_of c.args.t.now.text.now c.args.t.now.list.now in
    let e = numbered_or at (at c.args.i) c.args.names.now in
    let h = c.position.ensures in
    let g = c.unwrap_or.ensures in
    cc
