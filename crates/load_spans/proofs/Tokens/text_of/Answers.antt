use Rattle.load_tokens.specs.laws.Views.{start_at, end_at}
use Rattle.load_spans.proofs.Tokens.text_of.Goals as goal

pub text-requires : goal.text-requires
text-requires c =
    let ts = c.args.self.now.list.now in
    (rw (← start_at ts c.args.i, ← end_at ts c.args.i) (c.args.self.now.in_order c.args.i c.requires), rw (← end_at ts c.args.i) (c.args.self.now.inside c.args.i c.requires))
