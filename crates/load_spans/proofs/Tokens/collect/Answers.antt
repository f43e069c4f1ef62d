use Rattle.std.proofs.Common.{length}
use Rattle.spec_grammar.specs.Codes.{role_number}
use Rattle.load_tokens.specs.Views.{roles}
use Rattle.load_tokens.specs.laws.Same.{says, says_other}
use Rattle.load_spans.specs.laws.Listed.{list_first, list_hit, list_miss, list_end}
use Rattle.load_spans.proofs.Tokens.collect.Goals as goal
use Rattle.load_spans.proofs.Tokens.collect.Goals.{then-eq, else-eq}

pub loop-i-init : goal.loop-i-init
loop-i-init c = list_first (role_number c.args.role) (roles c.args.self.now.list.now) c.args.names.now (length c.args.self.now.list.now)

pub loop-i-preserved : goal.loop-i-preserved
loop-i-preserved c =
    let ts = c.args.self.now.list.now in
    let q = role_number c.args.role in
    elim c.if-eq.branch [
      | then-eq w ↦ rw (w.names-is, w.k-is)
          (list_hit q (roles ts) c.args.names.now (length ts) c.loop-i-test.true (says ts c.loop-i.i c.args.role c.eq.ensures w.if-eq.true) w.keep.ensures c.loop-i.invariant)
      | else-eq w ↦ rw (w.names-is, w.k-is)
          (list_miss q (roles ts) c.args.names.now (length ts) c.loop-i-test.true (says_other ts c.loop-i.i c.args.role c.eq.ensures w.if-eq.false) c.loop-i.invariant)
    ]

pub returns : goal.returns
returns c =
    let ts = c.args.self.now.list.now in
    list_end (role_number c.args.role) (roles ts) c.args.names.now (length ts) c.loop-i-test.false c.loop-i.invariant
