use Rattle.std.proofs.Common.{arith}
use Rattle.spec_grammar.specs.declared.Role.TheVariants.{RuleWord}
use Rattle.load_tokens.specs.laws.Same.{says, says_other}
use Rattle.load_spans.specs.laws.Tokens.{fits}
use Rattle.load_records.specs.laws.Bounds.{bounded_more}
use Rattle.load_passes.specs.laws.Loops.{rules_end, rules_hit, rules_miss, rules_start}
use Rattle.load_passes.proofs.references_alone.Goals as goal
use Rattle.load_passes.proofs.references_alone.Goals.{then-eq, else-eq}

pub loop-i-init : goal.loop-i-init
loop-i-init g c = rules_start _ _ _ _ _ _ _ _ _ _ _ c.requires.bounded

pub rule_references-p-requires-clause-bounded : goal.rule_references-p-requires-clause-bounded
rule_references-p-requires-clause-bounded g c = bounded_more (omega (arith, c.args.tokens.now.few)) c.loop-i.invariant.bounded

pub loop-i-preserved : goal.loop-i-preserved
loop-i-preserved g c =
    let t = c.args.tokens.now in
    let i = c.loop-i.i in
    let h = c.loop-i.invariant in
    let go = c.loop-i-test.true in
    elim c.if-eq.branch [
      | then-eq w ↦
          rw (w.lent-is, w.p-is)
          (rules_hit _ _ _ _ _ _ _ _ _ _ _ (fits t) go (says t.list.now i RuleWord c.eq.ensures w.if-eq.true) h w.rule_references-p.ensures)
      | else-eq w ↦ rw (w.lent-is, w.p-is) (rules_miss _ _ _ _ _ _ _ _ _ _ _ go (says_other t.list.now i RuleWord c.eq.ensures w.if-eq.false) h)
    ]

pub returns : goal.returns
returns g c = rules_end _ _ _ _ _ _ _ _ _ _ _ c.loop-i-test.false c.loop-i.invariant
