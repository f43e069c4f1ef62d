use Rattle.std.proofs.Common.{◌∙◌, sym}
use Rattle.spec_file.specs.Limit.{item_of}
use Rattle.load_limits.specs.laws.Count.{section_back, section_none, counting_first, many_here, count_on, count_none}
use Rattle.load_limits.proofs.too_many.Goals as goal
use Rattle.load_limits.proofs.too_many.Goals.{in-Some+else-most-counts, in_default}

pub loop-i-init : goal.loop-i-init
loop-i-init c = counting_first c.args.t.now.text.now c.args.t.now.list.now

pub returns-then-most-counts : goal.returns-then-most-counts
returns-then-most-counts c =
    let e = section_back (item_of _) (sym c.section_of.ensures ∙ c.in-Some.is) in
    many_here _ _ c.loop-i.invariant c.loop-i-test.true e (rw (← c.most.ensures, ← c.order-k.ensures) c.if-most-counts.true)

pub loop-i-preserved : goal.loop-i-preserved
loop-i-preserved c =
    elim c.match-section_of.branch [
      | in-Some+else-most-counts w ↦
          rw (w.counts-is, w.order-k.ensures)
          (count_on _ _ c.loop-i.invariant c.loop-i-test.true (section_back (item_of _) (sym c.section_of.ensures ∙ w.in-Some.is))
          (rw (← w.most.ensures, ← w.order-k.ensures) w.if-most-counts.false))
      | in_default w ↦
          rw w.counts-is (count_none _ _ c.loop-i.invariant c.loop-i-test.true (section_none (item_of _) (sym c.section_of.ensures ∙ w.in_default.is)))
    ]
