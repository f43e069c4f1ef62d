use Rattle.spec_grammar.specs.declared.Role.TheVariants.{AsgName, Input}
use Rattle.load_tokens.specs.laws.Same.{says, says_other}
use Rattle.load_calcs.specs.laws.Input.{gathers_stop, gathers_input, gathers_on, gathers_none}
use Rattle.load_calcs.proofs.letters_from.Goals as goal
use Rattle.load_calcs.proofs.letters_from.Goals.{then-eq-2, else-eq-2}

pub returns-then-eq : goal.returns-then-eq
returns-then-eq c =
    gathers_stop _ _ _ _ c.loop-i-test.true (says c.args.t.now.list.now c.loop-i.i AsgName c.eq.ensures c.if-eq.true) c.loop-i.invariant

pub loop-i-preserved : goal.loop-i-preserved
loop-i-preserved c =
    let ts = c.args.t.now.list.now in
    let i = c.loop-i.i in
    elim c.if-eq-2.branch [
      | then-eq-2 w ↦
          rw (w.given-is, w.give.ensures)
          (gathers_input _ _ _ _ c.loop-i-test.true (says ts i Input c.eq-in-loop-i.ensures w.if-eq-2.true) w.letter.ensures c.loop-i.invariant)
      | else-eq-2 w ↦
          rw w.given-is
          (gathers_on _ _ _ _ c.loop-i-test.true (says_other ts i AsgName c.eq.ensures c.if-eq.false) (says_other ts i Input c.eq-in-loop-i.ensures w.if-eq-2.false)
          c.loop-i.invariant)
    ]

pub returns : goal.returns
returns c = gathers_none _ _ _ _ c.loop-i-test.false c.loop-i.invariant
