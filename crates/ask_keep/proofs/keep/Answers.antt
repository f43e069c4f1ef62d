use Rattle.std.specs.Int.{from_bool}
use Rattle.std.proofs.Common.{Bool, true, false, ◌≡◌, ◌+◌, ◌∙◌, [], refl, ap, arith, length-set}
use Rattle.std.proofs.lemmas.List.Edits.{sets}
use Rattle.spec_rule.specs.Kept.{bit}
use Rattle.spec_rule.specs.Rule.{stands}
use Rattle.ask_rule.specs.Rules.{question}
use Rattle.ask_checked.specs.laws.Group.{rule_stored}
use Rattle.ask_kept.specs.Kept.{client_bits}
use Rattle.ask_kept.specs.laws.Kept.{rules_few, stores_turn, stores_done}
use Rattle.ask_keep.proofs.keep.Goals as goal

as_bit : (b : Bool) → from_bool b ≡ bit b
as_bit true = refl
as_bit false = refl

pub loop-i-init : goal.loop-i-init
loop-i-init c =
    let a = c.args in
    let z : a.at ≡ a.at + 0 = omega arith in
    (refl, ap (λ k. sets a.kept.now k (client_bits a.table.now a.group a.user.now a.host.now a.level)) z)

pub stands-requires : goal.stands-requires
stands-requires c =
    rule_stored c.args.table.now c.args.group c.requires.0 (c.run-rules.result.start + c.loop-i.i) (omega (arith, c.len-i-end.ensures.value, c.run-rules.ensures.start, c.run-rules.ensures.end))

pub bounds-kept-at : goal.bounds-kept-at
bounds-kept-at c =
    omega (arith, rules_few c.args.table.now c.args.group c.requires.0, c.len-i-end.ensures.value, c.run-rules.ensures.start, c.run-rules.ensures.end)

pub loop-i-preserved : goal.loop-i-preserved
loop-i-preserved c =
    let a = c.args in
    let q = question a.user.now a.host.now [] a.level [] in (
      length-set c.loop-i.kept (a.at + c.loop-i.i) c.from.result ∙ c.loop-i.invariant.0,
      stores_turn
          a.table.now
          a.group
          c.requires.0
          (λ r. bit (stands q r))
          c.loop-i.kept
          (a.at + c.loop-i.i)
          c.loop-i.i
          (omega (arith, c.len-i-end.ensures.value, c.run-rules.ensures.start, c.run-rules.ensures.end))
          (omega arith)
          (c.from.ensures ∙ as_bit c.stands.result ∙ ap bit (rw c.run-rules.ensures.start at c.stands.ensures))
          c.loop-i.invariant.1,
    )

pub returns : goal.returns
returns c =
    let a = c.args in
    let q = question a.user.now a.host.now [] a.level [] in
    stores_done
    a.table.now
    a.group
    c.requires.0
    (λ r. bit (stands q r))
    c.loop-i.kept
    (a.at + c.loop-i.i)
    c.loop-i.i
    (omega (arith, c.len-i-end.ensures.value, c.run-rules.ensures.start, c.run-rules.ensures.end))
    c.loop-i.invariant.1
