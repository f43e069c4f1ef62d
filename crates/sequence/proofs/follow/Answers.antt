use Rattle.api_script.specs.laws.Script.{call_within, followed_none, followed_more, followed_all}
use native.Mathlib.Omega.{arith}
use mathlib.Core.Path.{refl}
use borrow.Author.Rules.{rules}
use Rattle.sequence.proofs.follow.Goals as goal

pub loop-i-init : goal.loop-i-init
loop-i-init c = (refl, (refl, (refl, (refl, followed_none _ _ _))))

pub call-requires : goal.call-requires
call-requires c = call_within _ _ c.loop-i-test.true

pub loop-i-preserved : goal.loop-i-preserved
loop-i-preserved c = (
  search rules,
  (
    search rules,
    (
      search rules,
      (
        search rules,
        followed_more _ _ _ c.loop-i.invariant.1.1.1.1 c.loop-i-test.true c.loop-i.invariant.1.1.1.0 c.call.ensures.left,
      ),
    ),
  ),
)

pub returns : goal.returns
returns c = followed_all _ _ _ c.loop-i.invariant.1.1.1.1 c.loop-i-test.false
