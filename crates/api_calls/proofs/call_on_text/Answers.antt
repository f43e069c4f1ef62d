use Rattle.api_script.specs.laws.Script.{truth_called}
use Rattle.api_script.specs.Replies.{answer_to}
use Rattle.api_script.specs.declared.Reply.TheVariants as reply
use native.Mathlib.Omega.{arith}
use mathlib.Core.Path.{◌∙◌, ap}
use Rattle.api_calls.proofs.call_on_text.Goals as goal

pub returns-then-what-eq10 : goal.returns-then-what-eq10
returns-then-what-eq10 c room = rw c.if-what-eq10.true (ap reply.Allowed c.allowed.ensures)

pub returns-then-what-eq11 : goal.returns-then-what-eq11
returns-then-what-eq11 c room = rw c.if-what-eq11.true (ap reply.Valued c.value.ensures)

pub returns : goal.returns
returns c room = let a = c.args in
    let over = c.requires in
    ap reply.Holds c.holds.ensures
    ∙ ap (answer_to a.lent.now) (truth_called a.what a.a.now a.b.now a.c.now a.roles.now a.lengths.now a.skip a.n a.rs room (omega arith))
