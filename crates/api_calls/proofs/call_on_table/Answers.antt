use Rattle.api_script.specs.declared.Reply.TheVariants as reply
use lib.ListN.{length}
use native.Mathlib.Omega.{arith}
use mathlib.Core.Path.{◌≡◌, ap}
use Rattle.api_calls.proofs.call_on_table.Goals as goal

pub returns-then-what-eq3 : goal.returns-then-what-eq3
returns-then-what-eq3 c room = rw c.if-what-eq3.true (ap reply.Checked c.is_table.ensures)

pub returns-then-what-eq4 : goal.returns-then-what-eq4
returns-then-what-eq4 c room = rw c.if-what-eq4.true (ap reply.Answered c.decide.ensures)

pub returns-then-what-eq5 : goal.returns-then-what-eq5
returns-then-what-eq5 c room = rw c.if-what-eq5.true (ap reply.Answered c.ask_checked.ensures)

pub returns-then-what-eq6 : goal.returns-then-what-eq6
returns-then-what-eq6 c room = rw c.if-what-eq6.true (ap reply.Found c.find_input.ensures)

pub returns-then-what-eq7 : goal.returns-then-what-eq7
returns-then-what-eq7 c room = rw c.if-what-eq7.true (ap reply.Found c.find_checked.ensures)

pub returns-then-what-eq8 : goal.returns-then-what-eq8
returns-then-what-eq8 c room = rw c.if-what-eq8.true (ap reply.Named (ap length c.look_up-name.ensures))

pub returns : goal.returns
returns c room = let among = c.requires in
    let last : c.args.what ≡ 9 = omega arith in
    rw last (ap reply.Found c.group_at.ensures)
