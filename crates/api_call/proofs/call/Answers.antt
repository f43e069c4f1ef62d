use Rattle.api_script.specs.laws.Script.{load_made, list_made, export_made, other_made}
use Rattle.api_script.specs.Script.{script_of}
use Rattle.api_script.specs.Replies.{lent_of}
use native.Mathlib.Omega.{arith}
use lib.ListN.{length}
use mathlib.Core.Path.{refl}
use Rattle.api_call.proofs.call.Goals as goal

pub returns-then-what-eq0 : goal.returns-then-what-eq0
returns-then-what-eq0 c = let a = c.args in
    load_made (script_of a.script.now a.pool.now a.levels.now a.states.now a.values.now (length a.text.now)) a.i (lent_of a.lent.now a.numbers.now a.places.now a.text.now) c.word-what.ensures c.text_at-a.ensures c.if-what-eq0.true c.load.ensures

pub returns-then-what-eq1 : goal.returns-then-what-eq1
returns-then-what-eq1 c = let a = c.args in
    list_made (script_of a.script.now a.pool.now a.levels.now a.states.now a.values.now (length a.text.now)) a.i (lent_of a.lent.now a.numbers.now a.places.now a.text.now) c.word-what.ensures c.text_at-a.ensures c.if-what-eq1.true c.word-skip.ensures c.list_warnings.ensures

pub returns-then-what-eq2 : goal.returns-then-what-eq2
returns-then-what-eq2 c = let a = c.args in
    export_made (script_of a.script.now a.pool.now a.levels.now a.states.now a.values.now (length a.text.now)) a.i (lent_of a.lent.now a.numbers.now a.places.now a.text.now) c.word-what.ensures c.if-what-eq2.true refl c.export.ensures

pub returns : goal.returns
returns c = let a = c.args in
    other_made (script_of a.script.now a.pool.now a.levels.now a.states.now a.values.now (length a.text.now)) a.i (lent_of a.lent.now a.numbers.now a.places.now a.text.now) c.word-what.ensures c.text_at-a.ensures (omega arith) c.text_at-b.ensures c.text_at-c.ensures c.text_at-roles.ensures c.text_at-lengths.ensures c.word-skip.ensures c.level-n.ensures c.word.ensures c.readings-rs.ensures c.call_reading.ensures
