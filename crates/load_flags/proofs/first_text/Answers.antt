use Rattle.std.proofs.Common.{sym, ◌∙◌}
use Rattle.load_tokens.specs.Views.{starts, ends, roles}
use Rattle.load_spans.specs.Roles.{arrays}
use Rattle.load_flags.specs.laws.Firsts.{first_here, first_nowhere}
use Rattle.load_flags.proofs.first_text.Goals as goal

pub returns-then-i-to : goal.returns-then-i-to
returns-then-i-to c =
    let a = c.args in
    let ts = a.t.now.list.now in
    c.text_of.ensures
    ∙ sym (first_here a.t.now.text.now (arrays (starts ts) (ends ts)) (roles ts) a.role a.from a.to c.next-i.result c.requires.1 c.next-i.ensures c.if-i-to.true)

pub returns-else-i-to : goal.returns-else-i-to
returns-else-i-to c =
    let a = c.args in
    let ts = a.t.now.list.now in
    sym (first_nowhere a.t.now.text.now (arrays (starts ts) (ends ts)) (roles ts) a.role a.from a.to c.next-i.result c.requires.1 c.next-i.ensures c.if-i-to.false)
