use Rattle.std.proofs.Common.{List, ◌+◌, ◌≤◌, ◌∙◌, ap, sym, length, arith}
use Rattle.spec_lists.proofs.laws.Same.{unchanged}
use Rattle.spec_grammar.specs.Sentence.{Tagged}
use Rattle.load_flags.specs.Tokens.{first_text}
use Rattle.load_records.specs.laws.Cursors.{emitted_text}
use Rattle.load_records.specs.laws.Steps.{cut_part, first_text_short}
use Rattle.load_records.proofs.FirstTextEntry.put.Goals as goal

pub put_string-requires : goal.put_string-requires
put_string-requires c =
    let a = c.args in
    let pre = c.requires.ready in
    let short : length c.first_text-text.result.now ≤ 16384 = rw c.first_text-text.ensures (first_text_short a.tokens.now a.role a.self.now.of (a.i + 1) a.to c.end_of-e.result pre.head pre.part) in
    (pre.bounded, omega arith)

pub returns : goal.returns
returns c =
    let a = c.args in
    let pre = c.requires.ready in
    let cut = cut_part a.tokens.now a.role a.self.now.of (a.i + 1) a.to c.end_of-e.result pre.head pre.part c.end_of-e.ensures.end in
    emitted_text
    (unchanged c.first_text-text.result.now ∙ c.first_text-text.ensures ∙ ap (λ (x : List Tagged). first_text a.self.now.of x) (sym cut))
    c.put_string.ensures
