use Rattle.std.proofs.Common.{List, [], ◌∷◌, ℕ, ◌+◌, ◌∙◌, ap, ap₂, sym, add-zero, length}
use Rattle.spec_grammar.specs.declared.Role.TheVariants.{Pvname}
use Rattle.spec_grammar.specs.Sentence.{Tagged}
use Rattle.spec_lists.specs.Words.{spelled_out}
use Rattle.load_flags.specs.Tokens.{first_text}
use Rattle.load_records.specs.laws.Cursors.{emitted}
use Rattle.load_records.specs.laws.Steps.{cut_part}
use Rattle.load_records.proofs.InputEntry.put.Goals as goal

pub returns : goal.returns
returns c =
    let a = c.args in
    let pre = c.requires.ready in
    let cut = cut_part a.tokens.now a.role Pvname (a.i + 1) a.to c.end_of-e.result pre.head pre.part c.end_of-e.ensures.end in
    let long = ap length (c.first_text-len.ensures ∙ ap (λ (x : List Tagged). first_text Pvname x) (sym cut)) in
    emitted
    c.put_words-at.ensures
    (ap₂ (λ (k n : ℕ). spelled_out (k ∷ a.p.string ∷ n ∷ [])) c.letter.ensures long)
    (ap (λ (n : ℕ). a.p.string + n) long)
    (sym (add-zero _))
    (sym (add-zero _))
