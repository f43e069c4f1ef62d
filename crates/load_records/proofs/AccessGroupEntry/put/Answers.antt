use Rattle.std.proofs.Common.{[], ◌∷◌, ℕ, ◌+◌, ◌∙◌, ap, ap₂, length, arith}
use Rattle.spec_grammar.specs.declared.Role.TheVariants.{Input, RuleWord}
use Rattle.spec_lists.specs.Words.{spelled_out}
use Rattle.load_spans.specs.Spans.{text_of}
use Rattle.load_records.specs.laws.Cursors.{emitted}
use Rattle.load_records.specs.laws.Steps.{count_until}
use Rattle.load_records.proofs.AccessGroupEntry.put.Goals as goal

pub returns : goal.returns
returns c =
    let a = c.args in
    let t = a.tokens.now in
    let pre = c.requires.ready in
    let end = c.end_of-e in
    let inputs = count_until t a.role Input (a.i + 1) a.to end.result pre.head (record { some = omega arith; known = omega arith }) c.count-inputs.result end.ensures.end c.count-inputs.ensures.exact in
    let rules = count_until t a.role RuleWord (a.i + 1) a.to end.result pre.head (record { some = omega arith; known = omega arith }) c.count-rules.result end.ensures.end c.count-rules.ensures.exact in
    emitted
    c.put_words-at.ensures
    (ap (λ (l : ℕ). spelled_out (a.p.string ∷ l ∷ a.p.first ∷ c.count-inputs.result ∷ a.p.second ∷ c.count-rules.result ∷ [])) c.long-len.ensures
    ∙ ap₂ (λ (n k : ℕ). spelled_out (a.p.string ∷ length (text_of t.text.now t.list.now a.i) ∷ a.p.first ∷ n ∷ a.p.second ∷ k ∷ [])) inputs rules)
    (ap (λ (n : ℕ). a.p.string + n) c.long-len.ensures)
    (ap (λ (n : ℕ). a.p.first + n) inputs)
    (ap (λ (n : ℕ). a.p.second + n) rules)
