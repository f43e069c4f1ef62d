use Rattle.std.proofs.Common.{[], ◌∷◌, ℕ, ◌+◌, sym, ap, ap₂, add-zero}
use Rattle.spec_lists.specs.Words.{spelled_out}
use Rattle.load_records.specs.laws.Cursors.{emitted}
use Rattle.load_records.specs.laws.Steps.{count_until}
use Rattle.load_records.proofs.GroupEntry.put.Goals as goal

pub returns : goal.returns
returns c =
    let a = c.args in
    let pre = c.requires.ready in
    let counted = count_until a.tokens.now a.role a.self.now.member (a.i + 1) a.to c.end_of-e.result pre.head pre.part c.count-k.result c.end_of-e.ensures.end c.count-k.ensures.exact in
    emitted
    c.put_words-at.ensures
    (ap₂ (λ (l n : ℕ). spelled_out (a.p.string ∷ l ∷ a.p.first ∷ n ∷ [])) c.long-len.ensures counted)
    (ap (λ (n : ℕ). a.p.string + n) c.long-len.ensures)
    (ap (λ (n : ℕ). a.p.first + n) counted)
    (sym (add-zero _))
