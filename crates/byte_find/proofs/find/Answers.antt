use Rattle.std.proofs.Common.{rules, eqb, ap, ◌+◌, ◌∙◌, ℕ}
use borrow.Author.Tests.{tests}
use Rattle.std.specs.List.{between}
use Rattle.std.proofs.lemmas.Iterator.{YieldsList-from_slice}
use Rattle.std.proofs.lemmas.Iterator.Search.{position_from_yields_List}
use Rattle.byte_find.proofs.Position.{first_or_all}
use Rattle.byte_find.proofs.find.Goals as goal

pub returns-clause-first : goal.returns-clause-first
returns-clause-first c = let a = c.args in
    let e = position_from_yields_List (λ x. eqb x a.b) c.position.new.self _ _ c.position.ensures.ran
    (YieldsList-from_slice (between a.from a.to a.s.now) cc) (λ x r q k. search (rules, tests)) in
    ap (λ (n : ℕ). a.from + n) (c.unwrap_or.ensures ∙ first_or_all a.b a.from a.to a.s.now _ c.requires.in_bounds e)
