use Rattle.std.proofs.Common.{eqb, get_or, refl, sym, ◌∙◌, rules, tests}
use Rattle.std.proofs.lemmas.Iterator.{YieldsList-from_range}
use Rattle.std.proofs.lemmas.Iterator.Search.{find_from_yields_List}
use Rattle.spec_places.specs.Storage.{at_place}
use Rattle.reg_bytes.specs.laws.Free.{same_option, free_first}
use Rattle.reg_bytes.proofs.lowest_free.Goals as goal

pub returns : goal.returns
returns c =
    sym (same_option c.find.result)
    ∙ find_from_yields_List (λ p. eqb (get_or c.args.places.now (at_place p) 0) 0) _ _ c.find.result c.find.ensures.ran (YieldsList-from_range 0 64 _ refl refl) (λ x b q k. search (rules, tests))
    ∙ free_first c.args.places.now
