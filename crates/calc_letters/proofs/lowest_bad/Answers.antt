use Rattle.std.proofs.Common.{rules, ap, sym, ◌∙◌}
use borrow.Author.Tests.{tests}
use Rattle.std.proofs.lemmas.Iterator.{YieldsList-from_slice}
use Rattle.std.proofs.lemmas.Iterator.Search.{any_from_yields_List}
use Rattle.std.proofs.lemmas.Iterator.Consumers.{YieldsList-from_filter_map, min_from_yields_List}
use Rattle.std.proofs.lemmas.Iterator.Adapters.{option_map_id}
use Rattle.calc_letters.specs.Letters.{as_found}
use Rattle.calc_letters.specs.laws.Lowest.{bad_of, is_a, a_found, lowest_found}
use Rattle.calc_letters.proofs.lowest_bad.Goals as goal

pub returns-then-any : goal.returns-then-any
returns-then-any c = let goods = c.args.goods.now in
    let s = c.args.s.now in
    let e = any_from_yields_List is_a _ _ _ c.any.ensures.ran (YieldsList-from_slice s cc) (λ x r q k. search (rules, tests)) in
    sym (a_found goods c.if-not-goods.true s (sym e ∙ c.if-any.true))

pub returns : goal.returns
returns c = let goods = c.args.goods.now in
    let s = c.args.s.now in
    let e = min_from_yields_List c.filter_map.result _ c.min.ensures.ran
    (YieldsList-from_filter_map _ (bad_of goods) (YieldsList-from_slice s cc) c.filter_map.ensures.closure (λ x r q k. search (rules, tests))) in
    ap as_found (sym (option_map_id c.min.result) ∙ e) ∙ lowest_found goods s
