use Rattle.std.proofs.Common.{rules, ◌∙◌}
use borrow.Author.Tests.{tests}
use Rattle.std.proofs.lemmas.Iterator.{YieldsList-from_slice}
use Rattle.std.proofs.lemmas.Iterator.Search.{all_from_yields_List}
use Rattle.calc_letters.specs.laws.Given.{byte_given, all_bytes}
use Rattle.calc_letters.proofs.letters_given.Goals as goal

pub returns : goal.returns
returns c = let given = c.args.given.now in
    let s = c.args.s.now in
    all_from_yields_List (byte_given given) c.all.new.self _ _ c.all.ensures.ran (YieldsList-from_slice s cc) (λ x r q k. search (rules, tests))
    ∙ all_bytes given s
