use Rattle.std.proofs.Common.{rules, ◌∙◌}
use Rattle.load_causes.specs.laws.Cause.{judged, answered, one_error}
use Rattle.load_causes.proofs.by_causes.Goals as goal

pub returns-in_err-refuse-clause-judged : goal.returns-in_err-refuse-clause-judged
returns-in_err-refuse-clause-judged c =
    let s = c.args.t.now.text.now in
    let ts = c.args.t.now.list.now in
    let a1 = answered s ts _ _ c.too_long.ensures c.refuse.ensures ∙ c.in_err-refuse.was in
    judged s ts (rw a1 (search rules))

pub returns-in_err-refuse-2-clause-judged : goal.returns-in_err-refuse-2-clause-judged
returns-in_err-refuse-2-clause-judged c =
    let s = c.args.t.now.text.now in
    let ts = c.args.t.now.list.now in
    let a1 = answered s ts _ _ c.too_long.ensures c.refuse.ensures ∙ c.in_ok-refuse.was in
    let a2 = answered s ts _ _ c.too_many.ensures c.refuse-2.ensures ∙ c.in_err-refuse-2.was in
    judged s ts (rw (a1, a2) (search rules))

pub returns-in_err-refuse-3-clause-judged : goal.returns-in_err-refuse-3-clause-judged
returns-in_err-refuse-3-clause-judged c =
    let s = c.args.t.now.text.now in
    let ts = c.args.t.now.list.now in
    let a1 = answered s ts _ _ c.too_long.ensures c.refuse.ensures ∙ c.in_ok-refuse.was in
    let a2 = answered s ts _ _ c.too_many.ensures c.refuse-2.ensures ∙ c.in_ok-refuse-2.was in
    let a3 = answered s ts _ _ c.given_again.ensures.value c.refuse-3.ensures ∙ c.in_err-refuse-3.was in
    judged s ts (rw (a1, a2, a3) (search rules))

pub returns-in_err-refuse-4-clause-judged : goal.returns-in_err-refuse-4-clause-judged
returns-in_err-refuse-4-clause-judged c =
    let s = c.args.t.now.text.now in
    let ts = c.args.t.now.list.now in
    let a1 = answered s ts _ _ c.too_long.ensures c.refuse.ensures ∙ c.in_ok-refuse.was in
    let a2 = answered s ts _ _ c.too_many.ensures c.refuse-2.ensures ∙ c.in_ok-refuse-2.was in
    let a3 = answered s ts _ _ c.given_again.ensures.value c.refuse-3.ensures ∙ c.in_ok-refuse-3.was in
    let a4 = answered s ts _ _ c.undefined_group.ensures.value c.refuse-4.ensures ∙ c.in_err-refuse-4.was in
    judged s ts (rw (a1, a2, a3, a4) (search rules))

pub returns-in_err-refuse-5-clause-judged : goal.returns-in_err-refuse-5-clause-judged
returns-in_err-refuse-5-clause-judged c =
    let s = c.args.t.now.text.now in
    let ts = c.args.t.now.list.now in
    let a1 = answered s ts _ _ c.too_long.ensures c.refuse.ensures ∙ c.in_ok-refuse.was in
    let a2 = answered s ts _ _ c.too_many.ensures c.refuse-2.ensures ∙ c.in_ok-refuse-2.was in
    let a3 = answered s ts _ _ c.given_again.ensures.value c.refuse-3.ensures ∙ c.in_ok-refuse-3.was in
    let a4 = answered s ts _ _ c.undefined_group.ensures.value c.refuse-4.ensures ∙ c.in_ok-refuse-4.was in
    let a5 = answered s ts _ _ c.bad_level.ensures c.refuse-5.ensures ∙ c.in_err-refuse-5.was in
    judged s ts (rw (a1, a2, a3, a4, a5) (search rules))

pub returns-in_err-refuse-6-clause-judged : goal.returns-in_err-refuse-6-clause-judged
returns-in_err-refuse-6-clause-judged c =
    let s = c.args.t.now.text.now in
    let ts = c.args.t.now.list.now in
    let a1 = answered s ts _ _ c.too_long.ensures c.refuse.ensures ∙ c.in_ok-refuse.was in
    let a2 = answered s ts _ _ c.too_many.ensures c.refuse-2.ensures ∙ c.in_ok-refuse-2.was in
    let a3 = answered s ts _ _ c.given_again.ensures.value c.refuse-3.ensures ∙ c.in_ok-refuse-3.was in
    let a4 = answered s ts _ _ c.undefined_group.ensures.value c.refuse-4.ensures ∙ c.in_ok-refuse-4.was in
    let a5 = answered s ts _ _ c.bad_level.ensures c.refuse-5.ensures ∙ c.in_ok-refuse-5.was in
    let a6 = answered s ts _ _ c.unknown_word.ensures c.refuse-6.ensures ∙ c.in_err-refuse-6.was in
    judged s ts (rw (a1, a2, a3, a4, a5, a6) (search rules))

pub returns-clause-judged : goal.returns-clause-judged
returns-clause-judged c =
    let s = c.args.t.now.text.now in
    let ts = c.args.t.now.list.now in
    let a1 = answered s ts _ _ c.too_long.ensures c.refuse.ensures ∙ c.in_ok-refuse.was in
    let a2 = answered s ts _ _ c.too_many.ensures c.refuse-2.ensures ∙ c.in_ok-refuse-2.was in
    let a3 = answered s ts _ _ c.given_again.ensures.value c.refuse-3.ensures ∙ c.in_ok-refuse-3.was in
    let a4 = answered s ts _ _ c.undefined_group.ensures.value c.refuse-4.ensures ∙ c.in_ok-refuse-4.was in
    let a5 = answered s ts _ _ c.bad_level.ensures c.refuse-5.ensures ∙ c.in_ok-refuse-5.was in
    let a6 = answered s ts _ _ c.unknown_word.ensures c.refuse-6.ensures ∙ c.in_ok-refuse-6.was in
    let a7 = answered s ts _ _ c.bad_calculation.ensures c.refuse-7.ensures in
    judged s ts (rw (a1, a2, a3, a4, a5, a6, a7) (one_error c.refuse-7.result))
