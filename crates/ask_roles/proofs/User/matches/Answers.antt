use Rattle.std.proofs.Common.{◌∙◌}
use Rattle.ask_roles.specs.laws.Member.{matched_by_role, matched_by_user}
use Rattle.ask_roles.proofs.User.matches.Goals as goal

pub returns-in-Some : goal.returns-in-Some
returns-in-Some c = let p = c.in-Some.ensures.cases in c.contain.ensures ∙ matched_by_role _ _ c.args.member.now p.0 p.1

pub returns-in-None : goal.returns-in-None
returns-in-None c = c.equal.ensures ∙ matched_by_user _ _ c.args.member.now c.in-None.ensures.cases
