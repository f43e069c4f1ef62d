-- What rules give one by one, before it is known what they give together: the first stops are kept until then. A machine; that it finds the decision is proved
-- (proofs/laws/Decision.antt: decision_settled), so nobody has to believe it.
use Rattle.std.specs.Prelude.{Bool, false, cond, List, eqb}
use Rattle.spec_rule.specs.declared.Access.{Access}
use Rattle.spec_rule.specs.declared.Access.TheVariants as access
use Rattle.spec_rule.specs.declared.Stop.{Stop}
use Rattle.spec_rule.specs.declared.Stop.TheVariants.{Nothing}
use Rattle.spec_rule.specs.declared.Outcome.{Outcome}
use Rattle.spec_rule.specs.declared.Outcome.TheVariants as outcomes
use Rattle.spec_rule.specs.declared.Decision.{Decision}
use Rattle.spec_rule.specs.declared.Verdict.{Verdict}
use Rattle.spec_rule.specs.Question.{Question}
use Rattle.spec_rule.specs.Rule.{Rule, rank, stands, greater, access_by, trap_by, outcome, stop_above, or_else, letter_by}
use Rattle.spec_rule.specs.Decision.{with_letter, granted}

abbrev pub verdict : Access → Bool → Stop → Stop → Verdict
verdict a t l h = record { access = a; trap = t; low = l; high = h }

abbrev pub nothing_given : Verdict
nothing_given = verdict access.None false Nothing Nothing

-- of a rule that offers a decision, by what its calculation comes to
abbrev pub by_outcome : Outcome → Decision → Verdict
by_outcome outcomes.True d = verdict d.access d.trap Nothing Nothing
by_outcome outcomes.False d = nothing_given
by_outcome (outcomes.Stopped i) d =
    verdict access.None false (stop_above access.None d.access (outcomes.Stopped i)) (stop_above access.Read d.access (outcomes.Stopped i))

abbrev pub by_rule : Question → Rule → Verdict
by_rule q r = cond (stands q r) (by_outcome (outcome q.readings r.calculation) (granted r)) nothing_given

-- of some rules, then others behind them: the greater access, the trap of the first that give WRITE, the first stops
abbrev pub then : Verdict → Verdict → Verdict
then v w =
    verdict
    (greater v.access w.access)
    (cond (eqb (rank v.access) (rank access.Write)) v.trap w.trap)
    (or_else v.low w.low)
    (or_else v.high w.high)

abbrev pub verdict_by : Question → List Rule → Verdict
verdict_by q rs = verdict (access_by q rs) (trap_by q rs) (letter_by q access.None rs) (letter_by q access.Read rs)

-- without the stops that its access has passed, and with a trap only if it is WRITE
abbrev pub normal_by : Access → Bool → Stop → Stop → Verdict
normal_by access.None t l h = verdict access.None false l h
normal_by access.Read t l h = verdict access.Read false Nothing h
normal_by access.Write t l h = verdict access.Write t Nothing Nothing

abbrev pub normal : Verdict → Verdict
normal v = normal_by v.access v.trap v.low v.high

-- the stop above an access
abbrev pub stop_at : Access → Stop → Stop → Stop
stop_at access.None l h = l
stop_at access.Read l h = h
stop_at access.Write l h = Nothing

-- the decision, where these are all the rules: a trap only with WRITE, and the first stop above the access
abbrev pub settled : Verdict → Decision
settled v = with_letter v.access (cond (eqb (rank v.access) (rank access.Write)) v.trap false) (stop_at v.access v.low v.high)
