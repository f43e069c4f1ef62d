use Rattle.std.specs.Prelude.{Some, is_none, is_some, ◌&&◌, [], ◌∷◌}
use Rattle.std.proofs.Common.{refl, sym, ap}
use Rattle.spec_token.specs.declared.Kind.TheVariants.{Uag, Hag, Calc}
use Rattle.spec_grammar.specs.declared.Role.TheVariants.{UnknownPredicate}
use Rattle.spec_grammar.specs.Reader.{headed, perhaps, block, inner}
use Rattle.load_elements.specs.Reads.{kind_at, name_of, expected}
use Rattle.load_elements.specs.laws.Cases.{none_of, none_of_true}
use Rattle.load_elements.specs.laws.Stacks.{next_name, named}
use Rattle.load_elements.specs.laws.Tokens.{when_next, when_as}
use Rattle.load_elements.proofs.Refused.{refused_when}
use Rattle.load_rules.proofs.rule_item.Goals as goal

pub returns-in_default : goal.returns-in_default
returns-in_default c = refused_when (λ n. is_none (name_of n)) refl (ap is_none (sym c.in_default.ensures)) (λ k. (tt, tt, tt, tt, tt, tt, refl, refl, tt, refl, refl, refl, refl, refl, refl))

pub returns-in-Uag : goal.returns-in-Uag
returns-in-Uag c = when_next (Some Uag) (next_name Uag (kind_at c.args.p.now) (rw c.in-Uag.is at c.in-Some.ensures)) c.groups.ensures (λ k. refl)

pub returns-in-Hag : goal.returns-in-Hag
returns-in-Hag c = when_next (Some Hag) (next_name Hag (kind_at c.args.p.now) (rw c.in-Hag.is at c.in-Some.ensures)) c.groups-in-Hag.ensures (λ k. refl)

pub returns-in-Calc : goal.returns-in-Calc
returns-in-Calc c = when_next (Some Calc) (next_name Calc (kind_at c.args.p.now) (rw c.in-Calc.is at c.in-Some.ensures)) c.named.ensures (λ k. refl)

pub returns-in_default-name : goal.returns-in_default-name
returns-in_default-name c = when_as (λ n. is_some (name_of n) && none_of (Uag ∷ Hag ∷ Calc ∷ []) n) (λ x. expected x UnknownPredicate ∷ headed (perhaps (block inner) ∷ []))
    (next_name c.in-Some.name (kind_at c.args.p.now) c.in-Some.ensures)
    (rw (named c.in-Some.name (kind_at c.args.p.now) c.in-Some.ensures) (none_of_true (Uag ∷ Hag ∷ Calc ∷ []) c.in-Some.name (c.in_default-name.not-Uag, (c.in_default-name.not-Hag, (c.in_default-name.not-Calc, tt)))))
    c.predicate.ensures (λ k. (tt, tt, refl, refl, tt, refl, tt, tt, refl, tt, tt, tt, tt, tt, tt))
