use Rattle.std.specs.Prelude.{Some, is_none, [], ◌∷◌}
use Rattle.std.proofs.Common.{refl}
use Rattle.spec_token.specs.declared.Kind.TheVariants.{Uag, Hag, Asg}
use Rattle.spec_grammar.specs.Reader.{users, hosts}
use Rattle.load_elements.specs.laws.Cases.{none_of, none_of_true}
use Rattle.load_elements.specs.laws.Tokens.{when_next, when}
use Rattle.load_elements.proofs.Refused.{refused_when}
use Rattle.load_parse.proofs.item.Goals as goal

pub returns-in_default : goal.returns-in_default
returns-in_default c = refused_when is_none c.in_default.ensures refl (λ k. (tt, tt, tt, tt, tt, tt, tt, tt, tt, tt, tt, tt, tt, tt, refl))

pub returns-in-Uag : goal.returns-in-Uag
returns-in-Uag c = when_next (Some Uag) (rw c.in-Uag.is at c.in-Some.ensures) (c.group.ensures users refl) (λ k. refl)

pub returns-in-Hag : goal.returns-in-Hag
returns-in-Hag c = when_next (Some Hag) (rw c.in-Hag.is at c.in-Some.ensures) (c.group-in-Hag.ensures hosts refl) (λ k. refl)

pub returns-in-Asg : goal.returns-in-Asg
returns-in-Asg c = when_next (Some Asg) (rw c.in-Asg.is at c.in-Some.ensures) c.asg.ensures (λ k. refl)

pub returns-in_default-kind : goal.returns-in_default-kind
returns-in_default-kind c = when (none_of (Uag ∷ Hag ∷ Asg ∷ [])) c.in-Some.ensures (none_of_true (Uag ∷ Hag ∷ Asg ∷ []) c.in-Some.kind (c.in_default-kind.not-Uag, (c.in_default-kind.not-Hag, (c.in_default-kind.not-Asg, tt))))
    c.unknown_item.ensures (λ k. (tt, tt, tt, refl, refl, refl, refl, refl, refl, refl, refl, refl, refl, refl, refl))
