use Rattle.std.specs.Prelude.{not, [], ◌∷◌}
use Rattle.std.proofs.Common.{sym, ap, ◌∙◌, refl}
use Rattle.spec_grammar.specs.declared.Role.TheVariants.{NoRole}
use Rattle.load_elements.specs.Reads.{is_element, expected}
use Rattle.load_elements.specs.laws.Tokens.{when_as}
use Rattle.load_elements.proofs.Refused.{refused_when}
use Rattle.load_elements.proofs.Parser.element.Goals as goal
use Rattle.load_elements.proofs.Parser.element.Goals.{in_default-via-in-Some+else-is_element, in_default-via-in_default}

pub returns-in-Some : goal.returns-in-Some
returns-in-Some c =
    when_as is_element (λ x. expected x NoRole ∷ []) c.in-Some.ensures (sym c.is_element.ensures ∙ c.if-is_element.true) c.expect.ensures
    (λ k. (refl, refl, refl, refl, refl, refl, refl, refl, refl, tt, tt, tt, tt, tt, tt))

pub returns-in_default : goal.returns-in_default
returns-in_default c = elim c.in_default.branch [
  | in_default-via-in-Some+else-is_element w ↦
      refused_when (λ n. not (is_element n)) w.in-Some.ensures (ap not (sym w.is_element.ensures ∙ w.if-is_element.false))
      (λ k. (tt, tt, tt, tt, tt, tt, tt, tt, tt, refl, refl, refl, refl, refl, refl))
  | in_default-via-in_default w ↦
      refused_when (λ n. not (is_element n)) w.in_default.ensures refl
      (λ k. (tt, tt, tt, tt, tt, tt, tt, tt, tt, refl, refl, refl, refl, refl, refl))
]
