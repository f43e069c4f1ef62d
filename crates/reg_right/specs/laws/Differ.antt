-- Two rights that are read from bytes differ exactly if their numbers do.
use Rattle.std.specs.Prelude.{◌≡◌, refl, Bool, true, false, not, ℕ, ◌/◌, eqb}
use Rattle.std.proofs.Common.{sym, ap, ◌∙◌, eqb-true}
use Rattle.std.proofs.lemmas.Bool.{eqb-false}
use Rattle.spec_rule.specs.declared.Decision.{Decision}
use Rattle.spec_rule.specs.Number.{decision_number, decision_from}
use Rattle.spec_rule.proofs.laws.Number.{decision_again, letter_known}
use Rattle.spec_register.specs.Right.{differ}
use Rattle.spec_register.proofs.laws.Changed.{differ_self, differ_is}

read_again : (n : ℕ) → decision_from (decision_number (decision_from n)) ≡ decision_from n
read_again n = decision_again (decision_from n) (letter_known (n / 8))

pub differ_by_numbers :
    (m n : ℕ) → not (eqb (decision_number (decision_from m)) (decision_number (decision_from n))) ≡ differ (decision_from m) (decision_from n)
differ_by_numbers m n = go (eqb (decision_number (decision_from m)) (decision_number (decision_from n))) refl
  where
    one : Decision
    one = decision_from m

    other : Decision
    other = decision_from n

    go : (b : Bool) → eqb (decision_number one) (decision_number other) ≡ b → not b ≡ differ one other
    go true e =
        let z : one ≡ other = sym (read_again m) ∙ ap decision_from (eqb-true (decision_number one) (decision_number other) e) ∙ read_again n in
        sym (ap (differ one) (sym z) ∙ differ_self one)
    go false e = sym ((differ_is one other).1 (λ z. eqb-false (decision_number one) (decision_number other) e (ap decision_number z)))
