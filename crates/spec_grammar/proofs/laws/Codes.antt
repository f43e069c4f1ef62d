-- Comparing two kinds or two roles by their codes is comparing them.
use Rattle.std.specs.Prelude.{◌≡◌, refl, true, ◌↔◌, List, [], ◌∷◌, ℕ, get_or}
use Rattle.std.proofs.Common.{sym, ap, ◌∙◌, eqb-true}
use Rattle.spec_token.specs.declared.Kind.{Kind}
use Rattle.spec_token.specs.declared.Kind.TheVariants as kind
use Rattle.spec_grammar.specs.declared.Role.{Role}
use Rattle.spec_grammar.specs.declared.Role.TheVariants as role
use Rattle.spec_grammar.specs.Codes.{role_number, kind_number, same_role, same_kind}

-- ---- kinds

abbrev kinds : List Kind
kinds =
    kind.Uag ∷ kind.Hag ∷ kind.Asg ∷ kind.Rule ∷ kind.Calc ∷ kind.Inp ∷ kind.Int
    ∷ kind.Float ∷ kind.String ∷ kind.OpenParen ∷ kind.CloseParen ∷ kind.OpenBrace ∷ kind.CloseBrace ∷ kind.Comma ∷ []

-- a kind is the one at its code
kind_at : (x : Kind) → get_or kinds (kind_number x) kind.Uag ≡ x
kind_at kind.Uag = refl
kind_at kind.Hag = refl
kind_at kind.Asg = refl
kind_at kind.Rule = refl
kind_at kind.Calc = refl
kind_at kind.Inp = refl
kind_at kind.Int = refl
kind_at kind.Float = refl
kind_at kind.String = refl
kind_at kind.OpenParen = refl
kind_at kind.CloseParen = refl
kind_at kind.OpenBrace = refl
kind_at kind.CloseBrace = refl
kind_at kind.Comma = refl

kind_self : (x : Kind) → same_kind x x ≡ true
kind_self kind.Uag = refl
kind_self kind.Hag = refl
kind_self kind.Asg = refl
kind_self kind.Rule = refl
kind_self kind.Calc = refl
kind_self kind.Inp = refl
kind_self kind.Int = refl
kind_self kind.Float = refl
kind_self kind.String = refl
kind_self kind.OpenParen = refl
kind_self kind.CloseParen = refl
kind_self kind.OpenBrace = refl
kind_self kind.CloseBrace = refl
kind_self kind.Comma = refl

pub same_kind_is : (x y : Kind) → (same_kind x y ≡ true) ↔ (x ≡ y)
same_kind_is x y = (λ e. sym (kind_at x) ∙ (ap (λ (n : ℕ). get_or kinds n kind.Uag) (eqb-true (kind_number x) (kind_number y) e) ∙ kind_at y), λ e. ap (same_kind x) (sym e) ∙ kind_self x)

-- ---- roles

abbrev roles : List Role
roles =
    role.NoRole ∷ role.UagName ∷ role.User ∷ role.HagName ∷ role.Host ∷ role.AsgName ∷ role.Input
    ∷ role.Pvname ∷ role.RuleWord ∷ role.Level ∷ role.Permission ∷ role.LogOption ∷ role.UagNamed ∷ role.HagNamed
    ∷ role.CalcWord ∷ role.Calculation ∷ role.UnknownItem ∷ role.UnknownPredicate ∷ []

-- a role is the one at its code
role_at : (x : Role) → get_or roles (role_number x) role.NoRole ≡ x
role_at role.NoRole = refl
role_at role.UagName = refl
role_at role.User = refl
role_at role.HagName = refl
role_at role.Host = refl
role_at role.AsgName = refl
role_at role.Input = refl
role_at role.Pvname = refl
role_at role.RuleWord = refl
role_at role.Level = refl
role_at role.Permission = refl
role_at role.LogOption = refl
role_at role.UagNamed = refl
role_at role.HagNamed = refl
role_at role.CalcWord = refl
role_at role.Calculation = refl
role_at role.UnknownItem = refl
role_at role.UnknownPredicate = refl

role_self : (x : Role) → same_role x x ≡ true
role_self role.NoRole = refl
role_self role.UagName = refl
role_self role.User = refl
role_self role.HagName = refl
role_self role.Host = refl
role_self role.AsgName = refl
role_self role.Input = refl
role_self role.Pvname = refl
role_self role.RuleWord = refl
role_self role.Level = refl
role_self role.Permission = refl
role_self role.LogOption = refl
role_self role.UagNamed = refl
role_self role.HagNamed = refl
role_self role.CalcWord = refl
role_self role.Calculation = refl
role_self role.UnknownItem = refl
role_self role.UnknownPredicate = refl

pub same_role_is : (x y : Role) → (same_role x y ≡ true) ↔ (x ≡ y)
same_role_is x y = (λ e. sym (role_at x) ∙ (ap (λ (n : ℕ). get_or roles n role.NoRole) (eqb-true (role_number x) (role_number y) e) ∙ role_at y), λ e. ap (same_role x) (sym e) ∙ role_self x)
