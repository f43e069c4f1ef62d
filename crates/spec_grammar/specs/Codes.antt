-- Codes of the kinds and the roles, so that two can be compared and arrays can keep them.
use Rattle.std.specs.Prelude.{Bool, ℕ, eqb}
use Rattle.spec_grammar.specs.declared.Role.{Role}
use Rattle.spec_grammar.specs.declared.Role.TheVariants.{NoRole, UagName, User, HagName, Host, AsgName, Input, Pvname, RuleWord, Level, Permission}
use Rattle.spec_grammar.specs.declared.Role.TheVariants.{LogOption, UagNamed, HagNamed, CalcWord, Calculation, UnknownItem, UnknownPredicate}
use Rattle.spec_token.specs.declared.Kind.{Kind}
use Rattle.spec_token.specs.declared.Kind.TheVariants as kind

abbrev pub role_number : Role → ℕ
role_number NoRole = 0
role_number UagName = 1
role_number User = 2
role_number HagName = 3
role_number Host = 4
role_number AsgName = 5
role_number Input = 6
role_number Pvname = 7
role_number RuleWord = 8
role_number Level = 9
role_number Permission = 10
role_number LogOption = 11
role_number UagNamed = 12
role_number HagNamed = 13
role_number CalcWord = 14
role_number Calculation = 15
role_number UnknownItem = 16
role_number UnknownPredicate = 17

abbrev pub same_role : Role → Role → Bool
same_role a b = eqb (role_number a) (role_number b)

-- the kinds, numbered, so that two can be compared
abbrev pub kind_number : Kind → ℕ
kind_number kind.Uag = 0
kind_number kind.Hag = 1
kind_number kind.Asg = 2
kind_number kind.Rule = 3
kind_number kind.Calc = 4
kind_number kind.Inp = 5
kind_number kind.Int = 6
kind_number kind.Float = 7
kind_number kind.String = 8
kind_number kind.OpenParen = 9
kind_number kind.CloseParen = 10
kind_number kind.OpenBrace = 11
kind_number kind.CloseBrace = 12
kind_number kind.Comma = 13

abbrev pub same_kind : Kind → Kind → Bool
same_kind a b = eqb (kind_number a) (kind_number b)
