-- Tokens kept in arrays, one number for each of: kind, place, start and end of the text, role. The numbers are those of
-- spec_grammar/specs/Codes: kind_number, role_number.
use Rattle.std.specs.Prelude.{List, [], ◌∷◌, ℕ, zero, suc, ◌-◌, get_or, take, drop}
use Rattle.spec_token.specs.declared.Kind.{Kind}
use Rattle.spec_token.specs.declared.Kind.TheVariants as kind
use Rattle.spec_token.specs.Token.{Token}
use Rattle.spec_grammar.specs.declared.Role.{Role}
use Rattle.spec_grammar.specs.declared.Role.TheVariants as role
use Rattle.spec_grammar.specs.Sentence.{Tagged}

-- the kind of a number, and the role of one
abbrev pub kind_of_number : ℕ → Kind
kind_of_number n =
    get_or
    (kind.Uag ∷ kind.Hag ∷ kind.Asg ∷ kind.Rule ∷ kind.Calc ∷ kind.Inp ∷ kind.Int ∷ kind.Float ∷ kind.String ∷ kind.OpenParen ∷ kind.CloseParen ∷
    kind.OpenBrace ∷ kind.CloseBrace ∷ kind.Comma ∷ [])
    n
    kind.Comma

abbrev pub role_of_number : ℕ → Role
role_of_number n =
    get_or
    (role.NoRole ∷ role.UagName ∷ role.User ∷ role.HagName ∷ role.Host ∷ role.AsgName ∷ role.Input ∷ role.Pvname ∷ role.RuleWord ∷ role.Level ∷
    role.Permission ∷ role.LogOption ∷ role.UagNamed ∷ role.HagNamed ∷ role.CalcWord ∷ role.Calculation ∷ role.UnknownItem ∷ role.UnknownPredicate ∷ [])
    n
    role.NoRole

-- the arrays of a file's tokens
pub record Arrays : Type 0 where
  pub kinds : List ℕ
  pub places : List ℕ
  pub starts : List ℕ
  pub ends : List ℕ

-- a part of a text
abbrev pub between : List ℕ → ℕ → ℕ → List ℕ
between s a e = take (e - a) (drop a s)

-- the i-th token of a text s
abbrev pub token_at : List ℕ → Arrays → ℕ → Token
token_at s a i =
    record {
      kind = kind_of_number (get_or a.kinds i 0);
      place = get_or a.places i 0;
      text = between s (get_or a.starts i 0) (get_or a.ends i 0);
    }

-- n tokens from the i-th on
unfoldable pub tokens_from : List ℕ → Arrays → ℕ → ℕ → List Token
tokens_from s a i zero = []
tokens_from s a i (suc n) = token_at s a i ∷ tokens_from s a (suc i) n

-- what the i-th token says
abbrev pub tagged_at : List ℕ → Arrays → List ℕ → ℕ → Tagged
tagged_at s a roles i = record { token = token_at s a i; role = role_of_number (get_or roles i 0) }

unfoldable pub tagged_from : List ℕ → Arrays → List ℕ → ℕ → ℕ → List Tagged
tagged_from s a roles i zero = []
tagged_from s a roles i (suc n) = tagged_at s a roles i ∷ tagged_from s a roles (suc i) n
