-- What each token of a list has, as lists of numbers.
use Rattle.std.specs.Prelude.{List, map, ℕ}
use Rattle.spec_token.specs.declared.Kind.TheVariants as kind
use Rattle.spec_grammar.specs.declared.Role.TheVariants as role
use Rattle.spec_grammar.specs.Codes.{kind_number, role_number}
use Rattle.load_tokens.specs.declared.Token.{Token}
use Rattle.load_tokens.specs.Arrays.{Arrays}

abbrev pub kinds : List Token → List ℕ
kinds ts = map (λ (t : Token). kind_number t.kind) ts

abbrev pub places : List Token → List ℕ
places ts = map (λ (t : Token). t.place) ts

abbrev pub starts : List Token → List ℕ
starts ts = map (λ (t : Token). t.start) ts

abbrev pub ends : List Token → List ℕ
ends ts = map (λ (t : Token). t.end) ts

abbrev pub roles : List Token → List ℕ
roles ts = map (λ (t : Token). role_number t.role) ts

-- all of them but the roles
abbrev pub kept : List Token → Arrays
kept ts = record { kinds = kinds ts; places = places ts; starts = starts ts; ends = ends ts }

-- what stands where there is no token
abbrev pub blank : Token
blank = record { kind = kind.Uag; role = role.NoRole; place = 0; start = 0; end = 0 }
