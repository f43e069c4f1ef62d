-- What the functions say that read the items of a file, and what reading all of it answers.
use Rattle.std.specs.Prelude.{◌≡◌, List, [], ◌∷◌, ℕ, Result, Ok, Err}
use Rattle.spec_token.specs.declared.Kind.{Kind}
use Rattle.spec_grammar.specs.declared.Role.{Role}
use Rattle.spec_grammar.specs.Reader.{Stack, Expected, perhaps, often, item, named, no_role, string_list, rules, braced, start}
use Rattle.load_tokens.specs.declared.Token.{Token}
use Rattle.load_tokens.specs.Views.{kept}
use Rattle.load_elements.specs.declared.Parser.{Parser}
use Rattle.load_elements.specs.Parse.{Parsed, parsed, stopped_at, parse}
use Rattle.load_elements.specs.Reads.{kinds_of, roles_of, parse_on}

-- a group: its word, its name, and its part in braces, which need not come
abbrev pub group : Kind → Role → Expected → Stack
group word name x = no_role word ∷ named name (perhaps x ∷ [])

-- x is a list of strings with this role, in braces
abbrev pub Members : Role → Expected → Type 0
Members role x = rules x ≡ braced (string_list role)

-- what reading answers: each token's role, or where it stops
abbrev pub answered : List Token → Result Unit ℕ → Parsed
answered ts (Ok u) = parsed (roles_of ts)
answered ts (Err i) = stopped_at i

-- items were read from p₀ on, and more may follow at p
pub record Items (p₀ p : Parser) : Type 0 where
  pub same : parse_on p₀.tokens.now p₀.at (often item ∷ []) ≡ parse_on p.tokens.now p.at (often item ∷ [])
  pub others : kept p.tokens.now ≡ kept p₀.tokens.now
  pub lent : p.tokens.ghost_name ≡ p₀.tokens.ghost_name

-- all that is left was read
pub record Ends (p p' : Parser) (r : Result Unit ℕ) : Type 0 where
  pub answer : parse_on p.tokens.now p.at start ≡ answered p'.tokens.now r
  pub others : kept p'.tokens.now ≡ kept p.tokens.now
  pub lent : p'.tokens.ghost_name ≡ p.tokens.ghost_name

-- The tokens ts were read: their roles stand in ts', or reading stops at a token, and the roles are scratch. All else is as it was.
pub record Answers (ts ts' : List Token) (r : Result Unit ℕ) : Type 0 where
  pub answer : parse (kinds_of ts) ≡ answered ts' r
  pub others : kept ts' ≡ kept ts
