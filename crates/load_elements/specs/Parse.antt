-- Parsing by kinds alone: the roles of the tokens, in their order, or the index of the token at which parsing stops.
use Rattle.std.specs.Prelude.{cond, List, [], ◌∷◌, ◌++◌, ℕ, suc}
use Rattle.spec_token.specs.declared.Kind.{Kind}
use Rattle.spec_grammar.specs.declared.Role.{Role}
use Rattle.spec_grammar.specs.Reader.{Stack, Step, halt, go, step, may_end, start}

pub data Parsed : Type 0 where
  parsed : List Role → Parsed
  stopped_at : ℕ → Parsed

-- parsing goes on behind the token of index i, or stops at it
abbrev pub parse_step : Step → ℕ → (Stack → Role → Parsed) → Parsed
parse_step halt i f = stopped_at i
parse_step (go r k) i f = f k r

-- the kinds xs parsed from the stack k on; i tokens with these roles were parsed before
unfoldable pub parse_from : Stack → ℕ → List Role → List Kind → Parsed
parse_from k i roles [] = cond (may_end k) (parsed roles) (stopped_at i)
parse_from k i roles (x ∷ xs) = parse_step (step k x) i (λ j r. parse_from j (suc i) (roles ++ (r ∷ [])) xs)

-- a file's kinds, parsed
unfoldable pub parse : List Kind → Parsed
parse xs = parse_from start 0 [] xs
