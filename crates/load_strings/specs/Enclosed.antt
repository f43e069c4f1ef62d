-- What stands between two tokens.
use Rattle.std.specs.Prelude.{[], ◌∷◌}
use Rattle.spec_token.specs.declared.Kind.{Kind}
use Rattle.spec_token.specs.declared.Kind.TheVariants as kind
use Rattle.spec_grammar.specs.Reader.{Stack, no_role}

-- l between a token that opens and one that closes
abbrev pub enclosed : Kind → Kind → (Stack → Stack) → Stack
enclosed first last l = no_role first ∷ l (no_role last ∷ [])

-- "{" l "}"
abbrev pub in_braces : (Stack → Stack) → Stack
in_braces = enclosed kind.OpenBrace kind.CloseBrace

-- "(" l ")"
abbrev pub in_parens : (Stack → Stack) → Stack
in_parens = enclosed kind.OpenParen kind.CloseParen
