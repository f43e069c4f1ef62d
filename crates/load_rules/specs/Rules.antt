-- The shapes that the functions read that read a rule.
use Rattle.std.specs.Prelude.{[], ◌∷◌}
use Rattle.spec_token.specs.declared.Kind.TheVariants as kind
use Rattle.spec_grammar.specs.declared.Role.TheVariants as role
use Rattle.spec_grammar.specs.Production.{◌tagged◌}
use Rattle.spec_grammar.specs.Reader.{Stack, once, token, no_role, string, log_option}

-- what follows the level in a rule_head
abbrev pub permission : Stack
permission = no_role kind.Comma ∷ string role.Permission ∷ once log_option ∷ []

-- RULE and rule_head
abbrev pub rule_head : Stack
rule_head = once (token (kind.Rule tagged role.RuleWord)) ∷ no_role kind.OpenParen ∷ once (token (kind.Int tagged role.Level)) ∷ permission
