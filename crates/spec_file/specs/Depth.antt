-- The braces rule, over the tokens before any grammar. 01, "Load refusals, in their order", 3.
use Rattle.std.specs.Prelude.{cond, List, [], ◌∷◌, ℕ, ◌+◌, ◌-◌, leb}
use Rattle.std.proofs.Math.Option.{Option, none, some}
use Rattle.spec_token.specs.declared.Kind.{Kind}
use Rattle.spec_token.specs.declared.Kind.TheVariants as kind
use Rattle.spec_grammar.specs.Codes.{same_kind}
use Rattle.spec_token.specs.Token.{Token}
use Rattle.spec_file.specs.Limit.{most_braces}

-- 01: "For 3, a closing brace with none open counts for nothing."
abbrev pub opened : Kind → ℕ → ℕ
opened k n = cond (same_kind k kind.OpenBrace) (n + 1) (cond (same_kind k kind.CloseBrace) (n - 1) n)

-- 3: the brace that makes more than 16 open at once, n being open before
abbrev pub too_deep : ℕ → List Token → Option ℕ
too_deep n [] = none
too_deep n (t ∷ ts) = cond (leb (opened t.kind n) most_braces) (too_deep (opened t.kind n) ts) (some t.place)
