use Rattle.std.proofs.Common.{[], ◌∷◌}
use Rattle.spec_token.specs.declared.Kind.TheVariants.{CloseBrace}
use Rattle.spec_grammar.specs.Reader.{often, rule_item, no_role}
use Rattle.load_elements.specs.Reads.{left, Begun}
use Rattle.load_rules.proofs.rule_block.Given as goal

abbrev pub invariant-loop-p : goal.invariant-loop-p
invariant-loop-p l = Begun 0 (often rule_item ∷ no_role CloseBrace ∷ []) (often rule_item ∷ no_role CloseBrace ∷ []) l.initial.p l.p

abbrev pub decreases-loop-p : goal.decreases-loop-p
decreases-loop-p l = left l.p
