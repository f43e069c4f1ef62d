use Rattle.std.specs.Prelude.{Some, is_none, is_some, [], ◌∷◌, ◌++◌}
use Rattle.std.proofs.Common.{arith, inl, inr, refl, sym, ap}
use Rattle.spec_token.specs.declared.Kind.TheVariants.{OpenParen, CloseBrace}
use Rattle.spec_grammar.specs.declared.Role.TheVariants.{NoRole}
use Rattle.spec_grammar.specs.Reader.{perhaps, often, block, block_element, inner, no_role}
use Rattle.load_elements.specs.Reads.{kind_at, name_of, expected}
use Rattle.load_elements.specs.laws.Cases.{chosen}
use Rattle.load_elements.specs.laws.Stacks.{next_name, named}
use Rattle.load_elements.specs.laws.Tokens.{unread, then, stops, when, when_as, SameStepAs, no_promise, not_begun, then_begun, goes_on, ends}
use Rattle.load_blocks.specs.Blocks.{nested_elements}
use Rattle.load_blocks.proofs.+nested.Goals as goal

pub loop-p-init : goal.loop-p-init
loop-p-init t c = not_begun _ _

pub returns-in_err-arguments-in-Nested : goal.returns-in_err-arguments-in-Nested
returns-in_err-arguments-in-Nested t c = rw c.in-Nested.is (no_promise (ends c.loop-p.invariant (stops (perhaps (block inner) ∷ often block_element ∷ no_role CloseBrace ∷ []) c.in_err-arguments-in-Nested.ensures c.from_residual.ensures.1)))

pub returns-in_err-within-in-Nested : goal.returns-in_err-within-in-Nested
returns-in_err-within-in-Nested t c = rw c.in-Nested.is (no_promise (ends c.loop-p.invariant (then c.in_ok-arguments-in-Nested.ensures (stops (often block_element ∷ no_role CloseBrace ∷ []) (c.in_err-within-in-Nested.ensures.at_depth inner) c.from_residual-in_err-within-in-Nested.ensures.1))))

pub nested-requires : goal.nested-requires
nested-requires t c = (omega (arith, c.loop-p.invariant.fewer, c.in_ok-arguments-in-Nested.ensures.fewer, (c.in_ok-within-in-Nested.ensures.at_depth inner).fewer, c.decreases), tt)

pub returns-in_err-nested-in-Nested : goal.returns-in_err-nested-in-Nested
returns-in_err-nested-in-Nested t c = rw c.in-Nested.is (no_promise (ends c.loop-p.invariant (then c.in_ok-arguments-in-Nested.ensures (stops (often block_element ∷ no_role CloseBrace ∷ []) (ends (c.in_ok-within-in-Nested.ensures.at_depth inner) c.in_err-nested-in-Nested.ensures) c.from_residual-in_err-nested-in-Nested.ensures.1))))

pub returns-in_default : goal.returns-in_default
returns-in_default t c = rw c.in-Nested.is (no_promise (ends c.loop-p.invariant (then c.in_ok-arguments-in-Nested.ensures (then (ends (c.in_ok-within-in-Nested.ensures.at_depth inner) c.in_ok-nested-in-Nested.ensures) (when (λ n. is_none (name_of n)) refl (ap is_none (sym c.in_default.ensures)) c.expect.ensures (λ k. (tt, tt, tt, tt, tt, tt, refl, refl, tt, refl, refl, refl, refl, refl, refl)))))))

pub returns-in_err-expect-in-Nested : goal.returns-in_err-expect-in-Nested
returns-in_err-expect-in-Nested t c = rw c.in-Nested.is (no_promise (ends c.loop-p.invariant (then c.in_ok-arguments-in-Nested.ensures (then (ends (c.in_ok-within-in-Nested.ensures.at_depth inner) c.in_ok-nested-in-Nested.ensures) (when_as (λ n. is_some (name_of n)) (λ x. expected x NoRole ∷ no_role OpenParen ∷ nested_elements) (next_name _ _ c.in-Some.ensures) (named c.in-Some.name (kind_at c.nested.new.p) c.in-Some.ensures) (stops (no_role OpenParen ∷ nested_elements) c.in_err-expect-in-Nested.ensures c.from_residual-in_err-expect-in-Nested.ensures.1) (λ k. (refl, refl, refl, refl, refl, refl, tt, tt, refl, tt, tt, tt, tt, tt, tt)))))))

pub loop-p-smaller : goal.loop-p-smaller
loop-p-smaller t c = omega (arith, c.in_ok-arguments-in-Nested.ensures.fewer, (c.in_ok-within-in-Nested.ensures.at_depth inner).fewer, c.in_ok-nested-in-Nested.ensures.fewer, c.in_ok-expect-in-Nested.ensures.fewer, c.in_ok-expect-in-Nested-2.ensures.fewer)

pub loop-p-preserved : goal.loop-p-preserved
loop-p-preserved t c = goes_on (then_begun (then_begun c.loop-p.invariant c.in_ok-arguments-in-Nested.ensures) (ends (c.in_ok-within-in-Nested.ensures.at_depth inner) c.in_ok-nested-in-Nested.ensures)) _ (next_name _ _ c.in-Some.ensures) (then c.in_ok-expect-in-Nested.ensures c.in_ok-expect-in-Nested-2.ensures)
    (λ k. chosen (λ n. is_some (name_of n)) (SameStepAs (often block_element ∷ no_role CloseBrace ∷ k) (λ x. expected x NoRole ∷ no_role OpenParen ∷ (nested_elements ++ k))) (refl, refl, refl, refl, refl, refl, tt, tt, refl, tt, tt, tt, tt, tt, tt) (Some c.in-Some.name) (named c.in-Some.name (kind_at c.nested.new.p) c.in-Some.ensures))

pub returns-in_err-expect-in-Nested-2 : goal.returns-in_err-expect-in-Nested-2
returns-in_err-expect-in-Nested-2 t c = rw c.in-Nested.is (no_promise (ends c.loop-p.invariant (then c.in_ok-arguments-in-Nested.ensures (then (ends (c.in_ok-within-in-Nested.ensures.at_depth inner) c.in_ok-nested-in-Nested.ensures) (when_as (λ n. is_some (name_of n)) (λ x. expected x NoRole ∷ no_role OpenParen ∷ nested_elements) (next_name _ _ c.in-Some.ensures) (named c.in-Some.name (kind_at c.nested.new.p) c.in-Some.ensures) (then c.in_ok-expect-in-Nested.ensures (stops nested_elements c.in_err-expect-in-Nested-2.ensures c.from_residual-in_err-expect-in-Nested-2.ensures.1)) (λ k. (refl, refl, refl, refl, refl, refl, tt, tt, refl, tt, tt, tt, tt, tt, tt)))))))

pub returns : goal.returns
returns t c = elim c.in-One.is [ inl e ↦ rw e unread | inr e ↦ rw e unread ]
