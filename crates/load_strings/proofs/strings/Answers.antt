use Rattle.std.proofs.Common.{arith, refl, [], ◌∷◌}
use Rattle.spec_token.specs.declared.Kind.TheVariants.{Comma}
use Rattle.spec_grammar.specs.Reader.{often, next_string, string}
use Rattle.load_elements.specs.laws.Stacks.{next_is}
use Rattle.load_elements.specs.laws.Tokens.{unread, then, stops, unless, at, not_begun, goes_on, ends}
use Rattle.load_strings.proofs.strings.Goals as goal

pub returns-in_err-expect : goal.returns-in_err-expect
returns-in_err-expect c = stops _ c.in_err-expect.ensures c.from_residual.ensures.1

pub loop-role-init : goal.loop-role-init
loop-role-init c = not_begun _ _

pub returns-in_err-expect-2 : goal.returns-in_err-expect-2
returns-in_err-expect-2 c = then c.in_ok-expect.ensures (ends c.loop-role.invariant (at Comma c.next_is.ensures c.loop-role-test.true (stops (string c.args.role ∷ often (next_string c.args.role) ∷ []) c.in_err-expect-2.ensures c.from_residual-in_err-expect-2.ensures.1) (λ k. refl)))

pub returns-in_err-expect-3 : goal.returns-in_err-expect-3
returns-in_err-expect-3 c = then c.in_ok-expect.ensures (ends c.loop-role.invariant (at Comma c.next_is.ensures c.loop-role-test.true (then c.in_ok-expect-2.ensures (stops (often (next_string c.args.role) ∷ []) c.in_err-expect-3.ensures c.from_residual-in_err-expect-3.ensures.1)) (λ k. refl)))

pub loop-role-smaller : goal.loop-role-smaller
loop-role-smaller c = omega (arith, c.in_ok-expect-2.ensures.fewer, c.in_ok-expect-3.ensures.fewer)

pub loop-role-preserved : goal.loop-role-preserved
loop-role-preserved c = goes_on c.loop-role.invariant _ (next_is Comma _ c.next_is.ensures c.loop-role-test.true) (then c.in_ok-expect-2.ensures c.in_ok-expect-3.ensures) (λ k. refl)

pub returns : goal.returns
returns c = then c.in_ok-expect.ensures (ends c.loop-role.invariant (unless Comma c.next_is.ensures c.loop-role-test.false unread (λ k. (refl, refl, refl, refl, refl, refl, refl, refl, refl, refl, refl, refl, refl, tt, refl))))
