use Rattle.std.specs.Prelude.{not}
use Rattle.std.proofs.Common.{refl, sym, ap, ◌∙◌}
use Rattle.spec_token.specs.declared.Kind.TheVariants.{OpenParen}
use Rattle.load_elements.specs.Reads.{is_next}
use Rattle.load_elements.specs.laws.Stacks.{next_is}
use Rattle.load_elements.specs.laws.Tokens.{stops, at, begins}
use Rattle.load_blocks.specs.Blocks.{nested_elements}
use Rattle.load_blocks.specs.laws.Blocks.{opens_stops, opens_when}
use Rattle.load_blocks.proofs.after_name.Goals as goal

pub returns-in_err-expect : goal.returns-in_err-expect
returns-in_err-expect c = opens_stops (λ d. at OpenParen c.next_is.ensures c.if-next_is.true (stops nested_elements c.in_err-expect.ensures refl) (λ k. refl)) c.from_residual.ensures.1

pub returns-then-next_is : goal.returns-then-next_is
returns-then-next_is c = record { at_depth = λ d. begins _ (next_is OpenParen _ c.next_is.ensures c.if-next_is.true) c.in_ok-expect.ensures (λ k. refl) }

pub returns : goal.returns
returns c = opens_when (λ n. not (is_next OpenParen n)) refl (ap not (sym c.next_is.ensures ∙ c.if-next_is.false)) c.after_number.ensures (λ d k. (refl, refl, refl, refl, refl, refl, refl, refl, refl, tt, refl, refl, refl, refl, refl))
