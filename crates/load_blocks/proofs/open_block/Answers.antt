use Rattle.std.proofs.Common.{refl, [], ◌∷◌}
use Rattle.spec_token.specs.declared.Kind.TheVariants.{OpenBrace}
use Rattle.spec_grammar.specs.Reader.{once, block_inside}
use Rattle.load_elements.specs.laws.Stacks.{next_is}
use Rattle.load_elements.specs.laws.Tokens.{unread, no_promise, stops, at, unless, all_read}
use Rattle.load_blocks.specs.laws.Blocks.{opens_stops, opens_next, opens_behind, opens_no_promise}
use Rattle.load_blocks.proofs.open_block.Goals as goal

pub returns-then-not-next_is : goal.returns-then-not-next_is
returns-then-not-next_is c = record { at_depth = λ d. all_read (unless OpenBrace c.next_is.ensures c.if-not-next_is.true unread (λ k. (refl, refl, refl, refl, refl, refl, refl, refl, refl, refl, refl, tt, refl, refl, refl))) }

pub returns-in_err-expect : goal.returns-in_err-expect
returns-in_err-expect c = opens_stops (λ d. no_promise (at OpenBrace c.next_is.ensures c.if-not-next_is.false (stops (once (block_inside d) ∷ []) c.in_err-expect.ensures refl) (λ k. refl))) c.from_residual.ensures.1

pub returns : goal.returns
returns c = opens_no_promise (opens_next _ (next_is OpenBrace _ c.next_is.ensures c.if-not-next_is.false) (opens_behind c.in_ok-expect.ensures c.inside.ensures) (λ d k. refl))
