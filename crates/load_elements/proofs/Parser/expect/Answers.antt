use Rattle.load_elements.specs.laws.Stacks.{next_is}
use Rattle.load_elements.specs.laws.Tokens.{there, expect_read}
use Rattle.load_elements.proofs.Refused.{expect_refused}
use Rattle.std.proofs.Common.{arith, refl}
use Rattle.load_elements.proofs.Parser.expect.Goals as goal

pub returns-then-not-next_is : goal.returns-then-not-next_is
returns-then-not-next_is c = expect_refused c.args.role c.next_is.ensures c.if-not-next_is.true

pub offset_bounds-self-self : goal.offset_bounds-self-self
offset_bounds-self-self c = omega (arith, c.type_inv.self, there c.args.self.now.tokens.now c.args.self.now.at (next_is c.args.kind _ c.next_is.ensures c.if-not-next_is.false))

pub bounds-self-self : goal.bounds-self-self
bounds-self-self c = there c.args.self.now.tokens.now c.args.self.now.at (next_is c.args.kind _ c.next_is.ensures c.if-not-next_is.false)

pub overflow_add-self : goal.overflow_add-self
overflow_add-self c = omega (arith, c.type_inv.self, there c.args.self.now.tokens.now c.args.self.now.at (next_is c.args.kind _ c.next_is.ensures c.if-not-next_is.false))

pub returns : goal.returns
returns c = expect_read c.next_is.ensures c.if-not-next_is.false refl refl refl
