use Rattle.std.proofs.Common.{not, ap, ◌∙◌, le-leb}
use Rattle.reg_refuse.specs.laws.Refused.{client_absent, beyond_absent}
use Rattle.reg_refuse.proofs.has_no_client.Goals as goal

pub returns-then-p-ge-PLACES : goal.returns-then-p-ge-PLACES
returns-then-p-ge-PLACES c = le-leb 64 c.args.p c.if-p-ge-PLACES.true ∙ beyond_absent c.args.places.now c.args.p c.if-p-ge-PLACES.true

pub returns-else-p-ge-PLACES : goal.returns-else-p-ge-PLACES
returns-else-p-ge-PLACES c = ap not c.is_taken.ensures ∙ client_absent c.args.places.now c.args.p c.if-p-ge-PLACES.false
