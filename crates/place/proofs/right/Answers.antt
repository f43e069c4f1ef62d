use Rattle.std.proofs.Common.{sym, ap, ◌∙◌}
use Rattle.reg_bytes.specs.laws.Placed.{placed}
use Rattle.spec_places.proofs.laws.Records.{right_read, right_beyond}
use Rattle.spec_rule.specs.Number.{decision_from}
use Rattle.place.proofs.right.Goals as goal
use Rattle.place.proofs.right.Goals.{then-not-has_places-via-then-not-has_places, then-not-has_places-via-else-not-has_places+then-place-ge-PLACES}

pub returns-then-not-has_places : goal.returns-then-not-has_places
returns-then-not-has_places c = elim c.then-not-has_places.branch [ then-not-has_places-via-then-not-has_places w ↦ c.from_number.ensures ∙ rw (sym c.has_places.ensures ∙ w.if-not-has_places.true) | then-not-has_places-via-else-not-has_places+then-place-ge-PLACES w ↦ c.from_number.ensures ∙ sym (right_beyond c.args.places.now c.args.place w.if-place-ge-PLACES.true) ]

pub right-requires : goal.right-requires
right-requires c = let a = c.args in placed a.places.now a.place (sym c.has_places.ensures ∙ c.if-not-has_places.false) c.if-place-ge-PLACES.false

pub returns : goal.returns
returns c = let a = c.args in let h = placed a.places.now a.place (sym c.has_places.ensures ∙ c.if-not-has_places.false) c.if-place-ge-PLACES.false in c.from_number-2.ensures ∙ ap decision_from c.right.ensures ∙ sym (right_read a.places.now a.place h.room h.inside)
