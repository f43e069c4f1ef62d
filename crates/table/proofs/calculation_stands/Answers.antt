use Rattle.std.proofs.Common.{List, ℕ, not, refl, sym, ap, ◌∙◌}
use Rattle.table_records.specs.laws.Records.{calculation_inside, calculation_bytes, calculation_is}
use Rattle.spec_file.specs.Limit.{rules}
use Rattle.spec_table.specs.View.{view}
use Rattle.spec_table.specs.Policy.{row}
use Rattle.spec_calc.specs.Reader.{tree_of}
use Rattle.spec_lists.specs.Select.{missing}
use Rattle.table.proofs.calculation_stands.Goals as goal

pub returns-then-no_calculation : goal.returns-then-no_calculation
returns-then-no_calculation c = let b = c.args.b.now in sym (calculation_is b c.requires.stand (row (view b) rules c.args.i) c.field-first.ensures.is c.field-length.ensures.is c.no_calculation.ensures refl refl ∙ rw c.if-no_calculation.true)

pub returns-then-not-string_fits : goal.returns-then-not-string_fits
returns-then-not-string_fits c = let b = c.args.b.now in sym (calculation_is b c.requires.stand (row (view b) rules c.args.i) c.field-first.ensures.is c.field-length.ensures.is c.no_calculation.ensures c.string_fits.ensures refl ∙ rw (c.if-no_calculation.false, c.if-not-string_fits.true))

pub slice_bounds-allowed-end : goal.slice_bounds-allowed-end
slice_bounds-allowed-end c = let b = c.args.b.now in calculation_inside b c.requires.stand (row (view b) rules c.args.i) c.field-first.ensures.is c.field-length.ensures.is c.string_fits.ensures c.if-not-string_fits.false c.strings_offset.ensures.is

pub returns : goal.returns
returns c = let b = c.args.b.now in let w = row (view b) rules c.args.i in sym (calculation_is b c.requires.stand w c.field-first.ensures.is c.field-length.ensures.is c.no_calculation.ensures c.string_fits.ensures (c.allowed.ensures ∙ ap (λ (s : List ℕ). not (missing (tree_of s))) (calculation_bytes b c.requires.stand w c.field-first.ensures.is c.field-length.ensures.is c.string_fits.ensures c.if-not-string_fits.false c.strings_offset.ensures.is)) ∙ rw (c.if-no_calculation.false, c.if-not-string_fits.false))
