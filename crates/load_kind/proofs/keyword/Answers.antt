use Rattle.load_kind.specs.laws.Keyword.{not_same, none_of_them}
use Rattle.spec_lists.specs.Text.{bytes}
use Rattle.load_kind.proofs.keyword.Goals as goal

pub returns-else-eq-5 : goal.returns-else-eq-5
returns-else-eq-5 c = let w = c.args.w.now in
    none_of_them w
    (not_same w (bytes "UAG") _ c.as_slice.ensures c.eq.ensures c.if-eq.false)
    (not_same w (bytes "HAG") _ c.as_slice-else-eq.ensures c.eq-else-eq.ensures c.if-eq-2.false)
    (not_same w (bytes "ASG") _ c.as_slice-else-eq-2.ensures c.eq-else-eq-2.ensures c.if-eq-3.false)
    (not_same w (bytes "RULE") _ c.as_slice-else-eq-3.ensures c.eq-else-eq-3.ensures c.if-eq-4.false)
    (not_same w (bytes "CALC") _ c.as_slice-else-eq-4.ensures c.eq-else-eq-4.ensures c.if-eq-5.false)
