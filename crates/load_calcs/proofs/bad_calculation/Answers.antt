use Rattle.std.proofs.Common.{◌∙◌, sym, length}
use Rattle.spec_file.specs.Load.{bad_calculation}
use Rattle.spec_grammar.specs.declared.Role.TheVariants.{AsgName}
use Rattle.load_tokens.specs.Views.{starts, ends, roles}
use Rattle.load_tokens.specs.laws.Same.{says, says_other}
use Rattle.load_spans.specs.Roles.{arrays}
use Rattle.load_spans.specs.laws.Search.{search_first, search_on}
use Rattle.load_spans.specs.laws.Tokens.{found_at}
use Rattle.load_calcs.specs.laws.Input.{gives_first, gives_new, gives_on}
use Rattle.load_calcs.proofs.bad_calculation.Goals as goal
use Rattle.load_calcs.proofs.bad_calculation.Goals.{then-eq, else-eq}

pub loop-i-init : goal.loop-i-init
loop-i-init c =
    let ts = c.args.t.now.list.now in
    record {
      searched = search_first _ _ _ _ _ _;
      given = gives_first c.args.t.now.text.now (arrays (starts ts) (ends ts)) (roles ts) (length ts) c.letters_from-given.ensures;
    }

pub returns-then-bad_calculation_at : goal.returns-then-bad_calculation_at
returns-then-bad_calculation_at c =
    found_at bad_calculation c.args.t.now.text.now c.args.t.now.list.now c.loop-i.i c.loop-i.invariant.searched c.loop-i-test.true
    (sym c.bad_calculation_at.ensures ∙ c.if-bad_calculation_at.true)

pub loop-i-preserved : goal.loop-i-preserved
loop-i-preserved c =
    let s = c.args.t.now.text.now in
    let ts = c.args.t.now.list.now in
    let a = arrays (starts ts) (ends ts) in
    let i = c.loop-i.i in
    record {
      searched = search_on c.loop-i.invariant.searched c.loop-i-test.true (sym c.bad_calculation_at.ensures ∙ c.if-bad_calculation_at.false);
      given =
          elim c.if-eq.branch [
            | then-eq w ↦ rw w.given-is (gives_new s a (roles ts) (length ts) i (says ts i AsgName c.eq.ensures w.if-eq.true) w.letters_from-next.ensures)
            | else-eq w ↦
                rw w.given-is
                (gives_on s a (roles ts) (length ts) i c.loop-i-test.true (says_other ts i AsgName c.eq.ensures w.if-eq.false) c.loop-i.invariant.given)
          ];
    }
