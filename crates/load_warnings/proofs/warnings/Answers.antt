use Rattle.std.proofs.Common.{ℕ, ◌∙◌, ap, refl, sym, length}
use Rattle.spec_file.specs.Warning.{number}
use Rattle.load_tokens.specs.Views.{places, roles}
use Rattle.load_tokens.specs.laws.Views.{place_at, role_at}
use Rattle.load_warnings.specs.Code.{code}
use Rattle.load_warnings.specs.laws.Code.{number_some}
use Rattle.load_warnings.specs.laws.Filled.{code_here_is, fill_end, fill_none, fill_warning}
use Rattle.load_warnings.proofs.warnings.Goals as goal
use Rattle.load_warnings.proofs.warnings.Goals.{in-Some, in_default}

pub loop-token-preserved : goal.loop-token-preserved
loop-token-preserved c =
    let a = c.args in
    let ts = a.list.now in
    let i = c.loop-token.token-index in
    let is = λ (k : ℕ). code_here_is (places ts) (roles ts) (length ts) k i in
    elim c.match-warning_of.branch [
      | in-Some w ↦
          let v = w.in-Some.warning in
          rw (w.numbers-is, w.at-is, w.k-is)
          (fill_warning (places ts) (roles ts) (length ts) a.skip a.numbers.now a.at.now c.loop-token-test.true
          (is (number v) (w.in-Some.ensures ∙ ap code (sym (role_at ts i))))
          (number_some v)
          (rw w.number.ensures at w.put.ensures)
          (rw (← place_at ts i) at w.put-in-Some.ensures)
          c.loop-token.invariant)
      | in_default w ↦
          rw (w.numbers-is, w.at-is, w.k-is)
          (fill_none (places ts) (roles ts) (length ts) a.skip a.numbers.now a.at.now c.loop-token-test.true
          (is 0 (w.in_default.ensures ∙ ap code (sym (role_at ts i))))
          refl
          c.loop-token.invariant)
    ]

pub returns : goal.returns
returns c =
    let ts = c.args.list.now in
    fill_end (places ts) (roles ts) (length ts) c.args.skip c.args.numbers.now c.args.at.now c.loop-token-test.false c.loop-token.invariant
