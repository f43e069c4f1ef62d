use Rattle.std.proofs.Common.{◌∙◌, ap, arith, List, ℕ, false, not, length, get_or}
use Rattle.spec_lists.specs.Select.{all, holds_of}
use Rattle.spec_calc.specs.Reader.{tree_of}
use Rattle.spec_calc.specs.Value.{letters}
use Rattle.spec_grammar.specs.declared.Role.TheVariants.{Calculation}
use Rattle.spec_file.specs.Refusal.{letters_given}
use Rattle.load_tokens.specs.Views.{starts, ends, roles}
use Rattle.load_tokens.specs.laws.Same.{says}
use Rattle.load_spans.specs.Roles.{arrays}
use Rattle.load_spans.specs.Spans.{text_of}
use Rattle.load_spans.specs.Seek.{context_at}
use Rattle.load_spans.specs.laws.Codes.{asked}
use Rattle.load_calcs.specs.laws.Input.{gives_here}
use Rattle.load_calcs.proofs.Letters.{allowed_is}
use Rattle.load_calcs.proofs.bad_calculation_at.Goals as goal

pub returns-then-eq : goal.returns-then-eq
returns-then-eq c =
    let s = c.args.t.now.text.now in
    let ts = c.args.t.now.list.now in
    let a = arrays (starts ts) (ends ts) in
    let i = c.args.i in
    let q = says ts i Calculation c.eq.ensures c.if-eq.true in
    ap not
    (c.allowed_with.ensures
    ∙ ap (λ (t : List ℕ). holds_of (tree_of t) (λ u. all (λ i. get_or c.args.given i false) (letters u))) c.text_of.ensures
    ∙ allowed_is (text_of s ts i) c.args.given (letters_given (context_at s a (roles ts) (length ts) i))
    (gives_here s a (roles ts) (length ts) i c.requires.0 (λ h. omega arith) (λ h. omega arith) c.requires.1))
    ∙ asked 15 (record { some = omega arith; known = omega arith }) _ q
