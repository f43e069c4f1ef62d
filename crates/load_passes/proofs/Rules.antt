-- The two passes of a rule's references: where each may start, and what both leave.
use Rattle.std.specs.Prelude.{◌≡◌, List, ℕ, ◌+◌, ◌-◌, ◌<◌, length}
use Rattle.std.proofs.Common.{arith}
use Rattle.spec_grammar.specs.declared.Role.{Role}
use Rattle.spec_grammar.specs.declared.Role.TheVariants.{UagNamed, HagNamed}
use Rattle.spec_grammar.specs.Codes.{role_number}
use Rattle.load_tokens.specs.Views.{starts, ends, roles}
use Rattle.load_spans.specs.declared.Tokens.{Tokens}
use Rattle.load_spans.specs.Roles.{RoleCode, arrays, gap}
use Rattle.load_records.specs.declared.Cursor.{Cursor}
use Rattle.load_records.specs.Work.{Work}
use Rattle.load_records.specs.Cursor.{Bounded}
use Rattle.load_records.specs.laws.Tokens.{cut_is, gap_end}
use Rattle.load_passes.specs.Passed.{pass_limit, Start, Passed, RulePassed}
use Rattle.load_passes.specs.Source.{names_of, part_of}
use Rattle.load_passes.specs.laws.Loops.{rule_done, rule_word_known}

-- e: where what belongs to the rule at the i-th token ends
module _ (t : Tokens) {i e : ℕ} (here : i < length t.list.now) (end : e ≡ i + 1 + gap 8 5 (roles t.list.now) (i + 1) (length t.list.now - (i + 1))) where
  pub rule_start : {q m : Role} {p : Cursor} → m ≡ q → RoleCode (role_number q) → Bounded pass_limit p → Start t e q m p
  rule_start own known b =
      rw own
      (record { within = gap_end 8 5 (roles t.list.now) (i + 1) (length t.list.now) e (omega (arith, here)) end; head = known; part = known; bounded = b })

  pub rule_passed :
      (w : Work) (uags hags : List ℕ) {u h : Role} {b c d : List ℕ} {p s r : Cursor} → u ≡ UagNamed → h ≡ HagNamed
      → Passed w UagNamed u uags t (i + 1) e b c p s → Passed w HagNamed h hags t (i + 1) e c d s r → RulePassed w t uags hags i b d p r
  rule_passed w uags hags own also l m =
      let ts = t.list.now in
      rule_done w (names_of t uags) (names_of t hags) (part_of t (i + 1) (length ts)) (part_of t (i + 1) e)
      (cut_is t.text.now (arrays (starts ts) (ends ts)) (roles ts) 8 8 (i + 1) (length ts) e rule_word_known rule_word_known end)
      (rw own at l.emitted)
      (rw also at m.emitted)
