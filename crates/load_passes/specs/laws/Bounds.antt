-- How far a pass, and the passes of rules, move the cursor.
use Rattle.std.specs.Prelude.{not, List, ℕ, ◌+◌, ◌*◌, ◌-◌, ◌≤◌, length}
use Rattle.std.proofs.Common.{arith}
use Rattle.spec_lists.specs.Every.{Every}
use Rattle.spec_lists.proofs.laws.Every.{every_run}
use Rattle.spec_grammar.specs.declared.Role.{Role}
use Rattle.spec_grammar.specs.declared.Role.TheVariants.{AsgName, RuleWord, UagNamed, HagNamed}
use Rattle.spec_grammar.specs.Sentence.{Tagged}
use Rattle.spec_file.specs.Contents.{has_role, until}
use Rattle.load_spans.specs.Roles.{SpansFit, arrays}
use Rattle.load_flags.specs.Tokens.{cut, tokens_in}
use Rattle.load_records.specs.declared.Cursor.{Cursor}
use Rattle.load_records.specs.Work.{Work}
use Rattle.load_records.specs.Cursor.{Bounded, Emitted}
use Rattle.load_records.specs.Record.{move}
use Rattle.load_records.specs.laws.Bounds.{bounded_more, bounded_move}
use Rattle.load_records.specs.laws.Tokens.{Short, run_length, tokens_length, tokens_short}
use Rattle.load_passes.specs.Pass.{moves, refer_moves, rule_moves}
use Rattle.load_passes.specs.Passed.{pass_reach}
use Rattle.load_passes.specs.laws.Each.{each_bounded}

pub bounded_on : {b c : List ℕ} {k : ℕ} {p t r : Cursor} {bs : List ℕ} → Emitted b c p bs t r → Bounded k t → Bounded k r
bounded_on d n = rw d.moved n

bounded_moves :
    (q m : Role) (names : List (List ℕ)) (w : Work) {b : ℕ} {p : Cursor} (xs : List Tagged) → Every Short xs → length xs ≤ 16384 → Bounded b p
    → Bounded (b + 65536 * length xs) (moves q m names w xs p)
bounded_moves q m names w = each_bounded q (move q m names w) 65536 (λ x xs b p h. bounded_move q m names w {b = b} {p = p} x {xs = xs} h)

-- ---- what belongs to a rule

cut_length : (xs : List Tagged) → length (cut RuleWord xs) ≤ length xs
cut_length xs = omega (arith, run_length (λ x. not (has_role RuleWord x)) (until AsgName xs), run_length (λ x. not (has_role AsgName x)) xs)

cut_short_texts : {xs : List Tagged} → Every Short xs → Every Short (cut RuleWord xs)
cut_short_texts e = every_run (λ x. not (has_role RuleWord x)) (every_run (λ x. not (has_role AsgName x)) e)

module _ (w : Work) (us hs : List (List ℕ)) where
  pub bounded_rule :
      {b : ℕ} {p : Cursor} {xs : List Tagged} → Every Short xs → length xs ≤ 16384 → Bounded b p → Bounded (b + 2147483648)
      (rule_moves w us hs (cut RuleWord xs) p)
  bounded_rule {xs = xs} e l n =
      let ys = cut RuleWord xs in
      let f = cut_short_texts e in
      let few : length ys ≤ 16384 = omega (arith, cut_length xs) in
      bounded_more (omega arith) (bounded_moves HagNamed HagNamed hs w ys f few (bounded_moves UagNamed UagNamed us w ys f few n))

  bounded_refers :
      {b : ℕ} {p : Cursor} (xs : List Tagged) → Every Short xs → length xs ≤ 16384 → Bounded b p
      → Bounded (b + 2147483648 * length xs) (refer_moves w us hs xs p)
  bounded_refers = each_bounded RuleWord (λ x ys c. rule_moves w us hs (cut RuleWord ys) c) 2147483648 (λ x xs b p h. bounded_rule {b = b} {p = p} {xs = xs})

-- ---- the same for kept tokens

module _ {s starts ends roles : List ℕ} {to : ℕ} (spans : SpansFit s starts ends roles to) where
  pub tokens_few : (i : ℕ) → length (tokens_in s starts ends roles i to) ≤ 16384
  tokens_few i = omega (arith, tokens_length s (arrays starts ends) roles i (to - i), spans.few)

  pub tokens_all_short : (i : ℕ) → Every Short (tokens_in s starts ends roles i to)
  tokens_all_short i = tokens_short s (arrays starts ends) roles i (to - i) spans.short

  pub bounded_tokens :
      (q m : Role) (names : List (List ℕ)) (w : Work) (i : ℕ) {k : ℕ} {p : Cursor} → Bounded k p
      → Bounded (k + pass_reach) (moves q m names w (tokens_in s starts ends roles i to) p)
  bounded_tokens q m names w i n =
      let few = tokens_few i in
      bounded_more (omega arith) (bounded_moves q m names w (tokens_in s starts ends roles i to) (tokens_all_short i) few n)

  pub bounded_references :
      (w : Work) (us hs : List (List ℕ)) (i : ℕ) {k : ℕ} {p g : Cursor} {b c bs : List ℕ} → Bounded k p
      → Emitted b c p bs (refer_moves w us hs (tokens_in s starts ends roles i to) p) g → Bounded (k + 35184372088832) g
  bounded_references w us hs i n d =
      let few = tokens_few i in
      bounded_on d (bounded_more (omega arith) (bounded_refers w us hs (tokens_in s starts ends roles i to) (tokens_all_short i) few n))
