-- The section of rules has 14 bytes for each.
use mathlib.Core.List.{List, ◌∷◌, []}
use Rattle.std.specs.Prelude.{◌≡◌, ℕ, ◌*◌, ◌+◌, length}
use Rattle.std.proofs.Math.Path.{refl}
use Rattle.std.proofs.Common.{arith}
use Rattle.std.proofs.Math.ListN.{length-append}
use Rattle.spec_lists.specs.Runs.{Run}
use Rattle.spec_grammar.specs.declared.Role.{Role}
use Rattle.spec_grammar.specs.declared.Role.TheVariants.{UagNamed, HagNamed}
use Rattle.spec_grammar.specs.Sentence.{Tagged}
use Rattle.spec_file.specs.Contents.{texts, head_of, rule_text}
use Rattle.spec_table.specs.Written.{flags}
use Rattle.load_flags.specs.Tokens.{cut, first_text, size}
use Rattle.load_records.specs.declared.Cursor.{Cursor}
use Rattle.load_records.specs.Work.{Rules}
use Rattle.load_records.specs.Record.{emit, move}
use Rattle.load_records.specs.laws.Rules.{rule_length}
use Rattle.load_passes.specs.Pass.{each_emits, emits}
use Rattle.load_passes.specs.laws.Each.{by_says}

module _ (q m : Role) (names : List (List ℕ)) where
  one_rule : (x : Tagged) (xs : List Tagged) (p : Cursor) → length (emit q m names Rules x xs p) ≡ 14
  one_rule x xs p =
      let r : Run = record { first = p.string; count = length (first_text m (cut q xs)) } in
      let u = size UagNamed (cut q xs) in
      rule_length (flags (rule_text (cut q xs))) p.first u (p.first + u) (size HagNamed (cut q xs)) (head_of (texts m (cut q xs))) r

  pub rules_bytes : (xs : List Tagged) (p : Cursor) → length (emits q m names Rules xs p) ≡ 14 * size q xs
  unfolding each_emits
  rules_bytes [] p = refl
  rules_bytes (x ∷ xs) p =
      let t = move q m names Rules x xs p in
      by_says
      q
      x
      (λ s. rw s (omega (arith, one_rule x xs p, rules_bytes xs t, length-append (emit q m names Rules x xs p) (emits q m names Rules xs t))))
      (λ s. rw s (rules_bytes xs p))
