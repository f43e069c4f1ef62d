-- One record moves the cursor by a bounded way.
use Rattle.std.specs.Prelude.{List, ℕ, ◌≤◌, ◌+◌, length}
use Rattle.std.proofs.Common.{arith}
use Rattle.std.proofs.lemmas.List.{length-map}
use Rattle.spec_lists.specs.Every.{Every}
use Rattle.spec_lists.specs.Runs.{Run}
use Rattle.spec_lists.specs.Text.{lower_byte}
use Rattle.spec_grammar.specs.declared.Role.{Role}
use Rattle.spec_grammar.specs.declared.Role.TheVariants.{UagNamed, HagNamed, Input, RuleWord}
use Rattle.spec_grammar.specs.Sentence.{Tagged}
use Rattle.spec_file.specs.Contents.{text, texts, head_of, rule_text}
use Rattle.spec_table.specs.Written.{flags}
use Rattle.load_flags.specs.Tokens.{cut, first_text, size}
use Rattle.load_records.specs.declared.Cursor.{Cursor}
use Rattle.load_records.specs.Work.{Work}
use Rattle.load_records.specs.Work.{Groups, Names, Access, Inputs, Rules, References, Texts, Lowered, Firsts}
use Rattle.load_records.specs.Cursor.{Bounded}
use Rattle.load_records.specs.Record.{emit, firsts, move, named, seconds}
use Rattle.load_records.specs.laws.Rules.{rule_length}
use Rattle.load_records.specs.laws.Tokens.{Short, cut_short_texts, cut_size, until_size}

pub bounded_more : {a b : ℕ} {p : Cursor} → a ≤ b → Bounded a p → Bounded b p
bounded_more h n =
    record {
      at_bound = omega (arith, n.at_bound);
      string_bound = omega (arith, n.string_bound);
      first_bound = omega (arith, n.first_bound);
      second_bound = omega (arith, n.second_bound);
    }

module _ (q m : Role) (names : List (List ℕ)) where
  emit_bound : (w : Work) (x : Tagged) {xs : List Tagged} (p : Cursor) → Short x → Every Short xs → length (emit q m names w x xs p) ≤ 16384
  emit_bound Groups x p h e = omega arith
  emit_bound Names x p h e = omega arith
  emit_bound Access x p h e = omega arith
  emit_bound Inputs x p h e = omega arith
  emit_bound Rules x {xs} p h e =
      let o = head_of (texts m (cut q xs)) in
      let r : Run = record { first = p.string; count = length (first_text m (cut q xs)) } in
      omega (
        arith,
        rule_length (flags (rule_text (cut q xs))) p.first (size UagNamed (cut q xs)) (p.first + size UagNamed (cut q xs)) (size HagNamed (cut q xs)) o r,
      )
  emit_bound References x p h e = omega arith
  emit_bound Texts x p h e = h
  emit_bound Lowered x p h e = omega (arith, length-map (text x) lower_byte)
  emit_bound Firsts x p h e = cut_short_texts m q e

  named_bound : (w : Work) (x : Tagged) {xs : List Tagged} → Short x → Every Short xs → named q m names w x xs ≤ 16384
  named_bound Groups x h e = h
  named_bound Names x h e = h
  named_bound Access x h e = h
  named_bound Inputs x h e = cut_short_texts m q e
  named_bound Rules x h e = cut_short_texts m q e
  named_bound References x h e = h
  named_bound Texts x h e = omega arith
  named_bound Lowered x h e = omega arith
  named_bound Firsts x h e = omega arith

  firsts_bound : (w : Work) (x : Tagged) (xs : List Tagged) → firsts q m names w x xs ≤ length xs + length xs
  firsts_bound Groups x xs = omega (arith, until_size m q xs)
  firsts_bound Names x xs = omega arith
  firsts_bound Access x xs = omega (arith, until_size Input q xs)
  firsts_bound Inputs x xs = omega arith
  firsts_bound Rules x xs = omega (arith, cut_size UagNamed q xs, cut_size HagNamed q xs)
  firsts_bound References x xs = omega arith
  firsts_bound Texts x xs = omega arith
  firsts_bound Lowered x xs = omega arith
  firsts_bound Firsts x xs = omega arith

  seconds_bound : (w : Work) (x : Tagged) (xs : List Tagged) → seconds q m names w x xs ≤ length xs
  seconds_bound Groups x xs = omega arith
  seconds_bound Names x xs = omega arith
  seconds_bound Access x xs = until_size RuleWord q xs
  seconds_bound Inputs x xs = omega arith
  seconds_bound Rules x xs = omega arith
  seconds_bound References x xs = omega arith
  seconds_bound Texts x xs = omega arith
  seconds_bound Lowered x xs = omega arith
  seconds_bound Firsts x xs = omega arith

  pub bounded_move :
      (w : Work) {b : ℕ} {p : Cursor} (x : Tagged) {xs : List Tagged} → Short x → Every Short xs → length xs ≤ 16384 → Bounded b p
      → Bounded (b + 65536) (move q m names w x xs p)
  bounded_move w {b} {p} x {xs} h e l n =
      record {
        at_bound = omega (arith, n.at_bound, emit_bound w x {xs = xs} p h e);
        string_bound = omega (arith, n.string_bound, named_bound w x {xs = xs} h e);
        first_bound = omega (arith, n.first_bound, firsts_bound w x xs);
        second_bound = omega (arith, n.second_bound, seconds_bound w x xs);
      }
