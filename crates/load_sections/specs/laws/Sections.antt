-- The sections from the passes that write them.
use Rattle.std.specs.Prelude.{List, [], ◌≡◌, refl, ℕ, ◌+◌, ◌-◌, ◌*◌, ◌≤◌, length}
use Rattle.std.proofs.Common.{sym, ap, arith}
use Rattle.spec_grammar.specs.declared.Role.TheVariants.{UagName, User, HagName, Host, AsgName, Input, Pvname, RuleWord, Calculation}
use Rattle.spec_grammar.specs.Sentence.{Tagged}
use Rattle.spec_grammar.specs.declared.Role.{Role}
use Rattle.spec_grammar.specs.Codes.{role_number}
use Rattle.load_tokens.specs.Arrays.{Arrays, role_of_number}
use Rattle.load_tokens.specs.laws.Arrays.{role_back}
use Rattle.load_tokens.specs.Views.{starts, ends, roles}
use Rattle.load_spans.specs.declared.Tokens.{Tokens}
use Rattle.load_spans.specs.Roles.{SpansFit, tally, RoleCode, arrays, tokens, gap}
use Rattle.load_spans.specs.laws.Roles.{tally_bound, after_one}
use Rattle.byte_write.specs.laws.Puts.{put_before, put_put}
use Rattle.load_flags.specs.Tokens.{size}
use Rattle.load_records.specs.declared.Cursor.{Cursor}
use Rattle.load_records.specs.Work.{Groups, Names, Access, Inputs, Rules, References}
use Rattle.load_records.specs.Cursor.{Bounded, Emitted, cursor}
use Rattle.load_passes.specs.Pass.{emits, moves, refer_emits, refer_moves}
use Rattle.load_passes.specs.Source.{all_of, part_of}
use Rattle.load_passes.specs.laws.Loops.{pass_put, references_put}
use Rattle.load_sections.specs.Sections.{AccessWritten, GroupsWritten, RulesWritten, at_rules, bytes_6, from, limit_3, limit_5, limit_7, new_runs}
use Rattle.load_sections.specs.laws.Rules.{rules_bytes}

-- the tokens from the first of a role on
pub from_is :
    (s : List ℕ) (ar : Arrays) (roles : List ℕ) (q n j : ℕ) → RoleCode q → j ≡ 0 + gap q q roles 0 (n - 0)
    → tokens s ar roles j n ≡ from (role_of_number q) (tokens s ar roles 0 n)
from_is s ar roles q n j t e =
    let k : n - j ≡ n - 0 - gap q q roles 0 (n - 0) = omega arith in
    rw (k, e) (sym (after_one s ar roles q 0 (n - 0) t))

pub from_role :
    (t : Tokens) (q : Role) (j : ℕ) → RoleCode (role_number q)
    → j ≡ 0 + gap (role_number q) (role_number q) (roles t.list.now) 0 (length t.list.now - 0)
    → part_of t j (length t.list.now) ≡ from q (all_of t)
from_role t q j k e =
    let ts = t.list.now in
    rw (role_back q) at (from_is t.text.now (arrays (starts ts) (ends ts)) (roles ts) (role_number q) (length ts) j k e)

-- a count of tokens is no greater than that of a file's tokens
pub tally_few : {s starts ends roles : List ℕ} {n k : ℕ} (m j : ℕ) → SpansFit s starts ends roles n → k ≡ tally m roles j (n - j) → k ≤ 16384
tally_few {roles = roles} {n} m j spans e = omega (arith, e, tally_bound m roles j (n - j), spans.few)

pub bounded_start : Bounded 36 (cursor 36 0 0 0)
bounded_start = record { at_bound = omega arith; string_bound = omega arith; first_bound = omega arith; second_bound = omega arith }

module _ (xs : List Tagged) where
  pub groups_written :
      {b c d e f : List ℕ} {p g h i j : Cursor} (ys zs : List Tagged) → ys ≡ from UagName xs → zs ≡ from HagName xs → Bounded limit_3 j
      → Emitted b c p (emits UagName User [] Groups xs p) (moves UagName User [] Groups xs p) g
      → Emitted c d g (emits HagName Host [] Groups xs g) (moves HagName Host [] Groups xs g) h
      → Emitted d e h (emits User User [] Names ys h) (moves User User [] Names ys h) i
      → Emitted e f i (emits Host Host [] Names zs i) (moves Host Host [] Names zs i) j
      → GroupsWritten xs b f p (record { two = g.at; three = h.at; cursor = j })
  groups_written ys zs e₁ e₂ n d₁ d₂ d₃ d₄ =
      let a₁ = pass_put UagName User [] Groups xs refl d₁ in
      let a₂ = pass_put HagName Host [] Groups xs a₁.1 d₂ in
      let a₃ = pass_put User User [] Names (from UagName xs) a₂.1 (rw e₁ at d₃) in
      let a₄ = pass_put Host Host [] Names (from HagName xs) a₃.1 (rw e₂ at d₄) in
      record {
        bytes = put_put a₁.0 (put_put a₂.0 (put_put a₃.0 a₄.0));
        two = ap (λ (t : Cursor). t.at) a₁.1;
        three = ap (λ (t : Cursor). t.at) a₂.1;
        last = a₄.1;
        bounded = n;
      }

  pub access_written :
      {b c d : List ℕ} {p g h : Cursor} (ys : List Tagged) → ys ≡ from AsgName xs → Bounded limit_5 h
      → Emitted b c (new_runs p) (emits AsgName AsgName [] Access xs (new_runs p)) (moves AsgName AsgName [] Access xs (new_runs p)) g
      → Emitted c d g (emits Input Pvname [] Inputs ys g) (moves Input Pvname [] Inputs ys g) h → AccessWritten xs b d p (record { five = g.at; cursor = h })
  access_written ys e n d₁ d₂ =
      let a₁ = pass_put AsgName AsgName [] Access xs refl d₁ in
      let a₂ = pass_put Input Pvname [] Inputs (from AsgName xs) a₁.1 (rw e at d₂) in
      record { bytes = put_put a₁.0 a₂.0; five = ap (λ (t : Cursor). t.at) a₁.1; last = a₂.1; bounded = n }

-- ---- sections 6 and 7: rules and references

pub bounded_behind : {p : Cursor} {k : ℕ} → Bounded limit_5 p → k ≤ 16384 → Bounded (limit_5 + 229376) (cursor (p.at + 14 * k) p.string 0 0)
bounded_behind n h =
    record { at_bound = omega (arith, n.at_bound); string_bound = omega (arith, n.string_bound); first_bound = omega arith; second_bound = omega arith }

pub bounded_before : {p g : Cursor} → Bounded limit_5 p → Bounded limit_7 g → Bounded limit_7 (cursor p.at g.string 0 0)
bounded_before n h =
    record { at_bound = omega (arith, n.at_bound); string_bound = h.string_bound; first_bound = omega arith; second_bound = omega arith }

module _ (us hs : List (List ℕ)) (xs : List Tagged) where
  -- k: how many rules there are; the references are written first
  pub rules_written :
      {b c d : List ℕ} {p g h : Cursor} (ys : List Tagged) (k : ℕ) → ys ≡ from AsgName xs → k ≡ size RuleWord ys → Bounded limit_7 g
      → Emitted b c
      (cursor (p.at + 14 * k) p.string 0 0)
      (refer_emits References us hs ys (cursor (p.at + 14 * k) p.string 0 0))
      (refer_moves References us hs ys (cursor (p.at + 14 * k) p.string 0 0))
      g
      → Emitted c d
      (cursor p.at g.string 0 0)
      (emits RuleWord Calculation [] Rules ys (cursor p.at g.string 0 0))
      (moves RuleWord Calculation [] Rules ys (cursor p.at g.string 0 0))
      h
      → RulesWritten us hs xs b d p (record { seven = p.at + 14 * k; references = h.first; cursor = g })
  rules_written {p = p} ys k e l n d₇ d₆ =
      let rs = from AsgName xs in
      let z : k ≡ size RuleWord rs = rw e at l in
      let a₇ = references_put References us hs rs (ap (λ (k : ℕ). cursor (p.at + 14 * k) p.string 0 0) z) (rw e at d₇) in
      let a₆ = pass_put RuleWord Calculation [] Rules rs (ap (λ (t : Cursor). cursor p.at t.string 0 0) a₇.1) (rw e at d₆) in
      let fit = ap (λ (k : ℕ). p.at + k) (sym (rules_bytes RuleWord Calculation [] rs (at_rules us hs xs p))) in
      record {
        bytes = put_before {ws = bytes_6 us hs xs p} a₇.0 (record { bytes = a₆.0.bytes; end = fit });
        seven = ap (λ (k : ℕ). p.at + 14 * k) z;
        references = ap (λ (t : Cursor). t.first) a₆.1;
        last = a₇.1;
        bounded = n;
      }
