-- What the parts that the code works out make together: the bytes that a place keeps of a client.
use Rattle.std.specs.Prelude.{◌≡◌, refl, Bool, true, cond, List, [], ◌∷◌, ℕ, suc, ◌+◌, ◌*◌, ◌<◌, Float, length, take, replicate}
use Rattle.std.proofs.Common.{sym, ap, ap₂, subst, ◌∙◌, arith}
use Rattle.std.proofs.Math.Option.{Option}
use Rattle.std.proofs.lemmas.List.{length-replicate}
use Rattle.std.proofs.lemmas.List.Edits.{sets}
use Rattle.std.proofs.Math.Seq.{length-sets}
use Rattle.spec_lists.proofs.laws.Sets.{part_sets_all}
use Rattle.spec_rule.specs.declared.Decision.{Decision}
use Rattle.spec_rule.specs.Decision.{decision_by}
use Rattle.spec_rule.specs.Number.{decision_number}
use Rattle.spec_file.specs.Limit.{access_groups, rules, most}
use Rattle.spec_table.specs.View.{view}
use Rattle.spec_table.specs.Check.{is_table}
use Rattle.spec_table.proofs.laws.Standing.{stands, records_few}
use Rattle.spec_decision.specs.Groups.{answering_number}
use Rattle.spec_register.specs.Register.{Client, client_of, never_heard, letters}
use Rattle.spec_places.specs.Storage.{nothing_kept, readings_in}
use Rattle.spec_places.specs.Writing.{kept_by, kept}
use Rattle.spec_places.proofs.laws.Numbers.{kept_agrees}
use Rattle.spec_places.proofs.laws.Readings.{none_heard}
use Rattle.table_fields.specs.Field.{Word}
use Rattle.table_read.specs.Search.{Index}
use Rattle.std.specs.Prelude.{Some, None}
use Rattle.table_read.specs.Stored.{Stored, word_of}
use Rattle.table_read.specs.Search.{index_of}
use Rattle.table_read.specs.laws.Search.{index_at, index_none}
use Rattle.ask_rule.specs.Rules.{question}
use Rattle.ask_checked.specs.Group.{group_rules}
use Rattle.ask_checked.specs.laws.Group.{group_counted, group_few}
use Rattle.ask_kept.specs.Kept.{client_bits, decision_kept}
use Rattle.ask_kept.specs.laws.Kept.{bits_count, kept_answers}
use Rattle.reg_kept.specs.declared.Kept.{Kept}
use Rattle.reg_kept.specs.Kept.{Keeps, kept_of, kept_by_number, outcomes_now}

three : {a b c d : ℕ} {xs ys : List ℕ} → a ≡ b → c ≡ d → xs ≡ ys → ◌≡◌ {A = List ℕ} (a ∷ c ∷ xs) (b ∷ d ∷ ys)
three e f g = cc

-- what the code begins with
abbrev no_flags : List ℕ
no_flags = replicate (most rules) 0

no_flags_count : length no_flags ≡ most rules
no_flags_count = length-replicate {A = ℕ} (most rules) 0

-- ---- the i-th access group answers

module _ (t : List ℕ) (i : ℕ) (h : Stored t access_groups i) where
  pub group_low : i < most access_groups
  group_low = omega (arith, h.inside, records_few (view t) (stands t h.table).1 access_groups)

  module _ (states : List ℕ) (values : List Float) (u host : List ℕ) (l : ℕ) where
    module _ {w : ℕ} {flags : List ℕ} (x : w ≡ l) (e : flags ≡ sets no_flags 0 (client_bits t i u host w)) where
      flags_are : flags ≡ sets no_flags 0 (client_bits t i u host l)
      flags_are = e ∙ ap (λ (k : ℕ). sets no_flags 0 (client_bits t i u host k)) x

      flags_taken : {count : ℕ} → Word (word_of t access_groups i 5) count → take count flags ≡ client_bits t i u host l
      flags_taken {count} c =
          let bits = client_bits t i u host l in
          let n : count ≡ length bits = c.is ∙ sym (group_counted t i h) ∙ sym (bits_count t i h u host l) in
          ap₂ take n flags_are ∙ part_sets_all bits no_flags 0 (omega (arith, bits_count t i h u host l, group_few t i h, no_flags_count))

      decision_is :
          {os : List ℕ} {d : Decision} → os ≡ outcomes_now t i states values → d ≡ decision_kept t i flags 0 os
          → d ≡ decision_by (question u host [] l (readings_in states values i)) (group_rules t i)
      decision_is y g =
          let none_true : List ℕ = replicate (most rules) 0 in
          let n : length none_true ≡ most rules = length-replicate {A = ℕ} (most rules) 0 in
          g
          ∙ ap₂ (λ (k : List ℕ) (b : List ℕ). decision_kept t i k 0 b) flags_are y
          ∙ kept_answers t i h u host l no_flags 0 none_true (readings_in states values i) (omega (arith, no_flags_count)) (omega arith)

      pub keeps :
          {os : List ℕ} {d : Decision} {right number count : ℕ} → os ≡ outcomes_now t i states values → d ≡ decision_kept t i flags 0 os
          → right ≡ decision_number d → Word (word_of t access_groups i 5) count → number ≡ i + 1
          → Keeps (kept_by_number t states values i (client_of [] l u host)) (record { number = number; right = right; count = count; flags = flags })
      keeps {number = number} y g f c n =
          let z : number ≡ suc i = omega arith in
          record {
            is = three z (f ∙ ap decision_number (decision_is y g)) (flags_taken c);
            few = omega (arith, c.is, group_counted t i h, group_few t i h);
            whole = ap length flags_are ∙ length-sets no_flags 0 (client_bits t i u host l) ∙ no_flags_count;
          }

-- ---- whichever answers, or none

module _ (t : List ℕ) (h : is_table t ≡ true) (states : List ℕ) (values : List Float) (c : Client) where
  by_answering : {o : Option ℕ} → answering_number t c.group ≡ o → kept_by t (readings_in states values) c o ≡ kept_of t states values c
  by_answering {o} e =
      ap (kept_by t (readings_in states values) c) (sym e)
      ∙ ap (λ (b : Bool). cond b (kept_by t (readings_in states values) c (answering_number t c.group)) nothing_kept) (sym h)

  pub keeps_none :
      {r : Index} {k : Kept} → r ≡ index_of (answering_number t c.group) → r ≡ None → Keeps nothing_kept k → Keeps (kept_of t states values c) k
  keeps_none {k = k} e f q = subst (λ (b : List ℕ). Keeps b k) (by_answering (index_none (answering_number t c.group) e f)) q

  pub keeps_group :
      {r : Index} {k : Kept} (i : ℕ) → r ≡ index_of (answering_number t c.group) → r ≡ Some i → Keeps (kept_by_number t states values i c) k
      → Keeps (kept_of t states values c) k
  keeps_group {k = k} i e f q = subst (λ (b : List ℕ). Keeps b k) (by_answering (index_at (answering_number t c.group) i e f)) q

-- ---- where no states are lent, no reading was heard

pub unheard : (t : List ℕ) (values : List Float) (c : Client) → kept t (readings_in [] values) c ≡ kept t (λ i. never_heard) c
unheard t values c =
    kept_agrees t c (readings_in [] values) (λ i. never_heard) (λ i l. none_heard [] values (i * letters) letters (λ j m. refl))
