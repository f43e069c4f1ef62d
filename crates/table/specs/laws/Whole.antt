-- Laws of all records together.
use Rattle.std.specs.Prelude.{◌≡◌, refl, Bool, true, false, ◌&&◌, List, [], ◌∷◌, ℕ, leb}
use Rattle.std.proofs.Common.{sym, ap, ◌∙◌}
use Rattle.std.proofs.Math.Bool.{and_assoc}
use Rattle.spec_lists.specs.Select.{all}
use Rattle.spec_token.specs.Word.{greatest_letter}
use Rattle.spec_file.specs.Limit.{Section, user_groups, host_groups, members, access_groups, inputs, rules, references}
use Rattle.spec_table.specs.Layout.{Content, sections}
use Rattle.spec_table.specs.View.{view}
use Rattle.spec_table.specs.Check.{letter_field, sections_stand, counts_fit, runs_stand, names_fit, letters_stand, rule_stands, is_table}
use Rattle.table_records.specs.Records.{name_stands, section_stands}

-- ---- section by section

all_both : {A : Type 0} (p q : A → Bool) (xs : List A) → all p xs && all q xs ≡ all (λ x. p x && q x) xs
all_both p q [] = refl
all_both {A} p q (x ∷ xs) = swap (p x) (q x) (all p xs) (all q xs) ∙ ap (λ (b : Bool). (p x && q x) && b) (all_both p q xs)
  where
    swap : (a b c d : Bool) → (a && c) && (b && d) ≡ (a && b) && (c && d)
    swap false b c d = refl
    swap true false false d = refl
    swap true false true d = refl
    swap true true c d = refl

regroup : (a b c d e f l r : Bool) → (a && (b && (c && (d && (e && (f && true)))))) && (l && r) ≡ a && (b && (c && (d && ((e && l) && (r && (f && true))))))
regroup false b c d e f l r = refl
regroup true false c d e f l r = refl
regroup true true false d e f l r = refl
regroup true true true false e f l r = refl
regroup true true true true false f l r = refl
regroup true true true true true f false r = go f
  where
    go : (f : Bool) → (f && true) && false ≡ false
    go true = refl
    go false = refl
regroup true true true true true false true r = go r
  where
    go : (r : Bool) → false ≡ r && false
    go true = refl
    go false = refl
regroup true true true true true true true r = go r
  where
    go : (r : Bool) → r ≡ r && true
    go true = refl
    go false = refl

module _ (c : Content) where
  abbrev named : Section → Bool
  named s = all (name_stands c s) (c.records s)

  abbrev from_inputs : Bool → Bool
  from_inputs x = x && (section_stands c rules && (named references && true))

  by_section : names_fit c && (letters_stand c && all (rule_stands c) (c.records rules)) ≡ all (section_stands c) sections
  by_section =
      regroup
      (named user_groups)
      (named host_groups)
      (named members)
      (named access_groups)
      (named inputs)
      (named references)
      (letters_stand c)
      (section_stands c rules)
      ∙ ap
      (λ (x : Bool). named user_groups && (named host_groups && (named members && (named access_groups && from_inputs x))))
      (all_both (name_stands c inputs) (λ row. leb (letter_field row) greatest_letter) (c.records inputs))

pub table_is : (b : List ℕ) → is_table b ≡ ((sections_stand b && counts_fit (view b)) && runs_stand (view b)) && all (section_stands (view b)) sections
unfolding is_table
table_is b =
    let s = sections_stand b in
    let k = counts_fit (view b) in
    let r = runs_stand (view b) in
    let t = all (section_stands (view b)) sections in
    ap (λ (x : Bool). s && (k && (r && x))) (by_section (view b)) ∙ sym (and_assoc (s && k) r t ∙ and_assoc s k (r && t))
