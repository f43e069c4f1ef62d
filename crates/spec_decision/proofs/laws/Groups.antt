-- An access group and its number: a group found by its number is the one that a search among the records finds.
use Rattle.std.specs.Prelude.{◌≡◌, refl, List, [], ◌∷◌, map, ℕ, zero, suc, ◌+◌, ◌<◌, length, get_or}
use Rattle.std.proofs.Common.{ap, ◌∙◌, arith}
use Rattle.std.proofs.Math.Option
use Rattle.std.proofs.Math.Option.{Option, none, some}
use Rattle.spec_lists.specs.Every.{Every, nil, cons}
use Rattle.spec_lists.proofs.laws.Every.{every_implies}
use Rattle.spec_lists.proofs.laws.Member.{every_member, first_member}
use Rattle.spec_lists.specs.Text.{same}
use Rattle.spec_rule.specs.Answering.{named, or_default, answering, default_name}
use Rattle.spec_file.specs.Limit.{access_groups}
use Rattle.spec_table.specs.View.{view}
use Rattle.spec_table.specs.Policy.{name, row}
use Rattle.spec_table.proofs.laws.Preserved.{answering_kept}
use Rattle.spec_decision.specs.Groups.{Numbered, numbered, groups_of, group_name, group_named, group_answering}

-- ---- rows numbered from n on

pub length_numbered : (n : ℕ) (rows : List (List ℕ)) → length (numbered n rows) ≡ length rows
length_numbered n [] = refl
length_numbered n (r ∷ rows) = ap suc (length_numbered (suc n) rows)

pub numbered_at :
    (n : ℕ) (rows : List (List ℕ)) (d : Numbered) (i : ℕ) → i < length rows → get_or (numbered n rows) i d ≡ record { number = n + i; row = get_or rows i [] }
numbered_at n [] d i l = absurd (omega arith)
numbered_at n (r ∷ rows) d zero l = let e : n ≡ n + 0 = omega arith in ap (λ (k : ℕ). record { number = k; row = r }) e
numbered_at n (r ∷ rows) d (suc i) l =
    let e : suc n + i ≡ n + suc i = omega arith in
    numbered_at (suc n) rows d i (omega arith) ∙ ap (λ (k : ℕ). record { number = k; row = get_or rows i [] }) e

pub map_numbered : (n : ℕ) (rows : List (List ℕ)) {A : Type 0} (f : List ℕ → A) → map (λ g. f g.row) (numbered n rows) ≡ map f rows
map_numbered n [] f = refl
map_numbered n (r ∷ rows) {A} f = ap (λ (l : List A). f r ∷ l) (map_numbered (suc n) rows f)

-- g is one of some rows, which are numbered from n on
pub record Among (n : ℕ) (rows : List (List ℕ)) (g : Numbered) : Type 0 where
  pub index : ℕ
  pub number : g.number ≡ n + index
  pub inside : index < length rows
  pub row : g.row ≡ get_or rows index []

numbered_among : (n : ℕ) (rows : List (List ℕ)) → Every (Among n rows) (numbered n rows)
numbered_among n [] = nil
numbered_among n (r ∷ rows) = cons here (every_implies later (numbered_among (suc n) rows))
  where
    here : Among n (r ∷ rows) (record { number = n; row = r })
    here = record { index = 0; number = omega arith; inside = omega arith; row = refl }

    later : (g : Numbered) → Among (suc n) rows g → Among n (r ∷ rows) g
    later g a = record { index = suc a.index; number = omega (arith, a.number); inside = omega (arith, a.inside); row = a.row }

-- ---- a group of a table, with its number

pub record OfTable (t : List ℕ) (g : Numbered) : Type 0 where
  pub inside : g.number < length ((view t).records access_groups)
  pub row : g.row ≡ row (view t) access_groups g.number

pub groups_stand : (t : List ℕ) → Every (OfTable t) (groups_of t)
groups_stand t = every_implies of_table (numbered_among 0 ((view t).records access_groups))
  where
    of_table : (g : Numbered) → Among 0 ((view t).records access_groups) g → OfTable t g
    of_table g a =
        let e : a.index ≡ g.number = omega (arith, a.number) in
        record {
          inside = omega (arith, a.inside);
          row = a.row ∙ ap (row (view t) access_groups) e;
        }

pub named_stands : (t n : List ℕ) (g : Numbered) → named (group_name t) n (groups_of t) ≡ some g → OfTable t g
named_stands t n g e = every_member (groups_stand t) (first_member (λ h. same (group_name t h) n) (groups_of t) e).0

pub group_stands : (t n : List ℕ) (g : Numbered) → group_named t n ≡ some g → OfTable t g
group_stands t [] g e = named_stands t default_name g e
group_stands t (b ∷ n) g e = named_stands t (b ∷ n) g e

pub answering_stands : (t n : List ℕ) (g : Numbered) → group_answering t n ≡ some g → OfTable t g
answering_stands t [] g e = named_stands t default_name g e
answering_stands t (b ∷ n) g e = go (named (group_name t) (b ∷ n) (groups_of t)) refl e
  where
    go : (o : Option Numbered) → named (group_name t) (b ∷ n) (groups_of t) ≡ o → or_default (group_name t) o (groups_of t) ≡ some g → OfTable t g
    go none h f = named_stands t default_name g f
    go (some x) h f = named_stands t (b ∷ n) g (h ∙ f)

-- so it is the group of its number
pub by_number : {t : List ℕ} {g : Numbered} (i : ℕ) → OfTable t g → g.number ≡ i → g ≡ record { number = i; row = row (view t) access_groups i }
by_number {t} {g} i s e =
    ap (λ (r : List ℕ). record { number = g.number; row = r }) s.row
    ∙ ap (λ (k : ℕ). record { number = k; row = row (view t) access_groups k }) e

-- ---- the record that answers is the answering group's

pub answering_row :
    (t n : List ℕ) → Option.map (λ g. g.row) (group_answering t n) ≡ answering (name (view t) access_groups) n ((view t).records access_groups)
answering_row t n =
    answering_kept
    (group_name t)
    (name (view t) access_groups)
    (λ g. g.row)
    (λ r. r)
    n
    (groups_of t)
    ((view t).records access_groups)
    (map_numbered 0 ((view t).records access_groups) (name (view t) access_groups))
    (map_numbered 0 ((view t).records access_groups) (λ r. r))
    ∙ as_it_is (answering (name (view t) access_groups) n ((view t).records access_groups))
  where
    as_it_is : (o : Option (List ℕ)) → Option.map (λ r. r) o ≡ o
    as_it_is none = refl
    as_it_is (some r) = refl
