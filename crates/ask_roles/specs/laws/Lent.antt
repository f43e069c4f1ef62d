-- Roles as they are lent, one length after the other: whether they fit, and whether one of them is a name.
use Rattle.std.specs.Prelude.{◌≡◌, refl, Bool, true, false, cond, ◌&&◌, List, [], ◌∷◌, ℕ, suc, ◌+◌, ◌≤◌, ◌<◌, min, leb, length, take, drop, get_or}
use Rattle.std.specs.List.{list_all, sum}
use Rattle.std.proofs.lemmas.List.Recursion.{is_sum_by}
use Rattle.std.proofs.Common.{sym, ap, ap₂, ◌∙◌, arith, length-drop, drop_of_length-le, take_all, length-take-le, leb-true, leb-false, le-leb}
use Rattle.std.proofs.lemmas.Bool.{false≢true, lt-leb}
use Rattle.std.proofs.Math.Seq.{take-length, drop-length}
use Rattle.spec_lists.specs.Select.{all, total}
use Rattle.spec_rule.specs.Roles.{most_roles, longest_role, roles_fit, cut_roles, too_many_roles, lent_roles}
use Rattle.spec_rule.proofs.laws.Walk.{list_on}

-- ---- roles that fit

abbrev short : ℕ → Bool
short n = leb n longest_role

cut_count : (pool ns : List ℕ) → length (cut_roles pool ns) ≡ length ns
cut_count pool [] = refl
cut_count pool (n ∷ ns) = ap suc (cut_count (drop n pool) ns)

-- inside the pool each role is as long as its length says
cut_short : (pool ns : List ℕ) → total ns ≤ length pool → all (λ r. leb (length r) longest_role) (cut_roles pool ns) ≡ all short ns
cut_short pool [] h = refl
cut_short pool (n ∷ ns) h =
    ap₂
    (λ (k : ℕ) (b : Bool). short k && b)
    (length-take-le n pool (omega arith))
    (cut_short (drop n pool) ns (omega (arith, length-drop n pool)))

pub lent_fit : (pool ns : List ℕ) → roles_fit (lent_roles pool ns) ≡ leb (length ns) most_roles && (all short ns && leb (total ns) (length pool))
lent_fit pool ns = go (leb (total ns) (length pool)) refl
  where
    inside : leb (total ns) (length pool) ≡ true → roles_fit (cut_roles pool ns) ≡ leb (length ns) most_roles && all short ns
    inside e = ap₂ (λ (k : ℕ) (b : Bool). leb k most_roles && b) (cut_count pool ns) (cut_short pool ns (leb-true (total ns) (length pool) e))

    and_true : (a : Bool) → a && true ≡ a
    and_true true = refl
    and_true false = refl

    and_false : (a b : Bool) → a && (b && false) ≡ false
    and_false true true = refl
    and_false true false = refl
    and_false false b = refl

    go :
        (t : Bool) → leb (total ns) (length pool) ≡ t
        → roles_fit (cond t (cut_roles pool ns) too_many_roles) ≡ leb (length ns) most_roles && (all short ns && t)
    go true e = inside e ∙ ap (λ (b : Bool). leb (length ns) most_roles && b) (sym (and_true (all short ns)))
    go false e = sym (and_false (leb (length ns) most_roles) (all short ns))

-- roles that fit stand inside the pool
pub lent_cut : (pool ns : List ℕ) → roles_fit (lent_roles pool ns) ≡ true → lent_roles pool ns ≡ cut_roles pool ns
lent_cut pool ns = go (leb (total ns) (length pool))
  where
    go :
        (t : Bool) → roles_fit (cond t (cut_roles pool ns) too_many_roles) ≡ true → cond t (cut_roles pool ns) too_many_roles ≡ cut_roles pool ns
    go true e = refl
    go false e = absurd (false≢true e)

-- in the words of the library
all_is : (p : ℕ → Bool) (ns : List ℕ) → list_all p ns ≡ all p ns
all_is p [] = refl
all_is p (n ∷ ns) = ap (λ (b : Bool). p n && b) (all_is p ns)

total_is : (ns : List ℕ) → total ns ≡ sum ns
total_is ns = is_sum_by total (λ n. n) refl (λ n l. refl) ns

module _ (pool ns : List ℕ) where
  pub fit_by :
      {a : Bool} {n : ℕ} → length ns ≤ most_roles → a ≡ list_all short ns → n ≡ sum ns
      → a && leb n (length pool) ≡ roles_fit (lent_roles pool ns)
  fit_by l e f = sym (lent_fit pool ns ∙ rw (le-leb (length ns) most_roles l, ← all_is short ns, total_is ns, ← e, ← f))

  pub too_many : most_roles < length ns → roles_fit (lent_roles pool ns) ≡ false
  too_many l = lent_fit pool ns ∙ rw (lt-leb (length ns) most_roles l)

-- ---- one of the roles is a name

-- as far as the pool goes
module _ (xs : List ℕ) (n : ℕ) where
  go_least : {A : Type 0} (f : ℕ → A) → (length xs ≤ n → f (length xs) ≡ f n) → f (min (length xs) n) ≡ f n
  go_least f h = by (leb (length xs) n) refl
    where
      by : (t : Bool) → leb (length xs) n ≡ t → f (min (length xs) n) ≡ f n
      by true e = let l = leb-true (length xs) n e in let x : min (length xs) n ≡ length xs = omega arith in ap f x ∙ h l
      by false e = let l = leb-false (length xs) n e in let x : min (length xs) n ≡ n = omega arith in ap f x

  take_least : take (min (length xs) n) xs ≡ take n xs
  take_least = go_least (λ k. take k xs) (λ l. take-length xs ∙ sym (take_all n xs l))

  drop_least : drop (min (length xs) n) xs ≡ drop n xs
  drop_least = go_least (λ k. drop k xs) (λ l. drop-length xs ∙ sym (drop_of_length-le xs l))

-- the next role, and what is left of the pool behind it
pub role_on :
    (pool ns : List ℕ) {role later : List ℕ} {n m : ℕ} (i : ℕ) → i < length ns → n ≡ get_or ns i 0 → m ≡ min (length pool) n
    → role ≡ take m pool → later ≡ drop m pool → cut_roles pool (drop i ns) ≡ role ∷ cut_roles later (drop (i + 1) ns)
role_on pool ns {n = n} i l d e f g =
    ap (cut_roles pool) (list_on ns 0 i l ∙ ap (λ (k : ℕ). k ∷ drop (i + 1) ns) (sym d))
    ∙ ap₂
    (λ (r p : List ℕ). r ∷ cut_roles p (drop (i + 1) ns))
    (sym (f ∙ ap (λ (k : ℕ). take k pool) e ∙ take_least pool n))
    (sym (g ∙ ap (λ (k : ℕ). drop k pool) e ∙ drop_least pool n))
