-- Laws of runs that are taken one after the other.
use Rattle.std.specs.Prelude.{◌≡◌, refl, Option, Some, None, Bool, true, false, List, [], ◌∷◌, ◌++◌, map, ℕ, ◌+◌, ◌≤◌, ◌<◌, eqb, length, drop, get_or}
use Rattle.std.proofs.Common.{sym, ap, subst, ◌∙◌, append_assoc, append-nil, arith, eq-eqb, ne_eqb}
use Rattle.std.proofs.Math.Seq.{drop-length}
use Rattle.spec_lists.specs.Select.{joined}
use Rattle.spec_lists.specs.Runs.{Run}
use Rattle.spec_rule.proofs.laws.Walk.{list_on}
use Rattle.spec_table.specs.Check.{run_at, in_turn}
use Rattle.table_runs.specs.Follow.{reached, Follow, runs_in}

module _ (r : Run) (at limit : ℕ) where
  pub starts_here : (m : ℕ) → r.first ≡ at → at + r.count ≡ m → m ≤ limit → Follow (r ∷ []) at limit (Some m)
  starts_here m e a l = record { same = λ more x. rw (eq-eqb r.first at e, a); small = l }

  pub starts_elsewhere : (r.first ≡ at → ⊥) → Follow (r ∷ []) at limit None
  starts_elsewhere e = record { same = λ more x. rw (ne_eqb r.first at e); small = omega arith }

module _ {xs : List Run} {from limit : ℕ} where
  -- the same runs, as the answer turned out
  pub known_end : {r s : Option ℕ} → r ≡ s → Follow xs from limit r → Follow xs from limit s
  known_end e t = subst (λ (r : Option ℕ). Follow xs from limit r) e t

  pub with_limit : {r : Option ℕ} (l : ℕ) → reached r ≤ l → Follow xs from limit r → Follow xs from l r
  with_limit l h t = record { same = t.same; small = h }

  pub gap_then : Follow xs from limit None → (ys : List Run) (l : ℕ) → Follow (xs ++ ys) from l None
  gap_then t ys l =
      record { same = λ more e. ap (λ (rs : List Run). in_turn from rs e) (append_assoc xs ys more) ∙ t.same (ys ++ more) e; small = omega arith }

  pub follow_on : {m l : ℕ} {ys : List Run} {r : Option ℕ} → Follow xs from limit (Some m) → Follow ys m l r → Follow (xs ++ ys) from l r
  follow_on {ys = ys} t u =
      record {
        same = λ more e. ap (λ (rs : List Run). in_turn from rs e) (append_assoc xs ys more) ∙ t.same (ys ++ more) e ∙ u.same more e;
        small = u.small;
      }

-- with no runs behind them
alone : (xs : List Run) (from e : ℕ) → in_turn from xs e ≡ in_turn from (xs ++ []) e
alone xs from e = ap (λ (rs : List Run). in_turn from rs e) (sym (append-nil xs))

module _ {xs : List Run} {from limit : ℕ} (e : ℕ) where
  pub follow_gap : Follow xs from limit None → in_turn from xs e ≡ false
  follow_gap t = alone xs from e ∙ t.same [] e

  pub follow_end : {m : ℕ} → Follow xs from limit (Some m) → in_turn from xs e ≡ eqb m e
  follow_end t = alone xs from e ∙ t.same [] e

-- runs of many, of which the first i are taken
module _ {A : Type 0} (f : A → List Run) (d : A) where
  pub record Followed (xs : List A) (from i at : ℕ) : Type 0 where
    pub same : (more : List Run) (e : ℕ) → in_turn from (joined (map f xs) ++ more) e ≡ in_turn at (joined (map f (drop i xs)) ++ more) e

  pub followed_none : (xs : List A) (from : ℕ) → Followed xs from 0 from
  followed_none xs from = record { same = λ more e. refl }

  module _ (xs : List A) (from i at : ℕ) (g : Followed xs from i at) where
    next :
        i < length xs → (more : List Run) (e : ℕ)
        → in_turn from (joined (map f xs) ++ more) e ≡ in_turn at (f (get_or xs i d) ++ (joined (map f (drop (i + 1) xs)) ++ more)) e
    next h more e =
        g.same more e
        ∙ ap (λ (ys : List A). in_turn at (joined (map f ys) ++ more) e) (list_on xs d i h)
        ∙ ap (λ (rs : List Run). in_turn at rs e) (append_assoc (f (get_or xs i d)) (joined (map f (drop (i + 1) xs))) more)

    pub followed_next : {m l : ℕ} → i < length xs → Follow (f (get_or xs i d)) at l (Some m) → Followed xs from (i + 1) m
    followed_next h t = record { same = λ more e. next h more e ∙ t.same (joined (map f (drop (i + 1) xs)) ++ more) e }

    pub followed_gap : {l : ℕ} → i < length xs → Follow (f (get_or xs i d)) at l None → (limit : ℕ) → Follow (joined (map f xs)) from limit None
    followed_gap h t limit = record { same = λ more e. next h more e ∙ t.same (joined (map f (drop (i + 1) xs)) ++ more) e; small = omega arith }

    pub followed_all : i ≡ length xs → (limit : ℕ) → at ≤ limit → Follow (joined (map f xs)) from limit (Some at)
    followed_all h limit l =
        record {
          same = λ more e. g.same more e ∙ ap (λ (n : ℕ). in_turn at (joined (map f (drop n xs)) ++ more) e) h ∙ rw (drop-length xs);
          small = l;
        }
