-- The lowest free place, place by place.
use Rattle.std.specs.Prelude.{◌≡◌, refl, Option, Some, None, option_map, Bool, cond, List, ◌∷◌, map, ℕ, zero, suc, ◌+◌, ◌-◌, eqb, get_or}
use Rattle.std.specs.List.{find, range_with_len}
use Rattle.std.proofs.lemmas.Bool.Decides.{nat_tests}
use Rattle.std.proofs.Common.{sym, ap, ap₂, ne_eqb, subst, ◌∙◌, add-one, add-zero, arith}
use Rattle.std.proofs.Math.Option as math
use Rattle.std.proofs.Math.Option.{none, some}
use Rattle.spec_rule.specs.Kept.{says_stands}
use Rattle.spec_register.specs.Register.{Client, most_clients}
use Rattle.spec_register.specs.Right.{from}
use Rattle.spec_register.specs.Refusal.{lowest_free}
use Rattle.spec_places.specs.Storage.{at_place, client_in, client_from}
use Rattle.reg_bytes.specs.Placed.{free_place}

eqb_suc : (k n : ℕ) → eqb k n ≡ eqb (suc k) (suc n)
eqb_suc k n = grind (arith, nat_tests)

-- how many stand from p on before the lowest that is free
abbrev pub free_from : (ℕ → math.Option Client) → ℕ → ℕ
free_from f p = lowest_free (map f (from p (most_clients - p)))

module _ (b : List ℕ) where
  abbrev is_free : ℕ → Bool
  is_free p = eqb (get_or b (at_place p) 0) 0

  -- of n places from p on, k stand before the lowest that is free
  abbrev found : ℕ → ℕ → ℕ → Option ℕ
  found p n k = cond (eqb k n) None (Some (p + k))

  abbrev taken_from : ℕ → ℕ → ℕ
  taken_from p n = lowest_free (map (client_in b) (from p n))

  found_on : (p n k : ℕ) → found (p + 1) n k ≡ found p (suc n) (suc k)
  found_on p n k = let e : p + 1 + k ≡ p + suc k = omega arith in ap₂ (λ (t : Bool) (m : ℕ). cond t None (Some m)) (eqb_suc k n) e

  find_free : (p n : ℕ) → find is_free (range_with_len p n) ≡ found p n (taken_from p n)
  find_free p zero = refl
  find_free p (suc n) =
      by
      (get_or b (at_place p) 0)
      (subst (λ (q : ℕ). find is_free (range_with_len (p + 1) n) ≡ found (p + 1) n (taken_from q n)) (add-one p) (find_free (p + 1) n))
    where
      by :
          (v : ℕ) → find is_free (range_with_len (p + 1) n) ≡ found (p + 1) n (taken_from (suc p) n)
          → cond (eqb v 0) (Some p) (find is_free (range_with_len (p + 1) n))
          ≡ found p (suc n) (lowest_free (cond (says_stands v) (some (client_from b (at_place p))) none ∷ map (client_in b) (from (suc p) n)))
      by zero h = rw (ne_eqb 0 (suc n) (λ e. absurd (omega arith))) (ap Some (sym (add-zero p)))
      by (suc v) h = rw (ne_eqb (suc v) 0 (λ e. absurd (omega arith))) (h ∙ found_on p n (taken_from (suc p) n))

  pub free_first : find is_free (range_with_len 0 64) ≡ free_place b
  free_first = find_free 0 64 ∙ ap (λ (k : ℕ). cond (eqb (free_from (client_in b) 0) 64) None (Some k)) (omega arith)

pub same_option : (r : Option ℕ) → option_map (λ x. x) r ≡ r
same_option (Some x) = refl
same_option None = refl
