-- Laws of the position of a text in a list.
use Rattle.std.specs.Prelude.{◌≡◌, refl, Bool, true, false, cond, ◌||◌, List, [], ◌∷◌, ℕ, suc, ◌≤◌, ltb, length}
use Rattle.std.proofs.Common.{sym, ◌∙◌, arith, lt-ltb, le-ltb, ltb-true, ltb-false}
use Rattle.spec_lists.specs.Text.{same}
use Rattle.spec_lists.specs.Select.{any}
use Rattle.load_spans.specs.Position.{position}

pub ltb_suc : (a b : ℕ) → ltb (suc a) (suc b) ≡ ltb a b
ltb_suc a b = go (ltb a b) refl
  where
    go : (t : Bool) → ltb a b ≡ t → ltb (suc a) (suc b) ≡ t
    go true e = lt-ltb (suc a) (suc b) (omega (arith, ltb-true a b e))
    go false e = le-ltb (suc a) (suc b) (omega (arith, ltb-false a b e))

-- it is at most the length
pub spot_bound : (t : List ℕ) (ns : List (List ℕ)) → position t ns ≤ length ns
spot_bound t [] = omega arith
spot_bound t (n ∷ ns) = go (same n t) (spot_bound t ns)
  where
    go : (b : Bool) → position t ns ≤ length ns → cond b 0 (suc (position t ns)) ≤ suc (length ns)
    go true h = omega arith
    go false h = omega arith

-- there is such a name if it stands before the end
pub spot_any : (t : List ℕ) (ns : List (List ℕ)) → any (λ n. same n t) ns ≡ ltb (position t ns) (length ns)
spot_any t [] = refl
spot_any t (n ∷ ns) = go (same n t) (spot_any t ns)
  where
    go :
        (b : Bool) → any (λ m. same m t) ns ≡ ltb (position t ns) (length ns)
        → b || any (λ m. same m t) ns ≡ ltb (cond b 0 (suc (position t ns))) (suc (length ns))
    go true e = sym (lt-ltb 0 (suc (length ns)) (omega arith))
    go false e = e ∙ sym (ltb_suc (position t ns) (length ns))
