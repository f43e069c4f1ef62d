-- Two lists whose elements stand for each other, one by one, and what follows for lists side by side and for parts.
use Rattle.std.specs.Prelude.{◌≡◌, refl, List, [], ◌∷◌, ◌++◌, map, ℕ, length, get_or}
use Rattle.std.proofs.Common.{sym, ap, ◌∙◌, append-nil, arith}
use Rattle.std.proofs.Math.Path.{fun_ext}
use Rattle.std.proofs.Math.ListN.{get_or-map}
use Rattle.spec_lists.specs.Select.{joined, beside, beside₃}
use Rattle.spec_lists.specs.Runs.{runs, part, spread}
use Rattle.spec_lists.proofs.laws.Joined.{part_runs, part_spread, map_joined, runs_map}

module _ {A B : Type 0} where
  -- R holds of the elements of two lists, pair by pair
  pub data Alike (R : A → B → Type 0) : List A → List B → Type 0 where
    nil₂ : Alike R [] []
    cons₂ : {x : A} {y : B} {xs : List A} {ys : List B} → R x y → Alike R xs ys → Alike R (x ∷ xs) (y ∷ ys)

  pub map_same : {f g : A → B} → ((x : A) → f x ≡ g x) → (xs : List A) → map f xs ≡ map g xs
  map_same e xs = ap (λ (h : A → B). map h xs) (fun_ext e)

module _ {A B C : Type 0} (g : A → C) (h : B → C) where
  -- lists that are read alike
  pub alike : (xs : List A) (ys : List B) → map g xs ≡ map h ys → Alike (λ x y. g x ≡ h y) xs ys
  alike [] [] e = nil₂
  alike [] (y ∷ ys) e = absurd (omega (arith, ap length e))
  alike (x ∷ xs) [] e = absurd (omega (arith, ap length e))
  alike (x ∷ xs) (y ∷ ys) e = cons₂ {x = x} {y = y} (cc) (alike xs ys (cc))

module _ {A B C D E W : Type 0} {P : A → W → Type 0} {Q : B → W → Type 0} {R : C → W → Type 0} (f : A → B → C → D) (g : D → E) (h : W → E) where
  -- what three lists side by side stand for
  pub beside₃_alike :
      {xs : List A} {ys : List B} {zs : List C} {ws : List W}
      → ((x : A) (y : B) (z : C) (w : W) → P x w → Q y w → R z w → g (f x y z) ≡ h w)
      → Alike P xs ws → Alike Q ys ws → Alike R zs ws → map g (beside₃ f xs ys zs) ≡ map h ws
  beside₃_alike e nil₂ nil₂ nil₂ = refl
  beside₃_alike e (cons₂ {x = x} {y = w} p ps) (cons₂ {x = y} q qs) (cons₂ {x = z} r rs) = cc (e x y z w p q r, beside₃_alike e ps qs rs)

-- each list stands in its run, also when its elements are read
pub parts_of :
    {A B : Type 0} (f : A → B) (pre : List B) (xs : List (List A))
    → map (λ r. part r (pre ++ map f (joined xs))) (runs (length pre) xs) ≡ map (map f) xs
parts_of f pre xs = rw (map_joined f xs, ← append-nil (joined (map (map f) xs)), ← runs_map f (length pre) xs) (part_runs pre (map (map f) xs) [])

-- the same for the lists that the elements of one list have
pub runs_alike : {A B : Type 0} (f : A → List B) (xs : List A) → Alike (λ r x. part r (joined (map f xs) ++ []) ≡ f x) (runs 0 (map f xs)) xs
runs_alike f xs = alike (λ r. part r (joined (map f xs) ++ [])) f (runs 0 (map f xs)) xs (part_runs [] (map f xs) [])

-- the lists of the n-th list stand in the n-th list of runs
pub parts_spread : {A : Type 0} (xss : List (List (List A))) (n : ℕ) → map (λ r. part r (joined (joined xss))) (get_or (spread 0 xss) n []) ≡ get_or xss n []
parts_spread {A} xss n =
    sym (get_or-map (map (λ r. part r (joined (joined xss)))) (spread 0 xss) n [])
    ∙ ap (λ (l : List (List (List A))). get_or l n []) (rw append-nil at (part_spread [] xss []))

-- what is read of two lists in two ways, taken together
pub both_read :
    {X Y A B C : Type 0} (k : A → B → C) (g : X → A) (g' : Y → A) (h : X → B) (h' : Y → B) (xs : List X) (ys : List Y)
    → map g xs ≡ map g' ys → map h xs ≡ map h' ys → map (λ x. k (g x) (h x)) xs ≡ map (λ y. k (g' y) (h' y)) ys
both_read k g g' h h' [] [] p q = refl
both_read k g g' h h' [] (y ∷ ys) p q = cc
both_read k g g' h h' (x ∷ xs) [] p q = cc
both_read k g g' h h' (x ∷ xs) (y ∷ ys) p q =
    let a : g x ≡ g' y = cc in
    let b : h x ≡ h' y = cc in
    cc (both_read k g g' h h' xs ys (cc) (cc))

-- an element changed so that nothing else is read of it, in a list beside another
pub beside_alike :
    {A B C : Type 0} (f : A → B → C) (g : A → A) → ((x : A) (y : B) → f (g x) y ≡ f x y) → (xs : List A) (ys : List B)
    → beside f (map g xs) ys ≡ beside f xs ys
beside_alike f g e [] ys = refl
beside_alike f g e (x ∷ xs) [] = refl
beside_alike f g e (x ∷ xs) (y ∷ ys) = cc (e x y, beside_alike f g e xs ys)
