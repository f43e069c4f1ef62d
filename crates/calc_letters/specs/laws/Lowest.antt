-- The lowest letter that is not good, by the bad letters of the bytes.
use Rattle.std.specs.Prelude.{◌≡◌, refl, Bool, true, false, cond, List, [], ◌∷◌, ◌++◌, ℕ, min, eqb, ◌||◌, get_or, Option as Maybe, Some, None, ◌⊎◌}
use Rattle.std.specs.List.{fold, reduce, filter_map, cons_option, list_any}
use Rattle.std.proofs.Common.{ap, ◌∙◌, inl, inr, ⊎_elim, arith, eqb-true}
use Rattle.std.proofs.lemmas.Bool.{false≢true}
use Rattle.std.proofs.Math.Option.{Option, none, some}
use types.Run.{OneOf}
use denote.Enum.Declared.{tag_of}
use Rattle.spec_calc.specs.Symbol.{number, letter, operator, not_sign, question, colon, open_paren, close_paren}
use Rattle.spec_calc.specs.Scanner.{Start, blank, figure, wrong, sign, start}
use Rattle.spec_calc.specs.Expression.{Tree}
use Rattle.spec_calc.specs.Value.{letters, lower, lowest}
use Rattle.spec_calc.specs.Reader.{tree_of}
use Rattle.spec_calc.proofs.laws.Symbols.{start_upper, start_lower}
use Rattle.calc_symbol.specs.declared.Class.{Class}
use Rattle.calc_symbol.specs.declared.Class.TheVariants as class
use Rattle.calc_symbol.specs.Scan.{started}
use Rattle.calc_symbol.specs.contracts.Class as class-type
use Rattle.calc_letters.specs.Letters.{given_letter, letter_begun, byte_letters, bad_among, as_found}
use Rattle.calc_letters.specs.laws.Letters.{tree_letters, no_letters, begun_letter, begun_nothing}

-- a number, or a lower letter
abbrev under : ℕ → Option ℕ → ℕ
under m none = m
under m (some j) = min j m

-- a symbol begins with one letter at most
begun_one : (x : Start) → (letter_begun x ≡ []) ⊎ ((i : ℕ) × (letter_begun x ≡ i ∷ []))
begun_one blank = inl refl
begun_one figure = inl refl
begun_one wrong = inl refl
begun_one (sign (number v) m) = inl refl
begun_one (sign (letter i) m) = inr (i, refl)
begun_one (sign (operator o) m) = inl refl
begun_one (sign not_sign m) = inl refl
begun_one (sign question m) = inl refl
begun_one (sign colon m) = inl refl
begun_one (sign open_paren m) = inl refl
begun_one (sign close_paren m) = inl refl

-- an A, of either case
abbrev pub is_a : ℕ → Bool
is_a b = eqb b 65 || eqb b 97

begun_a : (b : ℕ) → is_a b ≡ true → letter_begun (start b []) ≡ 0 ∷ []
begun_a b h = go (eqb b 65) refl h
  where
    go : (t : Bool) → eqb b 65 ≡ t → (t || eqb b 97) ≡ true → letter_begun (start b []) ≡ 0 ∷ []
    go true e h = rw (eqb-true b 65 e) (ap letter_begun (start_upper 65 [] (omega arith) (omega arith)))
    go false e h = rw (eqb-true b 97 h) (ap letter_begun (start_lower 97 [] (omega arith) (omega arith)))

module _ (given : List Bool) where
  -- the letter of a byte that is not given
  abbrev pub bad_of : ℕ → Maybe ℕ
  bad_of b = bad_among given (letter_begun (start b []))

  fold_bad : (s : List ℕ) (m : ℕ) → fold min m (filter_map bad_of s) ≡ under m (lowest (given_letter given) (byte_letters s))
  unfolding byte_letters
  fold_bad [] m = refl
  fold_bad (b ∷ s) m =
      let h = fold_bad s in
      ⊎_elim (λ e. rw e (h m)) (λ e. rw e.1 (go (given_letter given e.0) e.0 (filter_map bad_of s) (lowest (given_letter given) (byte_letters s)) h))
      (begun_one (start b []))
    where
      go :
          (t : Bool) (i : ℕ) (ys : List ℕ) (o : Option ℕ) → ((k : ℕ) → fold min k ys ≡ under k o)
          → fold min m (cons_option (cond t None (Some i)) ys) ≡ under m (cond t o (some (lower i o)))
      go true i ys o h = h m
      go false i ys none h = h (min m i) ∙ omega arith
      go false i ys (some j) h = h (min m i) ∙ omega arith

  pub lowest_found : (s : List ℕ) → as_found (reduce min (filter_map bad_of s)) ≡ lowest (given_letter given) (byte_letters s)
  unfolding byte_letters
  lowest_found [] = refl
  lowest_found (b ∷ s) =
      let h = lowest_found s in
      ⊎_elim (λ e. rw e h)
      (λ e. rw e.1 (go (given_letter given e.0) e.0 (filter_map bad_of s) (lowest (given_letter given) (byte_letters s)) h (fold_bad s e.0)))
      (begun_one (start b []))
    where
      go :
          (t : Bool) (i : ℕ) (ys : List ℕ) (o : Option ℕ) → as_found (reduce min ys) ≡ o → fold min i ys ≡ under i o
          → as_found (reduce min (cons_option (cond t None (Some i)) ys)) ≡ cond t o (some (lower i o))
      go true i ys o h k = h
      go false i ys none h k = ap some k
      go false i ys (some j) h k = ap some (k ∙ omega arith)

  -- ---- a bad A: none is lower

  module _ (k : given_letter given 0 ≡ false) where
    pub a_found : (s : List ℕ) → list_any is_a s ≡ true → lowest (given_letter given) (byte_letters s) ≡ some 0
    unfolding byte_letters
    a_found [] h = absurd (false≢true h)
    a_found (b ∷ s) h = go (is_a b) refl (a_found s) h
      where
        here : (o : Option ℕ) → lower 0 o ≡ 0
        here none = refl
        here (some j) = omega arith

        go :
            (t : Bool) → is_a b ≡ t → (list_any is_a s ≡ true → lowest (given_letter given) (byte_letters s) ≡ some 0)
            → (t || list_any is_a s) ≡ true → lowest (given_letter given) (letter_begun (start b []) ++ byte_letters s) ≡ some 0
        go true e l h = rw (begun_a b e, k) (ap some (here (lowest (given_letter given) (byte_letters s))))
        go false e l h = ⊎_elim (λ q. rw q (l h)) (λ q. rw (q.1, l h) (by (given_letter given q.0) q.0)) (begun_one (start b []))
          where
            by : (t : Bool) (i : ℕ) → cond t (some 0) (some (lower i (some 0))) ≡ some 0
            by true i = refl
            by false i = ap some (omega arith)

  -- of a calculation
  pub lowest_same : (s : List ℕ) (t : Tree) → tree_of s ≡ some t → lowest (given_letter given) (byte_letters s) ≡ lowest (given_letter given) (letters t)
  lowest_same s t e = ap (lowest (given_letter given)) (tree_letters s t e)

  -- ---- one byte

  module _ (b : ℕ) (r : Class) (er : (y : List ℕ) → start b y ≡ started r b y) where
    module _ {i : ℕ} (e : r ≡ class.Letter i) where
      pub is_good : get_or given i false ≡ true → None ≡ bad_of b
      is_good k = rw (begun_letter b r er e, k)

      pub is_bad : get_or given i false ≡ false → Some i ≡ bad_of b
      is_bad k = rw (begun_letter b r er e, k)

    pub is_other : OneOf no_letters (tag_of class-type.the_type r) → None ≡ bad_of b
    is_other h = rw (begun_nothing b r er h)
