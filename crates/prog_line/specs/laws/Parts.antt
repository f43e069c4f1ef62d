-- Laws of the parts of a line.
use Rattle.std.specs.Prelude.{◌≡◌, refl, Bool, true, false, cond, ◌&&◌, List, [], ◌∷◌, ℕ, suc, ◌+◌, ◌-◌, ◌≤◌, ◌==◌, ◌≢◌, eqb, ltb, length, take, drop, get_or, position, None, Some, unwrap_or}
use Rattle.std.proofs.Common.{sym, ap, subst, ◌∙◌, arith, add-one, ltb-false, length-take-le, drop-cons, take_all, take-suc, length-drop}
use Rattle.std.proofs.lemmas.List.Sums.{prefix_len-le-length}
use Rattle.std.proofs.Math.Seq.{drop-length}
use Rattle.spec_lists.specs.Select.{nonempty}
use Rattle.prog_line.specs.Line.{split, level_of, Line, refused, of_parts}
use Rattle.prog_line.specs.Parts.{part_length, behind, no_next, Next, LevelFirst}

space_first : (b : ℕ) (s : List ℕ) → eqb b 32 ≡ true → part_length (b ∷ s) ≡ 0
space_first b s e = rw e refl

byte_first : (b : ℕ) (s : List ℕ) → eqb b 32 ≡ false → part_length (b ∷ s) ≡ suc (part_length s)
byte_first b s e = rw e (omega arith)

-- a text is its first part and those behind it
pub parts : (s : List ℕ) → split s ≡ take (part_length s) s ∷ behind (drop (part_length s) s)
unfolding split
parts [] = refl
parts (b ∷ s) = go (eqb b 32) refl (parts s)
  where
    at : (n : ℕ) → part_length (b ∷ s) ≡ n → split (b ∷ s) ≡ take n (b ∷ s) ∷ behind (drop n (b ∷ s)) → split (b ∷ s) ≡ take (part_length (b ∷ s)) (b ∷ s) ∷ behind (drop (part_length (b ∷ s)) (b ∷ s))
    at n e h = subst (λ (k : ℕ). split (b ∷ s) ≡ take k (b ∷ s) ∷ behind (drop k (b ∷ s))) (sym e) h

    go :
        (t : Bool) → eqb b 32 ≡ t → split s ≡ take (part_length s) s ∷ behind (drop (part_length s) s)
        → split (b ∷ s) ≡ take (part_length (b ∷ s)) (b ∷ s) ∷ behind (drop (part_length (b ∷ s)) (b ∷ s))
    go true e i = at 0 (space_first b s e) (rw e refl)
    go false e i = at (suc (part_length s)) (byte_first b s e) (rw (e, i) refl)

pub short : (s : List ℕ) → part_length s ≤ length s
short s = prefix_len-le-length _ s

pub first_space : (s : List ℕ) → unwrap_or (position (λ b. b == 32) s) (length s) ≡ part_length s
first_space s = go (ltb (part_length s) (length s)) refl
  where
    go : (t : Bool) → ltb (part_length s) (length s) ≡ t → unwrap_or (cond t (Some (part_length s)) None) (length s) ≡ part_length s
    go true e = refl
    go false e = let z = ltb-false _ _ e in let y = short s in omega arith

-- ---- a part and those behind it

pub rest_is : (s : List ℕ) (n : ℕ) → take (length s - n) (drop n s) ≡ drop n s
rest_is s n = take_all (length s - n) (drop n s) (omega (arith, length-drop n s))

module _ (s : List ℕ) where
  pub no_first : part_length s ≡ 0 → no_next (split s) ≡ true
  no_first e = rw (parts s, e) (go (behind s))
    where
      go : (ps : List (List ℕ)) → no_next ([] ∷ ps) ≡ true
      go [] = refl
      go (q ∷ ps) = refl

  pub no_second : part_length s ≡ length s → no_next (split s) ≡ true
  no_second e = rw (parts s, e, drop-length s) refl

  pub first_part : part_length s ≢ 0 → part_length s ≢ length s → Next s (take (part_length s) s) (take (length s - (part_length s + 1)) (drop (part_length s + 1) s))
  first_part h k =
      let l = short s in
      record {
        fills = go s h;
        reads = parts s ∙ ap (λ (ps : List (List ℕ)). take (part_length s) s ∷ ps) (rw (rest_is s (part_length s + 1), add-one (part_length s), drop-cons s (part_length s) 0 (omega arith)) refl);
      }
    where
      go : (t : List ℕ) → part_length t ≢ 0 → nonempty (take (part_length t) t) ≡ true
      go [] f = absurd (f refl)
      go (b ∷ t) f = digits (eqb b 32) refl f
        where
          digits : (x : Bool) → eqb b 32 ≡ x → part_length (b ∷ t) ≢ 0 → nonempty (take (part_length (b ∷ t)) (b ∷ t)) ≡ true
          digits true e g = absurd (g (space_first b t e))
          digits false e g = subst (λ (k : ℕ). nonempty (take k (b ∷ t)) ≡ true) (sym (byte_first b t e)) refl

-- ---- the level

level_none : (s : List ℕ) → (length s ≡ 1 → ⊥) → level_of s ≡ None
level_none [] h = refl
level_none (d ∷ []) h = absurd (h refl)
level_none (d ∷ e ∷ s) h = refl

no_level : (g u h s : List ℕ) (ps : List (List ℕ)) → level_of s ≡ None → of_parts (g ∷ u ∷ h ∷ s ∷ ps) ≡ refused
unfolding of_parts
no_level g u h s ps e = rw e (go (nonempty g && (nonempty u && nonempty h)))
  where
    go : (t : Bool) → ◌≡◌ {A = Line} (cond t refused refused) refused
    go true = refl
    go false = refl

module _ (s : List ℕ) where
  pub wrong_width : part_length s ≢ 1 → (g u h : List ℕ) → of_parts (g ∷ u ∷ h ∷ split s) ≡ refused
  wrong_width k g u h =
      rw (parts s) (no_level g u h (take (part_length s) s) (behind (drop (part_length s) s))
      (level_none (take (part_length s) s) (λ q. k (let n = length-take-le (part_length s) s (short s) in omega arith))))

  module _ (k : part_length s ≡ 1) where
    there : 1 ≤ length s
    there = let l = short s in omega arith

    one : take 1 s ≡ get_or s 0 0 ∷ []
    one = take-suc s 0 0 there

    here : split s ≡ take 1 s ∷ behind (drop 1 s)
    here = rw k at (parts s)

    pub no_digit : level_of (get_or s 0 0 ∷ []) ≡ None → (g u h : List ℕ) → of_parts (g ∷ u ∷ h ∷ split s) ≡ refused
    no_digit f g u h = rw here (no_level g u h (take 1 s) (behind (drop 1 s)) (ap level_of one ∙ f))

    pub a_digit : {d : ℕ} → level_of (get_or s 0 0 ∷ []) ≡ Some d → LevelFirst s d (take (length s - 1) (drop 1 s))
    a_digit f =
        record {
          part = take 1 s;
          is = ap level_of one ∙ f;
          reads = here ∙ ap (λ (r : List ℕ). take 1 s ∷ behind r) (sym (rest_is s 1));
        }
