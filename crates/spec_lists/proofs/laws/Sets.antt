-- What stores leave outside of where they write, and what stands inside.
use Rattle.std.specs.Prelude.{◌≡◌, refl, List, [], ◌∷◌, ◌++◌, ℕ, zero, suc, ◌+◌, ◌-◌, ◌≤◌, ◌<◌, length, get_or, set, take, drop}
use Rattle.std.proofs.Common.{sym, ap, ◌∙◌, append_assoc, add-zero, arith, length-set, length-drop, get_or-set_same, get_or-set_other, drop-set-lt, drop-drop, drop_at, length-take-le}
use Rattle.std.proofs.lemmas.List.Edits.{sets, sets-eq}
use Rattle.std.proofs.lemmas.List.{take-set-le, drop-set-add, take-append-le, drop-append-le}
use Rattle.std.proofs.Math.Seq.{take-set-lt, take-append_seam}
use Rattle.spec_lists.specs.Runs.{Run, part}

module _ {A : Type 0} where
  -- ---- an element

  pub get_d_sets_before : (vs b : List A) (at i : ℕ) (d : A) → i < at → get_or (sets b at vs) i d ≡ get_or b i d
  get_d_sets_before [] b at i d h = refl
  get_d_sets_before (v ∷ vs) b at i d h =
      get_d_sets_before vs (set b at v) (suc at) i d (omega arith) ∙ get_or-set_other b at i v d (λ e. omega arith)

  pub get_or_sets_behind : (vs b : List A) (at i : ℕ) (d : A) → at + length vs ≤ i → get_or (sets b at vs) i d ≡ get_or b i d
  get_or_sets_behind [] b at i d h = refl
  get_or_sets_behind (v ∷ vs) b at i d h =
      get_or_sets_behind vs (set b at v) (suc at) i d (omega arith) ∙ get_or-set_other b at i v d (λ e. omega arith)

  pub get_d_sets : (vs b : List A) (at i : ℕ) (d : A) → at + length vs ≤ length b → i < length vs → get_or (sets b at vs) (at + i) d ≡ get_or vs i d
  get_d_sets [] b at i d h l = absurd (omega arith)
  get_d_sets (v ∷ vs) b at zero d h l =
      rw (add-zero at) (get_d_sets_before vs (set b at v) (suc at) at d (omega arith) ∙ get_or-set_same b at v d (omega arith))
  get_d_sets (v ∷ vs) b at (suc i) d h l =
      let z : at + suc i ≡ suc at + i = omega arith in
      rw z (get_d_sets vs (set b at v) (suc at) i d (omega (arith, length-set b at v)) (omega arith))

  -- ---- a part that lies before, behind or around

  pub part_set_before : (r : Run) (b : List A) (at : ℕ) (v : A) → r.first + r.count ≤ at → part r (set b at v) ≡ part r b
  part_set_before r b at v h =
      let z : at ≡ r.first + (at - r.first) = omega arith in
      ap (λ (k : ℕ). part r (set b k v)) z
      ∙ ap (take r.count) (drop-set-add r.first b (at - r.first) v)
      ∙ take-set-le r.count (drop r.first b) (at - r.first) v (omega arith)

  pub part_set_behind : (r : Run) (b : List A) (at : ℕ) (v : A) → at < r.first → part r (set b at v) ≡ part r b
  part_set_behind r b at v h = ap (take r.count) (drop-set-lt r.first b at v h)

  pub part_set : (r : Run) (b : List A) (i : ℕ) (v : A) → i < r.count → part r (set b (r.first + i) v) ≡ set (part r b) i v
  part_set r b i v h = ap (take r.count) (drop-set-add r.first b i v) ∙ take-set-lt r.count (drop r.first b) i v h

  pub part_sets_before : (vs : List A) (r : Run) (b : List A) (at : ℕ) → r.first + r.count ≤ at → part r (sets b at vs) ≡ part r b
  part_sets_before [] r b at h = refl
  part_sets_before (v ∷ vs) r b at h = part_sets_before vs r (set b at v) (suc at) (omega arith) ∙ part_set_before r b at v h

  pub part_sets_behind : (vs : List A) (r : Run) (b : List A) (at : ℕ) → at + length vs ≤ r.first → part r (sets b at vs) ≡ part r b
  part_sets_behind [] r b at h = refl
  part_sets_behind (v ∷ vs) r b at h = part_sets_behind vs r (set b at v) (suc at) (omega arith) ∙ part_set_behind r b at v (omega arith)

  pub part_sets : (vs : List A) (r : Run) (b : List A) (i : ℕ) → i + length vs ≤ r.count → part r (sets b (r.first + i) vs) ≡ sets (part r b) i vs
  part_sets [] r b i h = refl
  part_sets (v ∷ vs) r b i h =
      let z : suc (r.first + i) ≡ r.first + suc i = omega arith in
      rw (z, part_sets vs r (set b (r.first + i) v) (suc i) (omega arith), part_set r b i v (omega arith))

  -- ---- a part of what was stored

  drop_sets : (vs b : List A) (at : ℕ) → at + length vs ≤ length b → drop at (sets b at vs) ≡ vs ++ drop (at + length vs) b
  drop_sets vs b at h =
      ap (drop at) (sets-eq vs b at h ∙ append_assoc (take at b) vs (drop (at + length vs) b))
      ∙ drop_at (take at b) (vs ++ drop (at + length vs) b) at (length-take-le at b (omega arith))

  pub part_sets_all : (vs b : List A) (at : ℕ) → at + length vs ≤ length b → part (record { first = at; count = length vs }) (sets b at vs) ≡ vs
  part_sets_all vs b at h = ap (take (length vs)) (drop_sets vs b at h) ∙ take-append_seam vs (drop (at + length vs) b)

  pub part_sets_inside :
      (vs : List A) (r : Run) (b : List A) (at : ℕ) → at + length vs ≤ length b → r.first + r.count ≤ length vs
      → part (record { first = at + r.first; count = r.count }) (sets b at vs) ≡ part r vs
  part_sets_inside vs r b at h l =
      let rest = drop (at + length vs) b in
      ap
      (take r.count)
      (sym (drop-drop r.first at (sets b at vs)) ∙ ap (drop r.first) (drop_sets vs b at h) ∙ drop-append-le r.first vs rest (omega arith))
      ∙ take-append-le r.count (drop r.first vs) rest (omega (arith, length-drop r.first vs))
