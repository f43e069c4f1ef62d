-- What holds of each token of a role holds of all of them: where the cursor stands, how far it went, and the loop that writes them.
use Rattle.std.specs.Prelude.{Bool, true, false, ◌≡◌, refl, ℕ, ◌+◌, ◌*◌, ◌≤◌, length}
use mathlib.Core.List.{List, [], ◌∷◌, ◌++◌}
use Rattle.std.proofs.Math.Path.{sym, ap}
use Rattle.std.proofs.Common.{ap₂, subst, ◌∙◌, add-zero, arith}
use Rattle.std.proofs.Math.ListN.{length-append}
use Rattle.std.proofs.Math.Seq.{sets, length-sets}
use Rattle.spec_lists.specs.Every.{Every, cons}
use Rattle.spec_grammar.specs.declared.Role.{Role}
use Rattle.spec_grammar.specs.Sentence.{Tagged}
use Rattle.spec_file.specs.Contents.{has_role}
use Rattle.byte_write.specs.Put.{Put}
use Rattle.byte_write.specs.laws.Puts.{sets_sets}
use Rattle.load_records.specs.declared.Cursor.{Cursor}
use Rattle.load_records.specs.Cursor.{Bounded, Emitted}
use Rattle.load_records.specs.laws.Bounds.{bounded_more}
use Rattle.load_records.specs.laws.Tokens.{Short}
use Rattle.load_passes.specs.Pass.{each_emits, each_moves}

-- a token says q, or does not
pub by_says : {P : Type 0} (q : Role) (x : Tagged) → (has_role q x ≡ true → P) → (has_role q x ≡ false → P) → P
by_says {P} q x f g = go (has_role q x) refl
  where
    go : (b : Bool) → has_role q x ≡ b → P
    go true e = f e
    go false e = g e

-- the cursor behind one token, and so behind all, is bounded
pub each_bounded :
    (q : Role) (m : Tagged → List Tagged → Cursor → Cursor) (k : ℕ)
    → ((x : Tagged) (xs : List Tagged) (b : ℕ) (p : Cursor) → Short x → Every Short xs → length xs ≤ 16384 → Bounded b p → Bounded (b + k) (m x xs p))
    → {b : ℕ} {p : Cursor} (xs : List Tagged) → Every Short xs → length xs ≤ 16384 → Bounded b p → Bounded (b + k * length xs) (each_moves q m xs p)
unfolding each_moves
each_bounded q m k one [] e l n = bounded_more (omega arith) n
each_bounded q m k one {b} {p} (x ∷ xs) (cons h e) l n =
    by_says
    q
    x
    (λ s. rw s (bounded_more (omega arith) (each_bounded q m k one {b = b + k} {p = m x xs p} xs e (omega arith) (one x xs b p h e (omega arith) n))))
    (λ s. rw s (bounded_more (omega arith) (each_bounded q m k one {b = b} {p = p} xs e (omega arith) n)))

-- e: what is written for a token; m: the cursor behind it
module _ (q : Role) (e : Tagged → List Tagged → Cursor → List ℕ) (m : Tagged → List Tagged → Cursor → Cursor) where
  -- with xs left to write at p, the bytes b become what b₀ becomes with xs₀ at p₀
  pub record Head (b₀ : List ℕ) (p₀ : Cursor) (xs₀ : List Tagged) (b : List ℕ) (p : Cursor) (xs : List Tagged) : Type 0 where
    pub same : length b ≡ length b₀
    pub bytes : sets b p.at (each_emits q e m xs p) ≡ sets b₀ p₀.at (each_emits q e m xs₀ p₀)
    pub moved : each_moves q m xs p ≡ each_moves q m xs₀ p₀

  pub head_start : (b : List ℕ) (p : Cursor) (xs : List Tagged) → Head b p xs b p xs
  head_start b p xs = record { same = refl; bytes = refl; moved = refl }

  pub head_end :
      {b₀ b : List ℕ} {p₀ p : Cursor} {xs₀ : List Tagged} → Head b₀ p₀ xs₀ b p [] → Emitted b₀ b p₀ (each_emits q e m xs₀ p₀) (each_moves q m xs₀ p₀) p
  unfolding each_emits each_moves
  head_end h = record { bytes = h.bytes; moved = h.moved }

  pub head_miss :
      {b₀ b : List ℕ} {p₀ p : Cursor} {xs₀ : List Tagged} {x : Tagged} {xs : List Tagged} → has_role q x ≡ false → Head b₀ p₀ xs₀ b p (x ∷ xs)
      → Head b₀ p₀ xs₀ b p xs
  unfolding each_emits each_moves
  head_miss s h = record { same = h.same; bytes = rw s at h.bytes; moved = rw s at h.moved }

  -- where the cursor moves by what is written
  module _ (by : (x : Tagged) (xs : List Tagged) (p : Cursor) → (m x xs p).at ≡ p.at + length (e x xs p)) where
    pub head_hit :
        {b₀ b c : List ℕ} {p₀ p r : Cursor} {xs₀ : List Tagged} {x : Tagged} {xs : List Tagged} → has_role q x ≡ true
        → Emitted b c p (e x xs p) (m x xs p) r → Head b₀ p₀ xs₀ b p (x ∷ xs) → Head b₀ p₀ xs₀ c r xs
    unfolding each_emits each_moves
    head_hit {b₀} {b} {c} {p₀} {p} {r} {xs₀} {x} {xs} s d h =
        let es = each_emits q e m xs (m x xs p) in
        rw (d.moved, d.bytes)
        (record {
          same = length-sets b p.at (e x xs p) ∙ h.same;
          bytes = ap (λ (k : ℕ). sets (sets b p.at (e x xs p)) k es) (by x xs p) ∙ sets_sets (e x xs p) es b p.at ∙ rw s at h.bytes;
          moved = rw s at h.moved;
        })

    pub each_moves_at : (xs : List Tagged) (p : Cursor) → (each_moves q m xs p).at ≡ p.at + length (each_emits q e m xs p)
    unfolding each_emits each_moves
    each_moves_at [] p = sym (add-zero p.at)
    each_moves_at (x ∷ xs) p =
        by_says
        q
        x
        (λ s. rw s (omega (arith, each_moves_at xs (m x xs p), by x xs p, length-append (e x xs p) (each_emits q e m xs (m x xs p)))))
        (λ s. rw s (each_moves_at xs p))

    -- from a cursor that is known
    pub each_put :
        {b c : List ℕ} (xs : List Tagged) {p t r : Cursor} → p ≡ t → Emitted b c p (each_emits q e m xs p) (each_moves q m xs p) r
        → Put b c t.at (each_emits q e m xs t) (each_moves q m xs t).at × (r ≡ each_moves q m xs t)
    each_put {b} {c} xs {p} {t} {r} i d =
        let z = subst (λ (k : Cursor). Emitted b c k (each_emits q e m xs k) (each_moves q m xs k) r) i d in
        (record { bytes = z.bytes; end = each_moves_at xs t }, z.moved)

-- what is written depends on no cursor if that for one token depends on none
pub each_same :
    (q : Role) (e e' : Tagged → List Tagged → Cursor → List ℕ) (m m' : Tagged → List Tagged → Cursor → Cursor)
    → ((x : Tagged) (xs : List Tagged) (p t : Cursor) → e x xs p ≡ e' x xs t) → (xs : List Tagged) (p t : Cursor)
    → each_emits q e m xs p ≡ each_emits q e' m' xs t
unfolding each_emits
each_same q e e' m m' one [] p t = refl
each_same q e e' m m' one (x ∷ xs) p t =
    by_says
    q
    x
    (λ s. rw s (ap₂ (λ (a b : List ℕ). a ++ b) (one x xs p t) (each_same q e e' m m' one xs (m x xs p) (m' x xs t))))
    (λ s. rw s (each_same q e e' m m' one xs p t))
