-- The number of a name, from where it stands among the names.
use Rattle.std.specs.Prelude.{refl, Option, Some, None, unwrap_or, position, map, Bool, true, false, cond, List, [], ◌∷◌, ◌≡◌, ℕ, suc, ◌+◌, ltb, length}
use Rattle.std.proofs.Common.{sym, ap, ◌∙◌, arith, lt-ltb, le-ltb}
use Rattle.std.proofs.lemmas.List.{length-map}
use Rattle.spec_lists.specs.Text.{same}
use Rattle.spec_table.specs.Check.{undefined_number}
use Rattle.load_spans.specs.Position as texts
use Rattle.load_spans.specs.laws.Position.{ltb_suc}
use Rattle.load_spans.specs.laws.Tokens.{spot}
use Rattle.load_flags.specs.Tokens.{numbered}

-- the number of a name from where it stands among the names
numbered_spot : (k : ℕ) (s : List ℕ) (ns : List (List ℕ)) → numbered k s ns ≡ cond (ltb (texts.position s ns) (length ns)) (k + texts.position s ns) undefined_number
numbered_spot k s [] = sym (ap (λ (b : Bool). cond b (k + 0) undefined_number) (le-ltb 0 0 (omega arith)))
numbered_spot k s (n ∷ ns) = go (same n s) (numbered_spot (k + 1) s ns)
  where
    go :
        (b : Bool) → numbered (k + 1) s ns ≡ cond (ltb (texts.position s ns) (length ns)) (k + 1 + texts.position s ns) undefined_number
        → cond b k (numbered (k + 1) s ns) ≡ cond (ltb (cond b 0 (suc (texts.position s ns))) (suc (length ns))) (k + cond b 0 (suc (texts.position s ns))) undefined_number
    go true e = let z : k ≡ k + 0 = omega arith in z ∙ sym (ap (λ (b : Bool). cond b (k + 0) undefined_number) (lt-ltb 0 (suc (length ns)) (omega arith)))
    go false e = let z : k + 1 + texts.position s ns ≡ k + suc (texts.position s ns) = omega arith in e ∙ rw (z, ltb_suc (texts.position s ns) (length ns))

-- what the position gives, if there is one, and otherwise 65,535
pub numbered_or : (f : ℕ → List ℕ) (t names : List ℕ) → unwrap_or (position (λ name. same (f name) t) names) 65535 ≡ numbered 0 t (map f names)
numbered_or f t names =
    ap (λ (o : Option ℕ). unwrap_or o 65535) (spot f t names)
    ∙ rw (numbered_spot 0 t (map f names), length-map names f) (go (ltb (texts.position t (map f names)) (length names)))
  where
    go : (b : Bool) → unwrap_or (cond b (Some (texts.position t (map f names))) None) 65535 ≡ cond b (0 + texts.position t (map f names)) undefined_number
    go true = omega arith
    go false = refl
