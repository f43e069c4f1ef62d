-- Every text is acceptable or refusable, and never both; for one reading, or for one refusal at one place.
use Rattle.std.specs.Prelude.{◌≡◌, refl, List, ◌⊎◌, ℕ}
use Rattle.std.proofs.Common.{sym, ◌∙◌, inl, inr, arith}
use Rattle.spec_grammar.specs.Sentence.{Tagged}
use Rattle.spec_file.specs.declared.Refusal.{Refusal}
use Rattle.spec_file.specs.Acceptance.{Acceptable, Refusable}
use Rattle.spec_file.specs.Load.{Verdict, refuse, accept, verdict}
use Rattle.spec_file.proofs.laws.Theorem.{accepted_is, acceptable_is, refused_is, refusable_is}

pub acceptable_or_refusable : (s : List ℕ) → ((xs : List Tagged) × Acceptable s xs) ⊎ ((r : Refusal) × (p : ℕ) × Refusable s r p)
acceptable_or_refusable s = go (verdict s) refl
  where
    go : (v : Verdict) → verdict s ≡ v → ((xs : List Tagged) × Acceptable s xs) ⊎ ((r : Refusal) × (p : ℕ) × Refusable s r p)
    go (accept xs) e = inl (xs, accepted_is s xs e)
    go (refuse r p) e = inr (r, p, refused_is s r p e)

module _ {s : List ℕ} where
  pub never_acceptable_and_refusable : {xs : List Tagged} {r : Refusal} {p : ℕ} → Acceptable s xs → Refusable s r p → ⊥
  never_acceptable_and_refusable {xs} {r} {p} a b = let e = sym (acceptable_is s xs a) ∙ refusable_is s r p b in let z : ◌≡◌ {A = ℕ} 0 1 = cc in omega arith

  pub one_reading : {xs ys : List Tagged} → Acceptable s xs → Acceptable s ys → xs ≡ ys
  one_reading {xs} {ys} a b = cc (acceptable_is s xs a, acceptable_is s ys b)

  pub one_refusal : {r q : Refusal} {p o : ℕ} → Refusable s r p → Refusable s q o → (r ≡ q) × (p ≡ o)
  one_refusal {r} {q} {p} {o} a b = let e = sym (refusable_is s r p a) ∙ refusable_is s q o b in (cc, cc)
