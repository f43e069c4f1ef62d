-- A search through a file's tokens, one by one, for the first to which a cause applies.
use Rattle.std.specs.Prelude.{◌≡◌, Bool, true, false, List, ℕ, ◌+◌, ◌≤◌, ◌<◌}
use Rattle.std.proofs.Common.{ap, arith}
use Rattle.spec_grammar.specs.Sentence.{Tagged}
use Rattle.spec_file.specs.Refusal.{Context}
use Rattle.load_spans.specs.Roles.{arrays, tokens}
use Rattle.load_spans.specs.Seek.{seek, left}
use Rattle.load_spans.specs.laws.Seek.{earlier_none, left_here, left_on, left_none}
use Rattle.load_spans.specs.Search.{first_of, applies_at}

module _ (p : Context → Bool) (s starts ends roles : List ℕ) (n : ℕ) where
  -- p applies to none before the i-th
  pub record Searched (i : ℕ) : Type 0 where
    pub within : i ≤ n
    pub comes : i + left s (arrays starts ends) roles p n i ≡ first_of p s starts ends roles n

  pub search_first : Searched 0
  search_first =
      record {
        within = omega arith;
        comes = omega (arith, ap (λ (b : List Tagged). seek p b (tokens s (arrays starts ends) roles 0 n)) (earlier_none s (arrays starts ends) roles));
      }

module _ {p : Context → Bool} {s starts ends roles : List ℕ} {n i : ℕ} (q : Searched p s starts ends roles n i) where
  -- it applies here; it does not apply here; there is no more
  pub search_found : i < n → applies_at p s starts ends roles n i ≡ true → i ≡ first_of p s starts ends roles n
  search_found h e = omega (arith, q.comes, left_here s (arrays starts ends) roles p n i h e)

  pub search_on : i < n → applies_at p s starts ends roles n i ≡ false → Searched p s starts ends roles n (i + 1)
  search_on h e = record { within = omega arith; comes = omega (arith, q.comes, left_on s (arrays starts ends) roles p n i h e) }

  pub search_none : n ≤ i → i ≡ first_of p s starts ends roles n
  search_none h = omega (arith, q.comes, left_none s (arrays starts ends) roles p n i h)
