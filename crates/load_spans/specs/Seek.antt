-- The first token of a file to which something applies in its context.
use Rattle.std.specs.Prelude.{Bool, cond, List, [], ◌∷◌, ℕ, zero, suc, ◌+◌}
use Rattle.spec_grammar.specs.Sentence.{Tagged}
use Rattle.load_tokens.specs.Arrays.{Arrays, tagged_at}
use Rattle.spec_file.specs.Refusal.{Context}
use Rattle.load_spans.specs.Roles.{tokens}

-- how many of the tokens xs, before which b stand, come before the first to which p applies
unfoldable pub seek : (Context → Bool) → List Tagged → List Tagged → ℕ
seek p b [] = 0
seek p b (x ∷ xs) = cond (p (record { backwards = b; here = x; onwards = xs })) 0 (suc (seek p (x ∷ b) xs))

module _ (s : List ℕ) (a : Arrays) (roles : List ℕ) where
  -- the tokens before the i-th, the nearest first
  unfoldable pub earlier : ℕ → List Tagged
  earlier zero = []
  earlier (suc i) = tagged_at s a roles i ∷ earlier i

  -- the i-th of n tokens among the others
  abbrev pub context_at : ℕ → ℕ → Context
  context_at n i = record { backwards = earlier i; here = tagged_at s a roles i; onwards = tokens s a roles (i + 1) n }

  -- what is to find among n tokens from the i-th on
  abbrev pub left : (Context → Bool) → ℕ → ℕ → ℕ
  left p n i = seek p (earlier i) (tokens s a roles i n)
