-- The tokens of an accepted file are a list of their own, and define few groups.
use Rattle.std.specs.Prelude.{◌≡◌, List, [], ◌∷◌, ℕ, ◌≤◌, length, take, Result, Ok, Err}
use Rattle.std.proofs.Common.{ap, ◌∙◌}
use native.Mathlib.Omega.{arith}
use Rattle.spec_lists.proofs.laws.Sums.{sum, length_sum}
use Rattle.spec_grammar.specs.declared.Role.TheVariants.{UagName, HagName}
use Rattle.load_tokens.specs.Arrays.{Arrays, tagged_from}
use Rattle.load_tokens.specs.declared.Token.{Token}
use Rattle.load_tokens.specs.Views.{kept, roles}
use Rattle.spec_file.specs.Limit.{user_groups, host_groups}
use Rattle.spec_file.specs.Contents.{texts}
use Rattle.spec_file.specs.Refusal.{contexts}
use Rattle.spec_file.proofs.laws.Counted.{once, clear, sum_texts, counted_roles}
use Rattle.spec_file.specs.declared.Refusal.{Refusal}
use Rattle.spec_file.specs.Load.{refuse, accept, verdict}
use Rattle.spec_file.proofs.laws.Causes.{unanswered}
use Rattle.spec_file.proofs.laws.Theorem.{accepted_is}
use Rattle.load_spans.specs.Roles.{tally}
use Rattle.load_spans.specs.laws.Roles.{tally_is}
use Rattle.load_syntax.specs.Syntax.{count, final_verdict, tagged}
use Rattle.load_judge.specs.Judged.{Judged}
use Rattle.load_judge.specs.laws.Taken.{FitsAll, fits_taken}

module _ (s : List ℕ) (a : Arrays) (rs : List ℕ) (n : ℕ) (e : verdict s ≡ accept (tagged_from s a rs 0 n)) where
  few_users : tally 1 rs 0 n ≤ 64
  unfolding sum
  few_users =
      let xs = tagged_from s a rs 0 n in
      let c = (clear (contexts xs) (unanswered (contexts xs) (accepted_is s xs e).uncaused)).few in
      omega (
        arith,
        tally_is s a rs 1 0 n (record { some = omega arith; known = omega arith }),
        length_sum (texts UagName xs),
        sum_texts UagName (λ t. 1) xs,
        counted_roles user_groups (UagName ∷ []) (λ x. (once x).user_group) xs c,
      )

  few_hosts : tally 3 rs 0 n ≤ 64
  unfolding sum
  few_hosts =
      let xs = tagged_from s a rs 0 n in
      let c = (clear (contexts xs) (unanswered (contexts xs) (accepted_is s xs e).uncaused)).few in
      omega (
        arith,
        tally_is s a rs 3 0 n (record { some = omega arith; known = omega arith }),
        length_sum (texts HagName xs),
        sum_texts HagName (λ t. 1) xs,
        counted_roles host_groups (HagName ∷ []) (λ x. (once x).host_group) xs c,
      )

module _ {s : List ℕ} {ts : List Token} {r : Result ℕ (Refusal × ℕ)} (f : Judged s ts r) where
  pub refused_as : {k : Refusal × ℕ} → r ≡ Err k → verdict s ≡ refuse k.0 k.1
  refused_as e = f.same ∙ ap (final_verdict s ts) e

  module _ {n : ℕ} (e : r ≡ Ok n) where
    -- the tokens of an accepted text are a list of their own
    pub accepted_as : verdict s ≡ accept (tagged s (take n ts))
    accepted_as = f.same ∙ ap (final_verdict s ts) e

    pub accepted_room : n ≤ length ts
    accepted_room = omega (arith, ap count e, f.within)

    pub accepted_fit : FitsAll s (take n ts)
    accepted_fit =
        let k : count r ≡ n = ap count e in
        fits_taken s ts n f.short (omega (arith, f.few)) accepted_room (rw k at f.good)

    pub few_user_groups : tally 1 (roles (take n ts)) 0 (length (take n ts)) ≤ 64
    few_user_groups = few_users s (kept (take n ts)) (roles (take n ts)) (length (take n ts)) accepted_as

    pub few_host_groups : tally 3 (roles (take n ts)) 0 (length (take n ts)) ≤ 64
    few_host_groups = few_hosts s (kept (take n ts)) (roles (take n ts)) (length (take n ts)) accepted_as
