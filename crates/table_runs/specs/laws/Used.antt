-- Laws of the runs of a table.
use Rattle.std.specs.Prelude.{◌≡◌, refl, Option, Some, None, Bool, true, false, ◌&&◌, List, [], ◌∷◌, ◌++◌, map, ℕ, ◌<◌, eqb, length}
use Rattle.std.specs.Option.{option_eq}
use Rattle.std.proofs.Common.{sym, ap, ap₂, subst, ◌∙◌}
use Rattle.std.proofs.Math.Bool.{and_assoc}
use Rattle.spec_lists.specs.Select.{joined}
use Rattle.spec_lists.specs.Runs.{Run}
use Rattle.spec_lists.proofs.laws.Joined.{map_append}
use Rattle.spec_file.specs.Limit.{Section, order, user_groups, host_groups, members, access_groups, inputs, rules, references}
use Rattle.spec_table.proofs.laws.Fields.{view_count}
use Rattle.spec_table.specs.View.{count_of, view}
use Rattle.spec_table.specs.Check.{run_at, members_run, users_run, hosts_run, in_turn, runs_stand}
use Rattle.table_runs.specs.Follow.{Follow, runs_in, all_runs, members_follow}
use Rattle.table_runs.specs.laws.Follow.{follow_gap, follow_end}

singles : (j : ℕ) (rows : List (List ℕ)) → joined (map (runs_in (j ∷ [])) rows) ≡ map (run_at j) rows
singles j [] = refl
singles j (row ∷ rows) = ap (λ (rs : List Run). run_at j row ∷ rs) (singles j rows)

pairs : (rows : List (List ℕ)) → joined (map (runs_in (1 ∷ 3 ∷ [])) rows) ≡ joined (map (λ r. users_run r ∷ hosts_run r ∷ []) rows)
pairs [] = refl
pairs (row ∷ rows) = ap (λ (rs : List Run). users_run row ∷ hosts_run row ∷ rs) (pairs rows)

module _ (b : List ℕ) where
  -- the number of records that runs reach
  pub reaches :
      (of : Section) {c from limit : ℕ} {rs : List Run} {r : Option ℕ} → c ≡ count_of b (order of) → Follow rs from limit r
      → option_eq eqb r (Some c) ≡ in_turn from rs (length ((view b).records of))
  reaches of {r = None} p t = sym (follow_gap (length ((view b).records of)) t)
  reaches of {r = Some m} p t = ap (λ (k : ℕ). eqb m k) (p ∙ sym (view_count b of)) ∙ sym (follow_end (length ((view b).records of)) t)

  group_runs : all_runs b user_groups (2 ∷ []) ++ all_runs b host_groups (2 ∷ []) ≡ map members_run ((view b).records user_groups ++ (view b).records host_groups)
  group_runs =
      ap₂ ◌++◌ (singles 2 ((view b).records user_groups)) (singles 2 ((view b).records host_groups))
      ∙ sym (map_append members_run ((view b).records user_groups) ((view b).records host_groups))

  pub members_reach :
      {c limit : ℕ} {r : Option ℕ} → c ≡ count_of b (order members)
      → Follow (all_runs b user_groups (2 ∷ []) ++ all_runs b host_groups (2 ∷ [])) 0 limit r → option_eq eqb r (Some c) ≡ members_follow (view b)
  members_reach {limit = limit} {r = r} p t = reaches members p (subst (λ (rs : List Run). Follow rs 0 limit r) group_runs t)

  abbrev pub Used : Section → List ℕ → Section → Bool
  Used s starts of = in_turn 0 (all_runs b s starts) (length ((view b).records of))

  pub runs_are :
      runs_stand (view b)
      ≡ ((members_follow (view b) && Used access_groups (2 ∷ []) inputs) && Used access_groups (4 ∷ []) rules) && Used rules (1 ∷ 3 ∷ []) references
  runs_are =
      sym
      (and_assoc (members_follow (view b) && Used access_groups (2 ∷ []) inputs) (Used access_groups (4 ∷ []) rules) (Used rules (1 ∷ 3 ∷ []) references)
      ∙ and_assoc (members_follow (view b)) (Used access_groups (2 ∷ []) inputs) (Used access_groups (4 ∷ []) rules && Used rules (1 ∷ 3 ∷ []) references)
      ∙ ap
      (λ (t : Bool). members_follow (view b) && t)
      (ap₂
      ◌&&◌
      (ap (λ (rs : List Run). in_turn 0 rs (length ((view b).records inputs))) (singles 2 ((view b).records access_groups)))
      (ap₂
      ◌&&◌
      (ap (λ (rs : List Run). in_turn 0 rs (length ((view b).records rules))) (singles 4 ((view b).records access_groups)))
      (ap (λ (rs : List Run). in_turn 0 rs (length ((view b).records references))) (pairs ((view b).records rules))))))
