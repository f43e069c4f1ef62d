-- How many records each section of a file's table has.
use Rattle.std.specs.Prelude.{List, [], ◌∷◌, map, ◌≡◌, refl, ℕ, suc, ◌+◌, length}
use Rattle.std.proofs.Common.{ap, arith, length-append}
use Rattle.std.proofs.lemmas.List.{length-map}
use Rattle.spec_lists.proofs.laws.Joined.{length_runs}
use Rattle.spec_lists.proofs.laws.Runs.{beside_length}
use Rattle.spec_lists.specs.Runs.{runs}
use Rattle.spec_lists.specs.Select.{joined}
use Rattle.spec_grammar.specs.declared.Role.TheVariants.{UagName, HagName, User, Host, AsgName, Input, RuleWord}
use Rattle.spec_grammar.specs.Sentence.{Tagged}
use Rattle.spec_file.specs.Contents.{file_of, groups, RuleText, File}
use Rattle.spec_file.specs.Limit.{user_groups, host_groups, members, access_groups, inputs, rules, references}
use Rattle.spec_table.specs.Written.{two_runs, records, references_to, reference_lists}
use Rattle.load_flags.specs.Tokens.{size}
use Rattle.load_sections.specs.Sections.{from}
use Rattle.load_write.specs.laws.Flat.{flat_links, flat_rules, length_cuts}
use Rattle.load_write.specs.laws.GroupRecords.{clauses_size}
use Rattle.load_write.specs.laws.Sections.{file_members}

-- two runs for each
two_runs_of : {A B : Type 0} (g h : A → List B) (k : ℕ) (xs : List A) → length (two_runs (runs k (joined (map (λ x. g x ∷ h x ∷ []) xs)))) ≡ length xs
two_runs_of g h k [] = refl
two_runs_of g h k (x ∷ xs) = ap suc (two_runs_of g h (k + length (g x) + length (h x)) xs)

module _ (xs : List Tagged) where
  pub count_users : length (records (file_of xs) user_groups) ≡ size UagName xs
  count_users = simp (beside_length, length_runs, length-map, clauses_size) (omega arith)

  pub count_hosts : length (records (file_of xs) host_groups) ≡ size HagName xs
  count_hosts = simp (beside_length, length_runs, length-map, clauses_size) (omega arith)

  pub count_members : length (records (file_of xs) members) ≡ size User (from UagName xs) + size Host (from HagName xs)
  count_members = simp (length_runs, length-map, file_members xs, length-append)

  pub count_access : length (records (file_of xs) access_groups) ≡ size AsgName xs
  count_access = simp (beside_length, length_runs, length-map, clauses_size) (omega arith)

  pub count_inputs : length (records (file_of xs) inputs) ≡ size Input (from AsgName xs)
  count_inputs = simp (flat_links xs, beside_length, length_runs, length-map, length_cuts) (omega arith)

  pub count_rules : length (records (file_of xs) rules) ≡ size RuleWord (from AsgName xs)
  count_rules =
      simp (
        flat_rules xs,
        beside_length,
        two_runs_of (λ (r : RuleText). references_to (groups UagName User xs) r.uags) (λ (r : RuleText). references_to (groups HagName Host xs) r.hags),
        length_runs,
        length-map,
        length_cuts,
      )
      (omega arith)

pub count_references : (f : File) → length (records f references) ≡ length (joined (reference_lists f))
count_references f = simp (beside_length, length_runs, length-map) (omega arith)
