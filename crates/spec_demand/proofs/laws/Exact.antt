-- The parts of demands 1 and 2 that no crate below states by itself.
use Rattle.std.specs.Prelude.{◌≡◌, refl, true, false, List, ◌++◌, map, ℕ, ◌≤◌, ◌<◌, length, drop, replicate}
use Rattle.std.proofs.Common.{ap, ◌∙◌, le-leb}
use Rattle.std.proofs.lemmas.Bool.{lt-leb}
use Rattle.spec_grammar.specs.Sentence.{Tagged}
use Rattle.spec_rule.specs.declared.Access.TheVariants as access
use Rattle.spec_rule.specs.declared.Stop.TheVariants.{Nothing}
use Rattle.spec_rule.specs.Question.{Question}
use Rattle.spec_file.specs.Contents.{file_of}
use Rattle.spec_file.specs.Limit.{access_groups}
use Rattle.spec_file.specs.Acceptance.{Acceptable}
use Rattle.spec_file.proofs.laws.Theorem.{acceptable_is}
use Rattle.spec_table.specs.Table.{Table}
use Rattle.spec_table.specs.View.{view}
use Rattle.spec_table.specs.Check.{is_table}
use Rattle.spec_table.specs.Policy.{name}
use Rattle.spec_table.proofs.laws.Table.{table_is}
use Rattle.spec_table.specs.Written.{table_of}
use Rattle.spec_table.specs.Layout.{Content, greatest_table}
use Rattle.spec_table.proofs.laws.Accepted.{fits}
use Rattle.spec_table.proofs.laws.Preserved.{names_kept}
use Rattle.spec_table.proofs.laws.Theorem.{viewed, is_a_table, table_length, zeros_no_table}
use Rattle.spec_load.specs.Load.{written, without_room, load}
use Rattle.spec_decision.specs.Decision.{access_in, trap_in, letter_in, decide}
use Rattle.spec_decision.specs.LookUp.{look_up}
use Rattle.spec_decision.specs.Groups.{groups_of, group_name}
use Rattle.spec_decision.proofs.laws.Groups.{map_numbered}
use Rattle.spec_demand.specs.ByFile.{answer_by_file, input_by_file, name_found}
use Rattle.spec_demand.proofs.laws.Inputs.{looked_up}
use Rattle.spec_demand.specs.Calls.{is_accepted}
use Rattle.spec_demand.proofs.laws.Loaded.{stored, decided}

pub zeros_grant_nothing :
    (n : ℕ) (q : Question)
    → let a = decide (replicate n 0) q in (access_in a ≡ access.None) × (trap_in a ≡ false) × (letter_in a ≡ Nothing)
unfolding decide
zeros_grant_nothing n q = rw (zeros_no_table n) (refl, refl, refl)

pub laid_down : (lent s : List ℕ) (xs : List Tagged) → Acceptable s xs → length (table_of (file_of xs)) ≤ length lent → load lent s ≡ written lent xs
unfolding load
laid_down lent s xs a l = rw (acceptable_is s xs a, le-leb (length (table_of (file_of xs))) (length lent) l)

pub not_laid_down : (lent s : List ℕ) (xs : List Tagged) → Acceptable s xs → length lent < length (table_of (file_of xs)) → load lent s ≡ without_room lent xs
unfolding load
not_laid_down lent s xs a l = rw (acceptable_is s xs a, lt-leb (length (table_of (file_of xs))) (length lent) l)

pub stands :
    (s : List ℕ) (xs : List Tagged) → Acceptable s xs → (rest : List ℕ)
    → Table (table_of (file_of xs) ++ rest) × (length (table_of (file_of xs)) ≤ greatest_table)
stands s xs a rest =
    let f = fits s xs (acceptable_is s xs a) in
    ((table_is (table_of (file_of xs) ++ rest)).0 (is_a_table (file_of xs) f rest), table_length (file_of xs) f)

-- what an accepted load leaves is a table
pub leaves_table : (lent s : List ℕ) → is_accepted (load lent s).answer ≡ true → is_table (load lent s).bytes ≡ true
leaves_table lent s e =
    let k = stored lent s e in
    ap is_table k.bytes ∙ is_a_table (file_of k.said) (fits s k.said k.accepted) (drop (length (table_of (file_of k.said))) lent)

pub answers_by_file :
    (s : List ℕ) (xs : List Tagged) → Acceptable s xs → (rest : List ℕ) (q : Question)
    → decide (table_of (file_of xs) ++ rest) q ≡ answer_by_file (file_of xs) q
answers_by_file s xs a rest q = decided (file_of xs) (fits s xs (acceptable_is s xs a)) rest q

pub inputs_by_file :
    (s : List ℕ) (xs : List Tagged) → Acceptable s xs → (rest g : List ℕ) (letter : ℕ)
    → name_found (look_up (table_of (file_of xs) ++ rest) g letter) (table_of (file_of xs) ++ rest) ≡ input_by_file (file_of xs) g letter
inputs_by_file s xs a rest g letter = looked_up (file_of xs) (fits s xs (acceptable_is s xs a)) rest g letter

-- the groups of a loaded table are those of the file, in its order
pub groups_by_file :
    (s : List ℕ) (xs : List Tagged) → Acceptable s xs → (rest : List ℕ)
    → let b = table_of (file_of xs) ++ rest in map (group_name b) (groups_of b) ≡ map (λ a. a.name) (file_of xs).asgs
groups_by_file s xs a rest =
    let f = file_of xs in
    let b = table_of f ++ rest in
    map_numbered 0 ((view b).records access_groups) (name (view b) access_groups)
    ∙ ap (λ (c : Content). map (name c access_groups) (c.records access_groups)) (viewed f (fits s xs (acceptable_is s xs a)) rest)
    ∙ names_kept f
