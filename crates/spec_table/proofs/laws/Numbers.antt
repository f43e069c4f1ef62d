-- In the table of an acceptable file no reference has the number 65,535: 02, ticket 4. Such a table is a table still, but no load makes it.
use Rattle.std.specs.Prelude.{◌≡◌, Bool, true, false, cond, List, [], ◌∷◌, ◌++◌, ℕ, ◌+◌, ◌≤◌, ◌<◌, length}
use Rattle.std.proofs.Common.{ap, ◌∙◌, arith}
use Rattle.spec_lists.specs.Text.{same}
use Rattle.spec_lists.proofs.laws.Same.{same_self}
use Rattle.spec_lists.specs.Every.{Every, nil, cons}
use Rattle.spec_lists.proofs.laws.Every.{every, every_implies, every_map, every_joined}
use Rattle.spec_lists.proofs.laws.Runs.{every_beside}
use Rattle.spec_grammar.specs.Sentence.{Tagged}
use Rattle.spec_rule.specs.Privilege.{here, further}
use Rattle.spec_file.specs.Limit.{references}
use Rattle.spec_file.specs.Contents.{Group, File, file_of}
use Rattle.spec_file.specs.Acceptance.{Acceptable}
use Rattle.spec_file.specs.Defined.{Defined, GroupsDefined}
use Rattle.spec_file.proofs.laws.Defined.{groups_defined}
use Rattle.spec_file.proofs.laws.Theorem.{acceptable_is}
use Rattle.spec_table.specs.View.{view}
use Rattle.spec_table.specs.Table.{number_field, undefined_number}
use Rattle.spec_table.specs.Written.{run_words, number_of, references_to, reference_lists, spots, records, table_of}
use Rattle.spec_table.proofs.laws.Accepted.{fits}
use Rattle.spec_table.proofs.laws.Fits.{Fits}
use Rattle.spec_table.proofs.laws.Theorem.{viewed}

-- the number of a group that is defined is that of one of the groups
number_within : (n : ℕ) (s : List ℕ) (gs : List Group) → Defined gs s → number_of n s gs < n + length gs
number_within n s [] d = elim d [ ]
number_within n s (g ∷ gs) (here e) = rw (ap (λ (t : List ℕ). same t s) e ∙ same_self s) (omega arith)
number_within n s (g ∷ gs) (further d) = go (same g.name s) (number_within (n + 1) s gs d)
  where
    go : (b : Bool) → number_of (n + 1) s gs < n + 1 + length gs → cond b n (number_of (n + 1) s gs) < n + length (g ∷ gs)
    go true h = omega arith
    go false h = omega arith

-- a number that some group has
abbrev Given : ℕ → Type 0
Given n = n ≡ undefined_number → ⊥

module _ (f : File) (ok : Fits f) (d : GroupsDefined f) where
  references_given : (gs : List Group) → length gs ≤ 64 → {ss : List (List ℕ)} → Every (Defined gs) ss → Every (λ r. Given r.number) (references_to gs ss)
  references_given gs l e = every_map (λ s. record { number = number_of 0 s gs; name = s }) (every_implies (λ s h k. omega (arith, number_within 0 s gs h)) e)

  lists_given : Every (Every (λ r. Given r.number)) (reference_lists f)
  lists_given =
      every_joined
      (every_map (λ r. references_to f.uags r.uags ∷ references_to f.hags r.hags ∷ [])
      (every_implies
      (λ r n. cons (references_given f.uags ok.uag_count n.users) (cons (references_given f.hags ok.hag_count n.hosts) nil))
      (every_joined (every_map (λ a. a.rules) d))))

  rows_given : Every (λ row. Given (number_field row)) (records f references)
  rows_given = every_beside (λ r name. r.number ∷ run_words name) (λ r name g u. g) (every_joined lists_given) (every {P = λ name. Unit {0}} (λ name. tt) (spots f 5))

pub numbers_given :
    (s : List ℕ) (xs : List Tagged) → Acceptable s xs → (rest : List ℕ)
    → Every (λ row. number_field row ≡ undefined_number → ⊥) ((view (table_of (file_of xs) ++ rest)).records references)
numbers_given s xs a rest =
    let ok = fits s xs (acceptable_is s xs a) in rw (viewed (file_of xs) ok rest) (rows_given (file_of xs) ok (groups_defined s xs a))
