-- The table of a file. 01, "The stored table".
use Rattle.std.specs.Prelude.{Bool, true, false, cond, List, [], ◌∷◌, ◌++◌, map, ℕ, ◌+◌, ◌*◌, length, get_or}
use Rattle.std.proofs.Math.Option
use Rattle.std.proofs.Math.Option.{Option, none, some}
use Rattle.spec_lists.specs.Text.{same, lowered}
use Rattle.spec_lists.specs.Select.{joined, beside, beside₃}
use Rattle.spec_lists.specs.Runs.{Run, runs, spread}
use Rattle.spec_rule.specs.Rule.{rank}
use Rattle.spec_file.specs.Limit.{Section, user_groups, host_groups, members, access_groups, inputs, rules, references}
use Rattle.spec_file.specs.Contents.{Group, Link, RuleText, File}
use Rattle.spec_file.specs.Meaning.{switched_off}
use Rattle.spec_table.specs.Layout.{Content, layout}
use Rattle.spec_table.specs.Table.{undefined_number}

abbrev pub run_words : Run → List ℕ
run_words r = r.first ∷ r.count ∷ []

-- ---- what stands in the sections, in file order

-- 3: "Those of user groups first, hosts in lower case"
abbrev pub member_lists : File → List (List (List ℕ))
member_lists f = map (λ g. g.members) f.uags ++ map (λ g. map lowered g.members) f.hags

abbrev pub all_links : File → List Link
all_links f = joined (map (λ a. a.inputs) f.asgs)

abbrev pub all_rules : File → List RuleText
all_rules f = joined (map (λ a. a.rules) f.asgs)

-- 7: "A rule's user references, then its host references"
pub record Reference : Type 0 where
  pub number : ℕ
  pub name : List ℕ

-- the number of the first group of a name, n being the number of the first of them, or 65,535
abbrev pub number_of : ℕ → List ℕ → List Group → ℕ
number_of n s [] = undefined_number
number_of n s (g ∷ gs) = cond (same g.name s) n (number_of (n + 1) s gs)

abbrev pub references_to : List Group → List (List ℕ) → List Reference
references_to gs = map (λ s. record { number = number_of 0 s gs; name = s })

abbrev pub reference_lists : File → List (List Reference)
reference_lists f = joined (map (λ r. references_to f.uags r.uags ∷ references_to f.hags r.hags ∷ []) (all_rules f))

-- 01: "strings stand once each time they are named, in section order (1 to 5, 7, then the calculations)"
abbrev pub names : File → List (List (List ℕ))
names f =
    map (λ g. g.name) f.uags
    ∷ map (λ g. g.name) f.hags
    ∷ joined (member_lists f)
    ∷ map (λ a. a.name) f.asgs
    ∷ map (λ i. i.name) (all_links f)
    ∷ map (λ r. r.name) (joined (reference_lists f))
    ∷ map (λ r. Option.get_or r.calculation []) (all_rules f)
    ∷ []

-- where the strings of the n-th of these stand: 0 user groups, 1 host groups, 2 members, 3 access groups, 4 inputs, 5 references, 6 calculations
abbrev pub spots : File → ℕ → List Run
spots f n = get_or (spread 0 (names f)) n []

-- ---- the records

abbrev pub flag : Bool → ℕ → ℕ
flag true n = n
flag false n = 0

-- 01: "bit 0 level, bits 1 and 2 permission (0, 1, 2), bit 3 trap, bit 4 switched off (its body has an unknown predicate)"
abbrev pub flags : RuleText → ℕ
flags r = r.level + rank r.permission * 2 + flag r.trap 8 + flag (switched_off r) 16

-- "No calculation is 0, 0."
abbrev pub calculation_words : Option (List ℕ) → Run → List ℕ
calculation_words none r = 0 ∷ 0 ∷ []
calculation_words (some s) r = run_words r

-- a rule's two runs of references
abbrev pub two_runs : List Run → List (List ℕ)
two_runs [] = []
two_runs (u ∷ []) = []
two_runs (u ∷ h ∷ rs) = (run_words u ++ run_words h) ∷ two_runs rs

-- 01: "Records stand in file order"; "An empty run's first is the next number."
abbrev pub records : File → Section → List (List ℕ)
records f user_groups = beside (λ name run. run_words name ++ run_words run) (spots f 0) (runs 0 (map (λ g. g.members) f.uags))
records f host_groups =
    beside
    (λ name run. run_words name ++ run_words run)
    (spots f 1)
    (runs (length (joined (map (λ g. g.members) f.uags))) (map (λ g. g.members) f.hags))
records f members = map run_words (spots f 2)
records f access_groups =
    beside₃
    (λ name i r. run_words name ++ (run_words i ++ run_words r))
    (spots f 3)
    (runs 0 (map (λ a. a.inputs) f.asgs))
    (runs 0 (map (λ a. a.rules) f.asgs))
records f inputs = beside (λ i name. i.letter ∷ run_words name) (all_links f) (spots f 4)
records f rules =
    beside₃
    (λ r refs calc. flags r ∷ (refs ++ calculation_words r.calculation calc))
    (all_rules f)
    (two_runs (runs 0 (reference_lists f)))
    (spots f 6)
records f references = beside (λ r name. r.number ∷ run_words name) (joined (reference_lists f)) (spots f 5)

abbrev pub content : File → Content
content f = record { records = records f; strings = joined (joined (names f)) }

-- the table of a file
unfoldable pub table_of : File → List ℕ
table_of f = layout (content f)
