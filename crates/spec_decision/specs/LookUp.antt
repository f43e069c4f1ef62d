-- The look-up of an input's process variable name. 01, "The question".
use Rattle.std.specs.Prelude.{◌≡◌, cond, List, [], ℕ, ◌+◌, eqb}
use Rattle.std.proofs.Math.Option.{Option, none, some}
use Rattle.spec_lists.specs.Select.{first}
use Rattle.spec_lists.specs.Runs.{part}
use Rattle.spec_rule.specs.Answering.{answering}
use Rattle.spec_rule.specs.Privilege.{FirstSuch, Answers}
use Rattle.spec_file.specs.Contents.{File}
use Rattle.spec_file.specs.Limit.{Section, access_groups, inputs}
use Rattle.spec_table.specs.Layout.{Content}
use Rattle.spec_table.specs.View.{view, strings_extent}
use Rattle.spec_table.specs.Table.{name_run, inputs_run, letter_field}
use Rattle.spec_table.specs.Check.{is_table}
use Rattle.spec_table.specs.Policy.{name}
use Rattle.spec_decision.specs.Decision.{not_table_number}
use Rattle.spec_decision.specs.declared.Found.{Found}
use Rattle.spec_decision.specs.declared.Found.TheVariants.{Part, NotTable, NoInput}

-- 01: 22 "no such input in the group"
abbrev pub no_input_number : ℕ
no_input_number = 22

-- 01's number of a refusal
abbrev pub number : Found → Option ℕ
number (Part at length) = none
number NotTable = some not_table_number
number NoInput = some no_input_number

-- the part of the table that it is. 20, 22: "the empty part"
abbrev pub part_in : Found → List ℕ → List ℕ
part_in (Part at length) b = part (record { first = at; count = length }) b
part_in NotTable b = []
part_in NoInput b = []

-- "The look-up takes a letter's first input": the one of the group that answers for g, and what it has
module _ {G I A : Type 0} (name : G → List ℕ) (links : G → List I) (letter_of : I → ℕ) (what : I → A) where
  pub record FirstInput (gs : List G) (g : List ℕ) (letter : ℕ) (a : A) : Type 0 where
    pub group : G
    pub searched : Answers name g gs (some group)
    pub input : I
    pub first : FirstSuch (λ i. letter_of i ≡ letter) (links group) input
    pub has : what input ≡ a

-- by a file, its name
abbrev pub NamesInput : File → List ℕ → ℕ → List ℕ → Type 0
NamesInput f = FirstInput (λ a. a.name) (λ a. a.inputs) (λ l. l.letter) (λ l. l.name) f.asgs

-- "the part of the table that holds" the name of a record of a section
abbrev pub name_part : Section → List ℕ → List ℕ → Found
name_part s b row = Part ((strings_extent b).first + (name_run s row).first) (name_run s row).count

-- the inputs of an access group
abbrev pub links_in : Content → List ℕ → List (List ℕ)
links_in c row = part (inputs_run row) (c.records inputs)

-- by a table, "the part of the table that holds the process variable's name"
abbrev pub FindsInput : List ℕ → List ℕ → ℕ → Found → Type 0
FindsInput b = FirstInput (name (view b) access_groups) (links_in (view b)) letter_field (name_part inputs b) ((view b).records access_groups)

-- ---- A machine that looks up. That it agrees with FindsInput is proved (proofs/laws/LookUp.antt), so nobody has to believe it.

abbrev pub input_of : Content → ℕ → Option (List ℕ) → Option (List ℕ)
input_of c letter none = none
input_of c letter (some row) = first (λ i. eqb (letter_field i) letter) (links_in c row)

abbrev pub named_part : Section → List ℕ → Option (List ℕ) → Found
named_part s b none = NoInput
named_part s b (some row) = name_part s b row

unfoldable pub look_up : List ℕ → List ℕ → ℕ → Found
look_up b g letter =
    cond (is_table b)
    (named_part inputs b (input_of (view b) letter (answering (name (view b) access_groups) g ((view b).records access_groups))))
    NotTable
