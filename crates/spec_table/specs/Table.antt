-- When a slice is a table. 01, "A slice is a table exactly if ..". No reader of calculations stands here.
use Rattle.std.specs.Prelude.{◌≡◌, Bool, true, ◌&&◌, ◌||◌, List, [], ◌∷◌, ◌++◌, map, ◌⊎◌, ℕ, ◌+◌, ◌/◌, ◌%◌, eqb, leb, ltb, length, get_or}
use Rattle.spec_lists.specs.Select.{all, joined}
use Rattle.spec_lists.specs.Runs.{Run, part}
use Rattle.spec_lists.specs.Every.{Every}
use Rattle.spec_token.specs.Word.{greatest_letter}
use Rattle.spec_calc.specs.Expression.{Tree, Parses}
use Rattle.spec_file.specs.Limit.{Section, user_groups, host_groups, members, access_groups, inputs, rules, references, most, most_bytes, longest_name}
use Rattle.spec_file.specs.Limit.{longest_calculation}
use Rattle.spec_table.specs.Layout.{Content, sections, form, header_bytes}
use Rattle.spec_table.specs.View.{form_of, total_of, extents, view}

-- two neighbouring words of a record: a string's offset and length, or a run's first and count
abbrev pub run_at : ℕ → List ℕ → Run
run_at i row = record { first = get_or row i 0; count = get_or row (i + 1) 0 }

-- ---- the fields of the records, in 01's order

-- 1, 2: "name, first member, count"
abbrev pub members_run : List ℕ → Run
members_run = run_at 2

-- 4: "name, first input, count, first rule, count"
abbrev pub inputs_run : List ℕ → Run
inputs_run = run_at 2

abbrev pub rules_run : List ℕ → Run
rules_run = run_at 4

-- 5: "letter 0 to 20, name"; 7: "group number (65,535 if undefined), name"
abbrev pub letter_field : List ℕ → ℕ
letter_field row = get_or row 0 0

abbrev pub number_field : List ℕ → ℕ
number_field row = get_or row 0 0

-- 6: "flags, first user reference, count, first host reference, count, calculation"
abbrev pub flags_field : List ℕ → ℕ
flags_field row = get_or row 0 0

abbrev pub users_run : List ℕ → Run
users_run = run_at 1

abbrev pub hosts_run : List ℕ → Run
hosts_run = run_at 3

abbrev pub calculation_run : List ℕ → Run
calculation_run = run_at 5

-- where a record's name stands in it; a rule has no name, its string is its calculation
abbrev pub name_run : Section → List ℕ → Run
name_run user_groups = run_at 0
name_run host_groups = run_at 0
name_run members = run_at 0
name_run access_groups = run_at 0
name_run inputs = run_at 1
name_run rules = calculation_run
name_run references = run_at 1

-- "Flags: bit 0 level, bits 1 and 2 permission (0, 1, 2), bit 3 trap, bit 4 switched off [..], the rest 0"
abbrev pub level_bit : ℕ → ℕ
level_bit f = f % 2

abbrev pub permission_bits : ℕ → ℕ
permission_bits f = f / 2 % 4

abbrev pub trap_bit : ℕ → ℕ
trap_bit f = f / 8 % 2

abbrev pub bits_from_4 : ℕ → ℕ
bits_from_4 f = f / 16

-- "group number (65,535 if undefined)"
abbrev pub undefined_number : ℕ
undefined_number = 65535

-- ---- the conditions

-- runs that follow each other from n without gap or overlap up to e
abbrev pub in_turn : ℕ → List Run → ℕ → Bool
in_turn n [] e = eqb n e
in_turn n (r ∷ rs) e = eqb r.first n && in_turn (n + r.count) rs e

-- "form, sections", "its length fits the slice"
abbrev pub sections_stand : List ℕ → Bool
sections_stand b =
    leb header_bytes (length b)
    && (eqb (form_of b) form && (in_turn header_bytes (extents b) (total_of b) && leb (total_of b) (length b)))

-- "counts [..] obey 5 and 6 (strings at most 16,384 bytes)"
abbrev pub counts_fit : Content → Bool
counts_fit c = all (λ s. leb (length (c.records s)) (most s)) sections && leb (length c.strings) most_bytes

-- "runs of a kind follow each other in record order without gap or overlap, user before host, and use up their section"
abbrev pub runs_stand : Content → Bool
runs_stand c =
    in_turn 0 (map members_run (c.records user_groups ++ c.records host_groups)) (length (c.records members))
    && (in_turn 0 (map inputs_run (c.records access_groups)) (length (c.records inputs))
    && (in_turn 0 (map rules_run (c.records access_groups)) (length (c.records rules))
    && in_turn 0 (joined (map (λ r. users_run r ∷ hosts_run r ∷ []) (c.records rules))) (length (c.records references))))

-- "every string [..] lies in its section", "string lengths obey 5"
abbrev pub string_fits : Content → ℕ → Run → Bool
string_fits c longest r = leb (r.first + r.count) (length c.strings) && leb r.count longest

-- the sections whose records have a name
abbrev pub named_sections : List Section
named_sections = user_groups ∷ host_groups ∷ members ∷ access_groups ∷ inputs ∷ references ∷ []

-- "every string [..] lies in its section", for the names
abbrev pub names_fit : Content → Bool
names_fit c = all (λ s. all (λ row. string_fits c longest_name (name_run s row)) (c.records s)) named_sections

-- "No calculation is 0, 0."
abbrev pub no_calculation : Run → Bool
no_calculation r = eqb r.first 0 && eqb r.count 0

-- "each calculation is allowed apart from its letters having inputs"
abbrev pub CalculationStands : Content → Run → Type 0
CalculationStands c r =
    (no_calculation r ≡ true) ⊎ ((t : Tree) × (string_fits c longest_calculation r ≡ true) × Parses (part r c.strings) t)

-- "every [..] group number (65,535 aside) lies in its section": a run of references to the groups of the section s
abbrev pub numbers_fit : Content → Section → Run → Bool
numbers_fit c s r =
    all
    (λ row. eqb (number_field row) undefined_number || ltb (number_field row) (length (c.records s)))
    (part r (c.records references))

-- "permissions and flag bits have the values named"
abbrev pub flags_stand : ℕ → Bool
flags_stand f = ltb (permission_bits f) 3 && ltb (bits_from_4 f) 2

-- "letters [..] have the values named"
abbrev pub letters_stand : Content → Bool
letters_stand c = all (λ row. leb (letter_field row) greatest_letter) (c.records inputs)

-- 01: "A slice is a table exactly if"
pub record Table (b : List ℕ) : Type 0 where
  -- "form, sections [..] are as above", "its length fits the slice"
  pub sections : sections_stand b ≡ true
  -- "runs are as above"
  pub runs : runs_stand (view b) ≡ true
  -- "counts and string lengths obey 5 and 6", "every string [..] lies in its section"
  pub counts : counts_fit (view b) ≡ true
  pub names : names_fit (view b) ≡ true
  -- "every [..] group number (65,535 aside) lies in its section"
  pub users : Every (λ row. numbers_fit (view b) user_groups (users_run row) ≡ true) ((view b).records rules)
  pub hosts : Every (λ row. numbers_fit (view b) host_groups (hosts_run row) ≡ true) ((view b).records rules)
  -- "letters, permissions and flag bits have the values named"
  pub letters : letters_stand (view b) ≡ true
  pub flags : Every (λ row. flags_stand (flags_field row) ≡ true) ((view b).records rules)
  -- "each calculation is allowed apart from its letters having inputs"
  pub calculations : Every (λ row. CalculationStands (view b) (calculation_run row)) ((view b).records rules)
