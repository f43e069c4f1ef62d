-- The file that a well-formed table says keeps the limits.
use Rattle.std.specs.Prelude.{◌≡◌, refl, true, List, [], ◌∷◌, ◌++◌, map, ℕ, ◌+◌, ◌≤◌, eqb, leb, length, drop}
use Rattle.std.proofs.Common.{sym, ap, ◌∙◌, append_assoc, arith, length-take, length-append, take-append-drop, drop_of_length-le, drop-drop, leb-true, eqb-true}
use Rattle.std.proofs.lemmas.List.{length-map}
use Rattle.spec_lists.specs.Select.{all, joined}
use Rattle.spec_lists.specs.Runs.{Run, part}
use Rattle.spec_lists.specs.Every.{Every}
use Rattle.spec_lists.proofs.laws.Both.{both}
use Rattle.spec_lists.proofs.laws.Every.{every, every_map, every_implies, all_every}
use Rattle.spec_lists.proofs.laws.Joined.{each_append, map_joined, map_map}
use Rattle.spec_lists.proofs.laws.Runs.{every_part}
use Rattle.spec_token.specs.Word.{greatest_letter}
use Rattle.spec_rule.specs.Answering.{greatest_level}
use Rattle.spec_file.specs.Limit.{Section, user_groups, host_groups, members, access_groups, inputs, rules, references, most, longest_name}
use Rattle.spec_file.specs.Limit.{longest_calculation}
use Rattle.spec_table.specs.Layout.{Content}
use Rattle.spec_table.specs.Policy.{name, members_of, rule_of}
use Rattle.spec_table.specs.Check.{members_run, inputs_run, rules_run, users_run, hosts_run, calculation_run, name_run, flags_field, letter_field}
use Rattle.spec_table.specs.Check.{level_bit, in_turn, rule_stands, well_formed, string_fits, named_sections}
use Rattle.spec_table.proofs.laws.Standing.{rule_parts, calculation_parts, conditions, records_few, in_runs}
use Rattle.spec_text.proofs.laws.Keeps.{CalculationOf, ShortName, ShortCalculation, Short, AsgNamed, named_in, Few, Keeps}
use Rattle.spec_export.specs.Says.{names_in, group_in, link_in, rule_text_in, asg_in, file_in}
use Rattle.spec_export.proofs.laws.Quotes.{Names, calculation_passes, strings_pass}

-- ---- runs that use up their section

module _ {A : Type 0} (xs : List A) where
  -- what stands in runs that follow each other up to the end of a list is the list from the first of them on
  joined_parts : (n : ℕ) (rs : List Run) → in_turn n rs (length xs) ≡ true → joined (map (λ r. part r xs) rs) ≡ drop n xs
  joined_parts n [] h = sym (drop_of_length-le xs {i = n} (omega (arith, eqb-true n (length xs) h)))
  joined_parts n (r ∷ rs) h =
      let k = both (eqb r.first n) (in_turn (n + r.count) rs (length xs)) h in
      rw (eqb-true r.first n k.0, joined_parts (n + r.count) rs k.1, ← drop-drop r.count n xs) (take-append-drop r.count (drop n xs))

module _ {A B : Type 0} (f : A → B) (xs : List A) where
  -- so what the elements of the runs are read as is what those of the list are read as
  joined_runs : (rs : List Run) → in_turn 0 rs (length xs) ≡ true → joined (map (λ r. map f (part r xs)) rs) ≡ map f xs
  joined_runs rs h =
      ap joined (sym (map_map (map f) (λ r. part r xs) rs)) ∙ sym (map_joined f (map (λ r. part r xs) rs)) ∙ ap (map f) (joined_parts xs 0 rs h)

  -- one run of each record
  joined_rows :
      {R : Type 0} (run : R → Run) (rows : List R) → in_turn 0 (map run rows) (length xs) ≡ true
      → joined (map (λ row. map f (part (run row) xs)) rows) ≡ map f xs
  joined_rows run rows h = ap joined (sym (map_map (λ r. map f (part r xs)) run rows)) ∙ joined_runs (map run rows) h

-- two runs of each record, one behind the other
joined_pairs :
    {A B : Type 0} (g : Run → List B) (u v : A → Run) (rows : List A)
    → joined (map (λ row. g (u row) ++ g (v row)) rows) ≡ joined (map g (joined (map (λ row. u row ∷ v row ∷ []) rows)))
joined_pairs g u v [] = refl
joined_pairs g u v (row ∷ rows) = rw (append_assoc, joined_pairs g u v rows)

-- ---- letters and levels

level_fits : (f : ℕ) → level_bit f ≤ greatest_level
level_fits f = omega arith

letter_fits : (row : List ℕ) → leb (letter_field row) greatest_letter ≡ true → letter_field row ≤ greatest_letter
letter_fits row = leb-true (letter_field row) greatest_letter

-- ---- the limits of a well-formed table

module _ (c : Content) (w : well_formed c ≡ true) where
  -- lengths

  fits_short : (longest : ℕ) (r : Run) → string_fits c longest r ≡ true → length (part r c.strings) ≤ longest
  fits_short longest r h =
      let k = both (leb (r.first + r.count) (length c.strings)) (leb r.count longest) h in
      omega (arith, leb-true r.count longest k.1, length-take r.count (drop r.first c.strings))

  names_short : (s : Section) → all (λ row. string_fits c longest_name (name_run s row)) (c.records s) ≡ true → Names c ShortName s
  names_short s h =
      every_implies
      (λ row f. fits_short longest_name (name_run s row) f)
      (all_every (λ row. string_fits c longest_name (name_run s row)) (c.records s) h)

  calculation_short : (row : List ℕ) → rule_stands c row ≡ true → CalculationOf ShortName ShortCalculation (rule_of c row).calculation
  calculation_short row h =
      calculation_passes c row (λ n.
      let t = calculation_parts c (calculation_run row) (rule_parts c row h).0 n in
      record { short = fits_short longest_calculation (calculation_run row) t.0; tree = t.1 })

  short : Short (file_in c)
  short =
      strings_pass c
      (every_implies names_short (all_every _ named_sections (conditions c w).1))
      (every_implies calculation_short (all_every (rule_stands c) (c.records rules) (conditions c w).3))

  -- what stands in the sections, group by group and rule by rule

  pub members_all : joined (map (members_of c) (c.records user_groups ++ c.records host_groups)) ≡ map (name c members) (c.records members)
  members_all = joined_rows (name c members) (c.records members) members_run (c.records user_groups ++ c.records host_groups) (in_runs c w).0

  pub inputs_all : joined (map (λ a. a.inputs) (file_in c).asgs) ≡ map (link_in c) (c.records inputs)
  inputs_all =
      ap joined (map_map (λ a. a.inputs) (asg_in c) (c.records access_groups))
      ∙ joined_rows (link_in c) (c.records inputs) inputs_run (c.records access_groups) (in_runs c w).1

  pub rules_all : joined (map (λ a. a.rules) (file_in c).asgs) ≡ map (rule_text_in c) (c.records rules)
  rules_all =
      ap joined (map_map (λ a. a.rules) (asg_in c) (c.records access_groups))
      ∙ joined_rows (rule_text_in c) (c.records rules) rules_run (c.records access_groups) (in_runs c w).2

  pub references_all :
      joined (map named_in (joined (map (λ a. a.rules) (file_in c).asgs))) ≡ map (name c references) (c.records references)
  references_all =
      rw (rules_all, map_map named_in (rule_text_in c) (c.records rules), joined_pairs (names_in c) users_run hosts_run (c.records rules))
      (joined_runs (name c references) (c.records references) (joined (map (λ r. users_run r ∷ hosts_run r ∷ []) (c.records rules))) (in_runs c w).3)

  -- counts

  members_few :
      length (joined (map (λ g. g.members) (file_in c).uags)) + length (joined (map (λ g. g.members) (file_in c).hags)) ≤ most members
  members_few =
      let us = c.records user_groups in
      let hs = c.records host_groups in
      rw (map_map (λ g. g.members) (group_in c user_groups) us, map_map (λ g. g.members) (group_in c host_groups) hs)
      (omega (
        arith,
        ap length members_all,
        ap length (each_append (members_of c) us hs),
        length-append (joined (map (members_of c) us)) (joined (map (members_of c) hs)),
        length-map (c.records members) (name c members),
        records_few c w members,
      ))

  few : Few (file_in c)
  few =
      record {
        uags = omega (arith, length-map (c.records user_groups) (group_in c user_groups), records_few c w user_groups);
        hags = omega (arith, length-map (c.records host_groups) (group_in c host_groups), records_few c w host_groups);
        members = members_few;
        asgs = omega (arith, length-map (c.records access_groups) (asg_in c), records_few c w access_groups);
        inputs = rw inputs_all (omega (arith, length-map (c.records inputs) (link_in c), records_few c w inputs));
        rules = rw rules_all (omega (arith, length-map (c.records rules) (rule_text_in c), records_few c w rules));
        references = rw references_all (omega (arith, length-map (c.records references) (name c references), records_few c w references));
      }

  named : Every AsgNamed (file_in c).asgs
  named =
      let letters = every_implies letter_fits (all_every (λ row. leb (letter_field row) greatest_letter) (c.records inputs) (conditions c w).2) in
      every_map (asg_in c)
      (every
      (λ row.
      record {
        letters = every_map (link_in c) (every_part (inputs_run row) letters);
        levels = every_map (rule_text_in c) (every (λ r. level_fits (flags_field r)) (part (rules_run row) (c.records rules)));
      })
      (c.records access_groups))

pub keeps : (c : Content) → well_formed c ≡ true → Keeps (file_in c)
keeps c w = record { short = short c w; named = named c w; few = few c w }
