-- What holds of the names of a table's records holds of the strings of the file that it says.
use Rattle.std.specs.Prelude.{◌≡◌, refl, Bool, true, false, cond, List, map, ℕ}
use Rattle.std.proofs.Math.Option.{none, some}
use Rattle.spec_lists.specs.Select.{all, joined}
use Rattle.spec_lists.specs.Every.{Every, nil, cons}
use Rattle.spec_lists.proofs.laws.Every.{every_map, every_implies, all_every, every_unmap, every_unjoin}
use Rattle.spec_lists.proofs.laws.Runs.{every_part}
use Rattle.spec_token.specs.Token.{BetweenQuotes}
use Rattle.spec_file.specs.Limit.{Section, user_groups, host_groups, members, access_groups, rules, references}
use Rattle.spec_table.specs.Layout.{Content, sections}
use Rattle.spec_table.specs.Table.{members_run, inputs_run, rules_run, users_run, hosts_run, calculation_run, no_calculation, named_sections}
use Rattle.spec_table.specs.Policy.{string, name, rule_of}
use Rattle.spec_text.specs.Faults.{quotable}
use Rattle.spec_text.proofs.laws.Keeps.{CalculationOf, without, with, GroupOf, RuleOf, AsgOf, StringsOf, Quotable}
use Rattle.spec_text.proofs.laws.Quotable.{quotable_sound}
use Rattle.spec_export.specs.Says.{group_in, link_in, rule_text_in, asg_in, file_in}
use Rattle.spec_export.specs.Unwritable.{strings_in}

module _ (c : Content) where
  -- of the names of all records of a section
  abbrev pub Names : (List ℕ → Type 0) → Section → Type 0
  Names P s = Every (λ row. P (name c s row)) (c.records s)

  module _ {P Q : List ℕ → Type 0} where
    -- a calculation that is there passes its test
    pub calculation_passes :
        (row : List ℕ) → (no_calculation (calculation_run row) ≡ false → Q (name c rules row)) → CalculationOf P Q (rule_of c row).calculation
    calculation_passes row h = go (no_calculation (calculation_run row)) h
      where
        go : (b : Bool) → (b ≡ false → Q (name c rules row)) → CalculationOf P Q (cond b none (some (string c (calculation_run row))))
        go true q = without
        go false q = with (q refl)

    pub strings_pass :
        Every (Names P) named_sections → Every (λ row. CalculationOf P Q (rule_of c row).calculation) (c.records rules) → StringsOf P Q (file_in c)
    strings_pass (cons u (cons h (cons m (cons g (cons i (cons r nil)))))) k =
        record {
          uags = every_map (group_in c user_groups) (every_implies (group_passes user_groups) u);
          hags = every_map (group_in c host_groups) (every_implies (group_passes host_groups) h);
          asgs = every_map (asg_in c) (every_implies asg_passes g);
        }
      where
        group_passes : (s : Section) (row : List ℕ) → P (name c s row) → GroupOf P Q (group_in c s row)
        group_passes s row p = record { name = p; members = every_map (name c members) (every_part (members_run row) m) }

        rule_passes : (row : List ℕ) → CalculationOf P Q (rule_of c row).calculation → RuleOf P Q (rule_text_in c row)
        rule_passes row p =
            record {
              uags = every_map (name c references) (every_part (users_run row) r);
              hags = every_map (name c references) (every_part (hosts_run row) r);
              calculation = p;
            }

        asg_passes : (row : List ℕ) → P (name c access_groups row) → AsgOf P Q (asg_in c row)
        asg_passes row p =
            record {
              name = p;
              inputs = every_map (link_in c) (every_part (inputs_run row) i);
              rules = every_map (rule_text_in c) (every_part (rules_run row) (every_implies rule_passes k));
            }

  -- the names of some sections
  names_quotable : (ss : List Section) → all quotable (joined (map (λ s. map (name c s) (c.records s)) ss)) ≡ true → Every (Names BetweenQuotes) ss
  names_quotable ss h =
      every_implies
      (λ s e. every_unmap (name c s) (c.records s) (every_implies quotable_sound e))
      (every_unjoin (λ s. map (name c s) (c.records s)) ss (all_every quotable _ h))

pub strings_quotable : (c : Content) → all quotable (strings_in c) ≡ true → Quotable (file_in c)
strings_quotable c h = go (names_quotable c sections h)
  where
    go : Every (Names c BetweenQuotes) sections → Quotable (file_in c)
    go (cons u (cons h (cons m (cons g (cons i (cons k (cons r nil))))))) =
        strings_pass c
        (cons u (cons h (cons m (cons g (cons i (cons r nil))))))
        (every_implies (λ row q. calculation_passes c row (λ n. q)) k)
