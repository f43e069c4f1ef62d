-- A well-formed table's records name no string that the file which it says does not have: if all of that file's can be quoted, all of the table's can.
use Rattle.std.specs.Prelude.{◌≡◌, refl, Bool, true, false, cond, List, map, ℕ, eqb, take, drop}
use Rattle.std.proofs.Common.{sym, subst, eqb-true}
use Rattle.std.proofs.Math.Option.{none, some}
use Rattle.spec_lists.specs.Select.{all}
use Rattle.spec_lists.specs.Every.{Every, nil, cons}
use Rattle.spec_lists.proofs.laws.Both.{both}
use Rattle.spec_lists.proofs.laws.Every.{every_append, every_map, every_unmap, every_implies, every_joined, every_all}
use Rattle.spec_token.specs.Token.{BetweenQuotes, nothing}
use Rattle.spec_file.specs.Limit.{user_groups, host_groups, access_groups, inputs, rules}
use Rattle.spec_file.specs.Contents.{Link, Asg}
use Rattle.spec_table.specs.Layout.{Content, sections}
use Rattle.spec_table.specs.Table.{calculation_run, no_calculation}
use Rattle.spec_table.specs.Policy.{string, name, members_of, rule_of}
use Rattle.spec_table.specs.Check.{well_formed}
use Rattle.spec_text.specs.Faults.{quotable}
use Rattle.spec_text.proofs.laws.Keeps.{CalculationOf, with, RuleOf, Quotable, named_in}
use Rattle.spec_text.proofs.laws.Quotable.{quotable_complete}
use Rattle.spec_export.specs.Says.{group_in, link_in, rule_text_in, asg_in, file_in}
use Rattle.spec_export.specs.Unwritable.{strings_in}
use Rattle.spec_export.proofs.laws.Limits.{members_all, inputs_all, rules_all, references_all}

module _ (c : Content) (w : well_formed c ≡ true) (q : Quotable (file_in c)) where
  abbrev P : List ℕ → Type 0
  P = BetweenQuotes

  all_rules : Every (RuleOf P P) (map (rule_text_in c) (c.records rules))
  all_rules = subst (Every (RuleOf P P)) (rules_all c w) (every_joined (every_map (λ (a : Asg). a.rules) (every_implies (λ a k. k.rules) q.asgs)))

  -- the name of a record without calculation is empty
  calculation_back : (row : List ℕ) → CalculationOf P P (rule_of c row).calculation → P (name c rules row)
  calculation_back row k = go (no_calculation (calculation_run row)) refl k
    where
      go :
          (b : Bool) → no_calculation (calculation_run row) ≡ b
          → CalculationOf P P (cond b none (some (string c (calculation_run row)))) → P (name c rules row)
      go true e k =
          let z = both (eqb (calculation_run row).first 0) (eqb (calculation_run row).count 0) e in
          subst (λ n. P (take n (drop (calculation_run row).first c.strings))) (sym (eqb-true (calculation_run row).count 0 z.1)) nothing
      go false e (with s) = s

  each_section : Every (λ s. Every P (map (name c s) (c.records s))) sections
  each_section =
      cons (every_map (name c user_groups) (every_implies (λ row k. k.name) (every_unmap (group_in c user_groups) (c.records user_groups) q.uags)))
      (cons (every_map (name c host_groups) (every_implies (λ row k. k.name) (every_unmap (group_in c host_groups) (c.records host_groups) q.hags)))
      (cons
      (subst (Every P) (members_all c w)
      (every_joined
      (every_map (members_of c)
      (every_append
      (every_implies (λ row k. k.members) (every_unmap (group_in c user_groups) (c.records user_groups) q.uags))
      (every_implies (λ row k. k.members) (every_unmap (group_in c host_groups) (c.records host_groups) q.hags))))))
      (cons (every_map (name c access_groups) (every_implies (λ row k. k.name) (every_unmap (asg_in c) (c.records access_groups) q.asgs)))
      (cons
      (every_map (name c inputs)
      (every_unmap (link_in c) (c.records inputs)
      (subst (Every (λ (i : Link). P i.name)) (inputs_all c w) (every_joined (every_map (λ (a : Asg). a.inputs) (every_implies (λ a k. k.inputs) q.asgs))))))
      (cons (every_map (name c rules) (every_implies (λ row k. calculation_back row k.calculation) (every_unmap (rule_text_in c) (c.records rules) all_rules)))
      (cons
      (subst (Every P) (references_all c w)
      (every_joined
      (every_map named_in
      (every_implies (λ r k. every_append k.uags k.hags)
      (subst (Every (RuleOf P P)) (sym (rules_all c w)) all_rules)))))
      nil))))))

pub quotable_strings : (c : Content) → well_formed c ≡ true → Quotable (file_in c) → all quotable (strings_in c) ≡ true
quotable_strings c w q =
    every_all quotable
    (every_implies (λ s b. quotable_complete s b) (every_joined (every_map (λ s. map (name c s) (c.records s)) (each_section c w q))))
