-- What fits into a place: a client that no call refuses, and what a place keeps of it.
use Rattle.std.specs.Prelude.{◌≡◌, refl, Bool, true, false, cond, not, ◌||◌, List, ◌++◌, ℕ, ◌≤◌, leb, length, drop}
use Rattle.std.proofs.Math.Option.{Option, none, some}
use Rattle.std.proofs.Common.{arith, length-append, length-take, length-drop, leb-true}
use Rattle.std.proofs.lemmas.List.{length-map}
use Rattle.std.proofs.lemmas.Bool.{not-false}
use Rattle.spec_lists.specs.Select.{first_if}
use Rattle.spec_lists.specs.Runs.{part}
use Rattle.spec_lists.proofs.laws.Both.{neither}
use Rattle.spec_calc.specs.declared.Reading.{Reading}
use Rattle.spec_rule.specs.Rule.{stands}
use Rattle.spec_rule.specs.Kept.{bit}
use Rattle.spec_rule.specs.Answering.{a_level, greatest_level}
use Rattle.spec_file.specs.Limit.{longest_name, rules, access_groups}
use Rattle.spec_table.specs.View.{view}
use Rattle.spec_table.specs.Table.{rules_run}
use Rattle.spec_table.specs.Check.{is_table}
use Rattle.spec_table.specs.Policy.{rule_of, row}
use Rattle.spec_table.proofs.laws.Standing.{records_few}
use Rattle.spec_table.proofs.laws.Standing as table
use Rattle.spec_register.specs.declared.Refused.TheVariants.{LongName, BadLevel, NoPlace, NoClient}
use Rattle.spec_register.specs.Register.{Client, Register}
use Rattle.spec_register.specs.Refusal.{long_name, bad_level, all_taken, no_client, add_refusal, change_refusal}
use Rattle.spec_decision.specs.Groups.{answering_number}
use Rattle.spec_places.specs.Storage.{client_bytes, nothing_kept}
use Rattle.spec_places.specs.Writing.{asked, rules_at, kept_by, kept}

-- names of at most 60 bytes, and a level
pub record Fits (c : Client) : Type 0 where
  pub group : length c.group ≤ longest_name
  pub user : length c.user ≤ longest_name
  pub host : length c.host ≤ longest_name
  pub level : c.level ≤ greatest_level

pub client_length : (c : Client) → Fits c → length (client_bytes c) ≤ 185
client_length c f = omega (arith, length-append c.group (c.user ++ c.host), length-append c.user c.host)

-- ---- what a place keeps

-- a group's rules are some of the table's
pub rules_length : (t : List ℕ) (i : ℕ) → is_table t ≡ true → length (rules_at t i) ≤ 256
rules_length t i h =
    let r = rules_run (row (view t) access_groups i) in
    let all_rules = (view t).records rules in
    omega (
      arith,
      records_few (view t) (table.stands t h).1 rules,
      length-map (part r all_rules) (rule_of (view t)),
      length-take r.count (drop r.first all_rules),
      length-drop r.first all_rules,
    )

pub kept_length : (t : List ℕ) (rs : ℕ → List Reading) (c : Client) → length (kept t rs c) ≤ 258
kept_length t rs c = go (is_table t) refl (answering_number t c.group)
  where
    go : (b : Bool) → is_table t ≡ b → (o : Option ℕ) → length (cond b (kept_by t rs c o) nothing_kept) ≤ 258
    go false e o = omega arith
    go true e none = omega arith
    go true e (some i) = omega (arith, rules_length t i e, length-map (rules_at t i) (λ r. bit (stands (asked c (rs i)) r)))

pub kept_least : (t : List ℕ) (rs : ℕ → List Reading) (c : Client) → 2 ≤ length (kept t rs c)
kept_least t rs c = go (is_table t) (answering_number t c.group)
  where
    go : (b : Bool) (o : Option ℕ) → 2 ≤ length (cond b (kept_by t rs c o) nothing_kept)
    go false o = omega arith
    go true none = omega arith
    go true (some i) = omega arith

-- ---- a client that is not refused

pub not_first : {A : Type 0} (t : Bool) (x : A) (o : Option A) → first_if t x o ≡ none → (t ≡ false) × (o ≡ none)
not_first true x o e = let z : ◌≡◌ {A = ℕ} 0 1 = cc in absurd (omega arith)
not_first false x o e = (refl, e)

fits : (c : Client) → long_name c ≡ false → bad_level c ≡ false → Fits c
fits c l b =
    let short : (n : List ℕ) → not (leb (length n) longest_name) ≡ false → length n ≤ longest_name =
    λ n e. leb-true (length n) longest_name (not-false (leb (length n) longest_name) e) in
    let test : List ℕ → Bool = λ n. not (leb (length n) longest_name) in
    let g = neither (test c.group) (test c.user || (test c.host || false)) l in
    let u = neither (test c.user) (test c.host || false) g.1 in
    let h = neither (test c.host) false u.1 in
    record {
      group = short c.group g.0;
      user = short c.user u.0;
      host = short c.host h.0;
      level = leb-true c.level greatest_level (not-false (a_level c.level) b);
    }

pub fits_added : (r : Register) (c : Client) → add_refusal r c ≡ none → Fits c
fits_added r c e =
    let taken = first_if (all_taken r) NoPlace none in
    let x = not_first (long_name c) LongName (first_if (bad_level c) BadLevel taken) e in
    fits c x.0 (not_first (bad_level c) BadLevel taken x.1).0

pub fits_changed : (r : Register) (p : ℕ) (c : Client) → change_refusal r p c ≡ none → Fits c
fits_changed r p c e =
    let level = first_if (bad_level c) BadLevel none in
    let x = not_first (no_client r p) NoClient (first_if (long_name c) LongName level) e in
    let y = not_first (long_name c) LongName level x.1 in
    fits c y.0 (not_first (bad_level c) BadLevel none y.1).0
