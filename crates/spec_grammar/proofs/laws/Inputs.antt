-- What is said to be an input is an INP word.
use Rattle.std.specs.Prelude.{◌≡◌, refl, Bool, true, false, cond, ◌&&◌, List, [], ◌∷◌, ◌++◌, ℕ, T, eqb}
use Rattle.std.proofs.Common.{sym, subst}
use Rattle.spec_lists.specs.Select.{all}
use Rattle.spec_lists.proofs.laws.Both.{both}
use Rattle.spec_lists.proofs.laws.Every.{all_append}
use Rattle.spec_lists.specs.Every.{Every, nil, cons}
use Rattle.spec_token.specs.declared.Kind.{Kind}
use Rattle.spec_token.specs.declared.Kind.TheVariants as kind
use Rattle.spec_token.specs.Token.{Token}
use Rattle.spec_grammar.specs.declared.Role.{Role}
use Rattle.spec_grammar.specs.declared.Role.TheVariants.{Input}
use Rattle.spec_grammar.specs.Codes.{same_role, kind_number}
use Rattle.spec_grammar.specs.Production.{◌tagged◌}
use Rattle.spec_grammar.specs.Sentence.{Tagged, Reads}
use Rattle.spec_grammar.specs.Reader.{top, inner, Expected, token, item, users, hosts, next_string, asg_block, asg_item, log_option, rule_block}
use Rattle.spec_grammar.specs.Reader.{rule_item, element, next_element, arguments, block_element, block, block_inside, block_name, block_number}
use Rattle.spec_grammar.specs.Reader.{second_block, Entry, once, perhaps, often, Stack, Rules, no_rule, rule, rules, Step, halt, go, find, step, Parse}
use Rattle.spec_grammar.specs.Reader.{parsed, stopped, joined_to, onward, may_end, read_from, start}
use Rattle.spec_grammar.proofs.laws.Sound.{same_kind}
use Rattle.spec_grammar.proofs.laws.Theorem.{read_complete}

-- a token of the kind k may say r: only an INP word an input
abbrev pub may_say : Kind → Role → Bool
may_say k r = cond (same_role r Input) (eqb (kind_number k) (kind_number kind.Inp)) true

abbrev part_may : Expected → Bool
part_may (token (k tagged r)) = may_say k r
part_may (next_string r) = may_say kind.String r
part_may item = true
part_may users = true
part_may hosts = true
part_may asg_block = true
part_may asg_item = true
part_may log_option = true
part_may rule_block = true
part_may rule_item = true
part_may element = true
part_may next_element = true
part_may arguments = true
part_may block_element = true
part_may (block p) = true
part_may (block_inside p) = true
part_may (block_name p) = true
part_may (block_number p) = true
part_may second_block = true

abbrev entry_may : Entry → Bool
entry_may (once x) = part_may x
entry_may (perhaps x) = part_may x
entry_may (often x) = part_may x

abbrev stack_may : Stack → Bool
stack_may = all entry_may

abbrev rules_may : Rules → Bool
rules_may no_rule = true
rules_may (rule (k tagged r) l rs) = may_say k r && (stack_may l && rules_may rs)

-- the rules of a part keep to it
rules_keep : (x : Expected) → part_may x ≡ true → rules_may (rules x) ≡ true
rules_keep (token (k tagged r)) h = rw h
rules_keep (next_string r) h = rw h
rules_keep item h = refl
rules_keep users h = refl
rules_keep hosts h = refl
rules_keep asg_block h = refl
rules_keep asg_item h = refl
rules_keep log_option h = refl
rules_keep rule_block h = refl
rules_keep rule_item h = refl
rules_keep element h = refl
rules_keep next_element h = refl
rules_keep arguments h = refl
rules_keep block_element h = refl
rules_keep (block p) h = refl
rules_keep (block_inside p) h = refl
rules_keep (block_name top) h = refl
rules_keep (block_name inner) h = refl
rules_keep (block_number top) h = refl
rules_keep (block_number inner) h = refl
rules_keep second_block h = refl

-- what a step says and leaves keeps to it
abbrev StepMay : Kind → Step → Type 0
StepMay t halt = Unit {0}
StepMay t (go r j) = (may_say t r ≡ true) × (stack_may j ≡ true)

find_keeps : (rs : Rules) (t : Kind) (k : Stack) (d : Step) → rules_may rs ≡ true → stack_may k ≡ true → StepMay t d → StepMay t (find rs t k d)
find_keeps no_rule t k d h g w = w
find_keeps (rule (x tagged r) l rs) t k d h g w =
    let a = both (may_say x r) (stack_may l && rules_may rs) h in
    let b = both (stack_may l) (rules_may rs) a.1 in
    found (eqb (kind_number x) (kind_number t)) refl (find_keeps rs t k d b.1 g w) a.0 (rw (all_append entry_may l k, b.0, g))
  where
    found :
        (c : Bool) → eqb (kind_number x) (kind_number t) ≡ c → StepMay t (find rs t k d) → may_say x r ≡ true → stack_may (l ++ k) ≡ true
        → StepMay t (cond c (go r (l ++ k)) (find rs t k d))
    found true e later m s = (subst (λ (y : Kind). may_say y r ≡ true) (same_kind x t (subst T (sym e) tt)) m, s)
    found false e later m s = later

step_keeps : (k : Stack) (t : Kind) → stack_may k ≡ true → StepMay t (step k t)
step_keeps [] t h = tt
step_keeps (once x ∷ k) t h = let w = both (part_may x) (stack_may k) h in find_keeps (rules x) t k halt (rules_keep x w.0) w.1 tt
step_keeps (perhaps x ∷ k) t h =
    let w = both (part_may x) (stack_may k) h in find_keeps (rules x) t k (step k t) (rules_keep x w.0) w.1 (step_keeps k t w.1)
step_keeps (often x ∷ k) t h =
    let w = both (part_may x) (stack_may k) h in find_keeps (rules x) t (often x ∷ k) (step k t) (rules_keep x w.0) h (step_keeps k t w.1)

-- so does what is read
abbrev OutcomeMay : Parse → Type 0
OutcomeMay (parsed xs) = Every (λ x. may_say x.token.kind x.role ≡ true) xs
OutcomeMay (stopped p) = Unit {0}

run_keeps : (k : Stack) (ts : List Token) (n : ℕ) → stack_may k ≡ true → OutcomeMay (read_from k ts n)
run_keeps k [] n h = ends (may_end k)
  where
    ends : (b : Bool) → OutcomeMay (cond b (parsed []) (stopped n))
    ends true = nil
    ends false = tt
run_keeps k (t ∷ ts) n h = onwards (step k t.kind) (step_keeps k t.kind h) (λ j. run_keeps j ts n)
  where
    with : (r : Role) (o : Parse) → may_say t.kind r ≡ true → OutcomeMay o → OutcomeMay (joined_to (record { token = t; role = r }) o)
    with r (parsed xs) m e = cons m e
    with r (stopped p) m e = tt

    onwards :
        (s : Step) → StepMay t.kind s → ((j : Stack) → stack_may j ≡ true → OutcomeMay (read_from j ts n))
        → OutcomeMay (onward s t (λ j. read_from j ts n))
    onwards halt w f = tt
    onwards (go r j) w f = with r (read_from j ts n) w.0 (f j w.1)

pub reads_inputs : (ts : List Token) (xs : List Tagged) → Reads ts xs → Every (λ x. may_say x.token.kind x.role ≡ true) xs
reads_inputs ts xs r = subst OutcomeMay (read_complete ts 0 xs r) (run_keeps start ts 0 refl)
