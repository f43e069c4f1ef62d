-- The reader follows every derivation.
use Rattle.std.specs.Prelude.{◌≡◌, refl, List, [], ◌∷◌, ◌++◌, map, Bool, true, false, cond, ℕ, eqb}
use Rattle.std.proofs.Common.{sym, ap, ◌∙◌}
use Rattle.spec_token.specs.declared.Kind.{Kind}
use Rattle.spec_token.specs.declared.Kind.TheVariants as kind
use Rattle.spec_grammar.specs.declared.Role.{Role}
use Rattle.spec_grammar.specs.declared.Role.TheVariants.{NoRole, UagName, User, HagName, Host, AsgName, Level, Permission, LogOption, UagNamed}
use Rattle.spec_grammar.specs.declared.Role.TheVariants.{HagNamed, UnknownPredicate}
use Rattle.spec_grammar.specs.Production.{◌tagged◌, Nonterminal, acf_file, asconfig, asconfig_item, uag_def, uag_head, uag_body, uag_user_list, hag_def}
use Rattle.spec_grammar.specs.Production.{hag_head, hag_body, hag_host_list, asg_def, asg_head, asg_body, asg_body_item, inp_config, rule_config}
use Rattle.spec_grammar.specs.Production.{rule_head, rule_head_mandatory, rule_log_option, rule_body, rule_list, rule_list_item, rule_uag_list}
use Rattle.spec_grammar.specs.Production.{rule_hag_list, keyword, non_rule_keyword, generic_head, generic_list, generic_element, generic_block}
use Rattle.spec_grammar.specs.Production.{generic_block_list, generic_block_elem, generic_block_elem_name, generic_top_level_item, generic_list_block}
use Rattle.spec_grammar.specs.Production.{rule_generic_block_elem, rule_generic_block_elem_name, Symbols, end, tm, nt, opt, many, lb, rb, cm, strings}
use Rattle.spec_grammar.specs.Production.{◌⟶◌, acf_file₁, asconfig₁, asconfig_item₁, asconfig_item₂, asconfig_item₃, asconfig_item₄, uag_def₁}
use Rattle.spec_grammar.specs.Production.{uag_head₁, uag_body₁, uag_user_list₁, hag_def₁, hag_head₁, hag_body₁, hag_host_list₁, asg_def₁, asg_head₁}
use Rattle.spec_grammar.specs.Production.{asg_body₁, asg_body_item₁, asg_body_item₂, inp_config₁, rule_config₁, rule_head₁, rule_head₂}
use Rattle.spec_grammar.specs.Production.{rule_head_mandatory₁, rule_log_option₁, rule_body₁, rule_list₁, rule_list_item₁, rule_list_item₂}
use Rattle.spec_grammar.specs.Production.{rule_list_item₃, rule_list_item₄, rule_uag_list₁, rule_hag_list₁, keyword₁, keyword₂, keyword₃, keyword₄}
use Rattle.spec_grammar.specs.Production.{non_rule_keyword₁, non_rule_keyword₂, non_rule_keyword₃, generic_head₁, generic_head₂, generic_head₃}
use Rattle.spec_grammar.specs.Production.{generic_list₁, generic_element₁, generic_element₂, generic_element₃, generic_element₄, generic_block₁}
use Rattle.spec_grammar.specs.Production.{generic_block₂, generic_block₃, generic_block_list₁, generic_block_elem₁, generic_block_elem_name₁}
use Rattle.spec_grammar.specs.Production.{generic_block_elem_name₂, generic_top_level_item₁, generic_top_level_item₂, generic_top_level_item₃}
use Rattle.spec_grammar.specs.Production.{generic_list_block₁, rule_generic_block_elem₁, rule_generic_block_elem_name₁, rule_generic_block_elem_name₂}
use Rattle.spec_grammar.specs.Production.{Derives, finish, take, expand, leave, choose, stop, repeat, AcfFile}
use Rattle.spec_grammar.specs.Sentence.{Tagged, sign}
use Rattle.spec_grammar.specs.Codes.{kind_number}
use Rattle.spec_grammar.specs.Reader.{Depth, top, inner, Expected, token, item, users, hosts, next_string, asg_block, asg_item, log_option, rule_block}
use Rattle.spec_grammar.specs.Reader.{rule_item, element, next_element, arguments, block_element, block, block_inside, block_name, block_number}
use Rattle.spec_grammar.specs.Reader.{second_block, once, perhaps, often, Stack, Rules, no_rule, rule, no_role, string, string_list, headed, names}
use Rattle.spec_grammar.specs.Reader.{numbers, behind, more_until, rules, Step, halt, go, find, step, may_end, parsed, joined_to, onward, read_from}
use Rattle.spec_grammar.specs.Reader.{start}
use Rattle.spec_grammar.proofs.laws.Sound.{Signs, NonRuleKeyword, is_asg, is_rule, is_inp, Keyword, is_uag, is_hag, is_calc, is_other, Name}
use Rattle.spec_grammar.proofs.laws.Sound.{is_keyword, is_string, same_kind, never}

-- from the stack k the reader reads the signs s up to the end
pub data Follows : Stack → Signs → Type 0 where
  done : {k : Stack} → may_end k ≡ true → Follows k []
  took : {k j : Stack} {t : Kind} {v : Role} {s : Signs} → step k t ≡ go v j → Follows j s → Follows k (t tagged v ∷ s)

-- k does not take "{"
abbrev Shut : Stack → Type 0
Shut k = step k kind.OpenBrace ≡ halt

-- a block that may come is passed over where none comes
pass : (x : Expected) (l k : Stack) → rules x ≡ rule (kind.OpenBrace tagged NoRole) l no_rule → Shut k → (s : Signs) → Follows k s → Follows (perhaps x ∷ k) s
pass x l k e h _ (done c) = done c
pass x l k e h _ (took {j = j} {t = t} {v = v} f g) =
    took (ap (λ (rs : Rules). find rs t k (step k t)) e ∙ test (eqb (kind_number kind.OpenBrace) (kind_number t)) refl) g
  where
    test : (b : Bool) → eqb (kind_number kind.OpenBrace) (kind_number t) ≡ b → cond b (go NoRole (l ++ k)) (step k t) ≡ go v j
    test true n = never (sym h ∙ ap (step k) (same_kind kind.OpenBrace t (rw n tt)) ∙ f)
    test false n = f

-- and so is a second block
pass_behind : (p : Depth) (k : Stack) → Shut k → (s : Signs) → Follows k s → Follows (behind p ++ k) s
pass_behind top k h s f = pass second_block _ k refl h s f
pass_behind inner k h s f = f

-- x is next, and then any number of x; behind them stands no "{"
data Each (x : Expected) : Stack → Stack → Type 0 where
  first : {k : Stack} → Shut (often x ∷ k) → Each x (once x ∷ often x ∷ k) (often x ∷ k)
  further : {k : Stack} → Shut (often x ∷ k) → Each x (often x ∷ k) (often x ∷ k)

-- behind one x another may be next
again : {x : Expected} {i j : Stack} → Each x i j → Each x j j
again (first h) = further h
again (further h) = further h

-- no "{" stands behind x
shut : {x : Expected} {i j : Stack} → Each x i j → Shut j
shut (first h) = h
shut (further h) = h

-- a rule that is found is found whatever stands below
found : (rs : Rules) (t : Kind) (k : Stack) (d : Step) {v : Role} {j : Stack} → find rs t k halt ≡ go v j → find rs t k d ≡ go v j
found no_rule t k d e = never e
found (rule (x tagged w) l rs) t k d {v = v} {j = j} e = test (eqb (kind_number x) (kind_number t)) (found rs t k d) e
  where
    test :
        (b : Bool) → (find rs t k halt ≡ go v j → find rs t k d ≡ go v j) → cond b (go w (l ++ k)) (find rs t k halt) ≡ go v j
        → cond b (go w (l ++ k)) (find rs t k d) ≡ go v j
    test true ih f = f
    test false ih f = ih f

-- x's first token is taken where x is next
enter : {x : Expected} {i j k : Stack} {v : Role} → Each x i j → (t : Kind) → find (rules x) t j halt ≡ go v k → step i t ≡ go v k
enter (first h) t e = e
enter {x = x} (further {k = k} h) t e = found (rules x) t (often x ∷ k) (step k t) e

-- a class of kinds leads from i to j, each saying v
abbrev Class : (Kind → Type 0) → Role → Stack → Stack → Type 0
Class C v i j = (t : Kind) → C t → step i t ≡ go v j

-- a name leads from i to n, a number to m
record Opens (i n m : Stack) : Type 0 where
  name : Class Name NoRole i n
  int : step i kind.Int ≡ go NoRole m
  float : step i kind.Float ≡ go NoRole m

-- the rule for names is found for each name
found_name : (l : Stack) (rs : Rules) (k : Stack) (d : Step) (t : Kind) → Name t → find (names l rs) t k d ≡ go NoRole (l ++ k)
found_name l rs k d _ (is_keyword is_uag) = refl
found_name l rs k d _ (is_keyword is_hag) = refl
found_name l rs k d _ (is_keyword is_calc) = refl
found_name l rs k d _ (is_keyword (is_other is_asg)) = refl
found_name l rs k d _ (is_keyword (is_other is_rule)) = refl
found_name l rs k d _ (is_keyword (is_other is_inp)) = refl
found_name l rs k d _ is_string = refl

-- and the rule for predicates for each non_rule_keyword
found_predicate : (k : Stack) (t : Kind) → NonRuleKeyword t → find (rules rule_item) t k halt ≡ go UnknownPredicate (headed (perhaps (block inner) ∷ k))
found_predicate k _ is_asg = refl
found_predicate k _ is_rule = refl
found_predicate k _ is_inp = refl

-- where an element is next, where arguments are, and where a block's inside is
opens_element : (k : Stack) → Opens (once element ∷ k) k k
opens_element k = record { name = found_name [] (numbers [] no_rule) k halt; int = refl; float = refl }

opens_arguments : (k : Stack) → Opens (once arguments ∷ k) (more_until kind.CloseParen ++ k) (more_until kind.CloseParen ++ k)
opens_arguments k =
    record {
      name = found_name (more_until kind.CloseParen) (numbers (more_until kind.CloseParen) (rule (kind.CloseParen tagged NoRole) [] no_rule)) k halt;
      int = refl;
      float = refl;
    }

opens_block : (p : Depth) (k : Stack) → Opens (once (block_inside p) ∷ k) (once (block_name p) ∷ k) (once (block_number p) ∷ k)
opens_block p k = record { name = found_name (once (block_name p) ∷ []) (numbers (once (block_number p) ∷ []) no_rule) k halt; int = refl; float = refl }

-- STRING { "," STRING } is next
data Strings (v : Role) : Stack → Stack → Type 0 where
  some_strings : {k : Stack} → Strings v (string v ∷ often (next_string v) ∷ k) (often (next_string v) ∷ k)

-- generic_list is next, its first element a name or a number
data Elements : Stack → Stack → Type 0 where
  some_elements :
      {i n m k : Stack} → Opens i n m → step n kind.Comma ≡ go NoRole (once element ∷ often next_element ∷ k)
      → step m kind.Comma ≡ go NoRole (once element ∷ often next_element ∷ k) → Elements i (often next_element ∷ k)

-- generic_block_elem is next, as the first of a block or not
data BlockElements : Stack → Stack → Type 0 where
  inside : {p : Depth} {k : Stack} → BlockElements (once (block_inside p) ∷ k) (often block_element ∷ no_role kind.CloseBrace ∷ k)
  behind_one : {k : Stack} → BlockElements (often block_element ∷ no_role kind.CloseBrace ∷ k) (often block_element ∷ no_role kind.CloseBrace ∷ k)

-- a nonterminal leads the reader from the stack i to the stack j
abbrev Leads : Nonterminal → Stack → Stack → Type 0
Leads acf_file i j = Each item i j
Leads asconfig i j = Each item i j
Leads asconfig_item i j = Each item i j
Leads uag_def i j = Each item i j
Leads uag_head i j = step i kind.OpenParen ≡ go NoRole (string UagName ∷ no_role kind.CloseParen ∷ j)
Leads uag_body i j = step i kind.OpenBrace ≡ go NoRole (string_list User (no_role kind.CloseBrace ∷ j))
Leads uag_user_list i j = Strings User i j
Leads hag_def i j = Each item i j
Leads hag_head i j = step i kind.OpenParen ≡ go NoRole (string HagName ∷ no_role kind.CloseParen ∷ j)
Leads hag_body i j = step i kind.OpenBrace ≡ go NoRole (string_list Host (no_role kind.CloseBrace ∷ j))
Leads hag_host_list i j = Strings Host i j
Leads asg_def i j = Each item i j
Leads asg_head i j = step i kind.OpenParen ≡ go NoRole (string AsgName ∷ no_role kind.CloseParen ∷ j)
Leads asg_body i j = step i kind.OpenBrace ≡ go NoRole (once asg_item ∷ often asg_item ∷ no_role kind.CloseBrace ∷ j)
Leads asg_body_item i j = Each asg_item i j
Leads inp_config i j = Each asg_item i j
Leads rule_config i j = Each asg_item i j
Leads rule_head i j = step i kind.OpenParen ≡ go NoRole (once (token (kind.Int tagged Level)) ∷ no_role kind.Comma ∷ string Permission ∷ once log_option ∷ j)
Leads rule_head_mandatory i j = step i kind.Int ≡ go Level (no_role kind.Comma ∷ string Permission ∷ j)
Leads rule_log_option i j = step i kind.String ≡ go LogOption j
Leads rule_body i j = step i kind.OpenBrace ≡ go NoRole (once rule_item ∷ often rule_item ∷ no_role kind.CloseBrace ∷ j)
Leads rule_list i j = Each rule_item i j
Leads rule_list_item i j = Each rule_item i j
Leads rule_uag_list i j = Strings UagNamed i j
Leads rule_hag_list i j = Strings HagNamed i j
Leads keyword i j = Class Keyword NoRole i j
Leads (non_rule_keyword v) i j = Class NonRuleKeyword v i j
Leads generic_head i j = step i kind.OpenParen ≡ go NoRole (once arguments ∷ j)
Leads generic_list i j = Elements i j
Leads generic_element i j = Opens i j j
Leads generic_block i j = (p : Depth) × (step i kind.OpenBrace ≡ go NoRole (once (block_inside p) ∷ j)) × Shut j
Leads generic_block_list i j = BlockElements i j
Leads generic_block_elem i j = BlockElements i j
Leads generic_block_elem_name i j = Class Name NoRole i j
Leads generic_top_level_item i j = Each item i j
Leads generic_list_block i j = step i kind.OpenBrace ≡ go NoRole (once (block_inside top) ∷ j)
Leads rule_generic_block_elem i j = Each rule_item i j
Leads rule_generic_block_elem_name i j = Class NonRuleKeyword UnknownPredicate i j × (step i kind.String ≡ go UnknownPredicate j)

-- The symbols k lead the reader from i to j, step by step. skipped: what might come does not.
data Trace : Symbols → Stack → Stack → Type 0 where
  over : {i : Stack} → Trace end i i
  skipped : {i j : Stack} → ((s : Signs) → Follows j s → Follows i s) → Trace end i j
  by_token : {k : Symbols} {t : Kind} {v : Role} {i i' j : Stack} → step i t ≡ go v i' → Trace k i' j → Trace (tm (t tagged v) k) i j
  by_part : {x : Nonterminal} {k : Symbols} {i i' j : Stack} → Leads x i i' → Trace k i' j → Trace (nt x k) i j
  by_option : {x : Nonterminal} {k : Symbols} {i i' j : Stack} → ((s : Signs) → Follows i' s → Follows i s) → Leads x i i' → Trace k i' j → Trace (opt x k) i j
  by_many : {α k : Symbols} {i j : Stack} → Trace α i i → Trace k i j → Trace (many α k) i j
  by_element : {k : Symbols} {i n m j : Stack} → Opens i n m → Trace k n j → Trace k m j → Trace (nt generic_element k) i j

-- STRING { "," STRING }
trace_strings : {v : Role} {i j : Stack} → Strings v i j → Trace (strings v) i j
trace_strings some_strings = by_token refl (by_many (by_token refl (by_token refl over)) over)

-- generic_element { "," generic_element }
trace_elements :
    (k : Stack) → Trace (nt generic_element (many (cm (nt generic_element end)) end)) (once element ∷ often next_element ∷ k) (often next_element ∷ k)
trace_elements k = by_part (opens_element _) (by_many (by_token refl (by_part (opens_element _) over)) over)

-- generic_head [ generic_block ]
trace_headed :
    {i : Stack} (k : Stack) → step i kind.OpenParen ≡ go NoRole (once arguments ∷ perhaps (block inner) ∷ k) → Shut k
    → Trace (nt generic_head (opt generic_block end)) i k
trace_headed k e h = by_part e (by_option {x = generic_block} (pass (block inner) _ k refl h) (inner, refl, h) over)

-- "}" "{" generic_list "}"
trace_second : (i j : Stack) → step i kind.CloseBrace ≡ go NoRole (perhaps second_block ∷ j) → Trace (rb (lb (nt generic_list (rb end)))) i j
trace_second i j e = by_token e (by_token refl (by_part (some_elements (opens_element _) refl refl) (by_token refl over)))

-- Production by production: what leads a nonterminal leads its right side.
trace : {x : Nonterminal} {α : Symbols} {i j : Stack} → x ⟶ α → Leads x i j → Trace α i j
trace acf_file₁ e = by_part e over
trace asconfig₁ e = by_part e (by_many (by_part (again e) over) over)
trace asconfig_item₁ e = by_part e over
trace asconfig_item₂ e = by_part e over
trace asconfig_item₃ e = by_part e over
trace asconfig_item₄ e = by_part e over
trace uag_def₁ e = by_token (enter e kind.Uag refl) (by_part refl (by_option (pass users _ _ refl (shut e)) refl over))
trace uag_head₁ e = by_token e (by_token refl (by_token refl over))
trace uag_body₁ e = by_token e (by_part some_strings (by_token refl over))
trace uag_user_list₁ e = trace_strings e
trace hag_def₁ e = by_token (enter e kind.Hag refl) (by_part refl (by_option (pass hosts _ _ refl (shut e)) refl over))
trace hag_head₁ e = by_token e (by_token refl (by_token refl over))
trace hag_body₁ e = by_token e (by_part some_strings (by_token refl over))
trace hag_host_list₁ e = trace_strings e
trace asg_def₁ e = by_token (enter e kind.Asg refl) (by_part refl (by_option (pass asg_block _ _ refl (shut e)) refl over))
trace asg_head₁ e = by_token e (by_token refl (by_token refl over))
trace asg_body₁ e = by_token e (by_part (first refl) (by_many (by_part (further refl) over) (by_token refl over)))
trace asg_body_item₁ e = by_part e over
trace asg_body_item₂ e = by_part e over
trace inp_config₁ e = by_token (enter e kind.Inp refl) (by_token refl (by_token refl (by_token refl over)))
trace rule_config₁ e = by_token (enter e kind.Rule refl) (by_part refl (by_option (pass rule_block _ _ refl (shut e)) refl over))
trace rule_head₁ e = by_token e (by_part refl (by_token refl (by_part refl (by_token refl over))))
trace rule_head₂ e = by_token e (by_part refl (by_token refl over))
trace rule_head_mandatory₁ e = by_token e (by_token refl (by_token refl over))
trace rule_log_option₁ e = by_token e over
trace rule_body₁ e = by_token e (by_part (first refl) (by_token refl over))
trace rule_list₁ e = by_part e (by_many (by_part (again e) over) over)
trace rule_list_item₁ e = by_token (enter e kind.Uag refl) (by_token refl (by_part some_strings (by_token refl over)))
trace rule_list_item₂ e = by_token (enter e kind.Hag refl) (by_token refl (by_part some_strings (by_token refl over)))
trace rule_list_item₃ e = by_token (enter e kind.Calc refl) (by_token refl (by_token refl (by_token refl over)))
trace rule_list_item₄ e = by_part e over
trace rule_uag_list₁ e = trace_strings e
trace rule_hag_list₁ e = trace_strings e
trace keyword₁ e = by_token (e _ is_uag) over
trace keyword₂ e = by_token (e _ is_hag) over
trace keyword₃ e = by_token (e _ is_calc) over
trace keyword₄ e = by_part {x = non_rule_keyword NoRole} (λ t w. e t (is_other w)) over
trace non_rule_keyword₁ e = by_token (e _ is_asg) over
trace non_rule_keyword₂ e = by_token (e _ is_rule) over
trace non_rule_keyword₃ e = by_token (e _ is_inp) over
trace generic_head₁ e = by_token e (by_token refl over)
trace generic_head₂ e = by_token e (by_part (opens_arguments _) (by_token refl over))
trace generic_head₃ e = by_token e (by_part (some_elements (opens_arguments _) refl refl) (by_token refl over))
trace generic_list₁ (some_elements e a b) = by_element e (by_token a (trace_elements _)) (by_token b (trace_elements _))
trace generic_element₁ e = by_part {x = keyword} (λ t w. e.name t (is_keyword w)) over
trace generic_element₂ e = by_token (e.name _ is_string) over
trace generic_element₃ e = by_token e.int over
trace generic_element₄ e = by_token e.float over
trace generic_block₁ (p, e, h) =
    by_token e (by_element (opens_block p _) (by_token refl (skipped (pass_behind p _ h))) (by_token refl (skipped (pass_behind p _ h))))
trace generic_block₂ (p, e, h) = by_token e (by_part (some_elements (opens_block p _) refl refl) (by_token refl over))
trace generic_block₃ (p, e, h) = by_token e (by_part inside (by_token refl over))
trace generic_block_list₁ inside = by_part inside (by_many (by_part behind_one over) over)
trace generic_block_list₁ behind_one = by_part behind_one (by_many (by_part behind_one over) over)
trace generic_block_elem₁ inside = by_part (opens_block _ _).name (trace_headed _ refl refl)
trace generic_block_elem₁ (behind_one {k = k}) =
    by_part
    {x = generic_block_elem_name}
    (λ t. found_name (headed (perhaps (block inner) ∷ [])) no_rule (often block_element ∷ no_role kind.CloseBrace ∷ k) (step (no_role kind.CloseBrace ∷ k) t) t)
    (trace_headed _ refl refl)
trace generic_block_elem_name₁ e = by_part {x = keyword} (λ t w. e t (is_keyword w)) over
trace generic_block_elem_name₂ e = by_token (e _ is_string) over
trace generic_top_level_item₁ e = by_token (enter e kind.String refl) (by_part refl (by_part refl over))
trace generic_top_level_item₂ e = by_token (enter e kind.String refl) (by_part refl (by_part {x = generic_block} (top, refl, shut e) over))
trace generic_top_level_item₃ e = by_token (enter e kind.String refl) (by_part refl (skipped (pass (block top) _ _ refl (shut e))))
trace generic_list_block₁ e = by_token e (by_element (opens_block top _) (trace_second _ _ refl) (trace_second _ _ refl))
trace rule_generic_block_elem₁ e =
    by_part {x = rule_generic_block_elem_name} (λ t w. enter e t (found_predicate _ t w), enter e kind.String refl) (trace_headed _ refl (shut e))
trace rule_generic_block_elem_name₁ e = by_part e.0 over
trace rule_generic_block_elem_name₂ e = by_token e.1 over

-- what symbols derive, the reader follows
follow : {k : Symbols} {i j : Stack} {s r : Signs} → Derives k s r → Trace k i j → Follows j r → Follows i s
follow finish over f = f
follow finish (skipped g) f = g _ f
follow (take d) (by_token e p) f = took e (follow d p f)
follow (expand q d e) (by_part l p) f = follow d (trace q l) (follow e p f)
follow (expand generic_element₁ d e) (by_element o p q) f = follow d (by_part {x = keyword} (λ t w. o.name t (is_keyword w)) over) (follow e p f)
follow (expand generic_element₂ d e) (by_element o p q) f = follow d (by_token (o.name _ is_string) over) (follow e p f)
follow (expand generic_element₃ d e) (by_element o p q) f = follow d (by_token o.int over) (follow e q f)
follow (expand generic_element₄ d e) (by_element o p q) f = follow d (by_token o.float over) (follow e q f)
follow (leave d) (by_option g l p) f = g _ (follow d p f)
follow (choose q d e) (by_option g l p) f = follow d (trace q l) (follow e p f)
follow (stop d) (by_many p q) f = follow d q f
follow (repeat d e) (by_many p q) f = follow d p (follow e (by_many p q) f)

-- the reader follows every file
pub follows : {s : Signs} → AcfFile s → Follows start s
follows d = follow d (by_part (first refl) over) (done refl)

-- the signs that the reader follows are what it says
pub read_from_complete : (k : Stack) (n : ℕ) (xs : List Tagged) → Follows k (map sign xs) → read_from k (map (λ x. x.token) xs) n ≡ parsed xs
read_from_complete k n [] (done c) = rw c
read_from_complete k n (x ∷ xs) (took {j = j} e f) =
    ap (λ s. onward s x.token (λ i. read_from i (map (λ y. y.token) xs) n)) e ∙ ap (joined_to x) (read_from_complete j n xs f)
