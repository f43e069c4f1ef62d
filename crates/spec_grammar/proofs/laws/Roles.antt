-- What the tokens of each nonterminal may say.
use Rattle.std.specs.Prelude.{◌≡◌, refl, Bool, true, false, ◌||◌, List, [], ◌∷◌, ◌++◌, map, get_or}
use Rattle.std.proofs.Common.{sym, ap, subst, ◌∙◌, eqb-true, eq-eqb}
use Rattle.std.proofs.lemmas.Bool.{false≢true}
use Rattle.spec_lists.specs.Select.{all, any}
use Rattle.spec_lists.proofs.laws.Both.{both}
use Rattle.spec_lists.specs.Every.{Every, cons}
use Rattle.spec_grammar.specs.declared.Role.{Role}
use Rattle.spec_grammar.specs.declared.Role.TheVariants.{NoRole, UagName, User, HagName, Host, AsgName, Input, Pvname, RuleWord, Level, Permission}
use Rattle.spec_grammar.specs.declared.Role.TheVariants.{LogOption, UagNamed, HagNamed, CalcWord, Calculation, UnknownItem, UnknownPredicate}
use Rattle.spec_grammar.specs.Codes.{role_number, same_role}
use Rattle.spec_grammar.specs.Production.{Sign, ◌tagged◌, Symbols, end, tm, nt, opt, many, Nonterminal, acf_file, asconfig, asconfig_item, uag_def}
use Rattle.spec_grammar.specs.Production.{uag_head, uag_body, uag_user_list, hag_def, hag_head, hag_body, hag_host_list, asg_def, asg_head, asg_body}
use Rattle.spec_grammar.specs.Production.{asg_body_item, inp_config, rule_config, rule_head, rule_head_mandatory, rule_log_option, rule_body, rule_list}
use Rattle.spec_grammar.specs.Production.{rule_list_item, rule_uag_list, rule_hag_list, keyword, non_rule_keyword, generic_head, generic_list}
use Rattle.spec_grammar.specs.Production.{generic_element, generic_block, generic_block_list, generic_block_elem, generic_block_elem_name}
use Rattle.spec_grammar.specs.Production.{generic_top_level_item, generic_list_block, rule_generic_block_elem, rule_generic_block_elem_name, ◌⟶◌}
use Rattle.spec_grammar.specs.Production.{acf_file₁, asconfig₁, asconfig_item₁, asconfig_item₂, asconfig_item₃, asconfig_item₄, uag_def₁, uag_head₁}
use Rattle.spec_grammar.specs.Production.{uag_body₁, uag_user_list₁, hag_def₁, hag_head₁, hag_body₁, hag_host_list₁, asg_def₁, asg_head₁, asg_body₁}
use Rattle.spec_grammar.specs.Production.{asg_body_item₁, asg_body_item₂, inp_config₁, rule_config₁, rule_head₁, rule_head₂, rule_head_mandatory₁}
use Rattle.spec_grammar.specs.Production.{rule_log_option₁, rule_body₁, rule_list₁, rule_list_item₁, rule_list_item₂, rule_list_item₃, rule_list_item₄}
use Rattle.spec_grammar.specs.Production.{rule_uag_list₁, rule_hag_list₁, keyword₁, keyword₂, keyword₃, keyword₄, non_rule_keyword₁, non_rule_keyword₂}
use Rattle.spec_grammar.specs.Production.{non_rule_keyword₃, generic_head₁, generic_head₂, generic_head₃, generic_list₁, generic_element₁}
use Rattle.spec_grammar.specs.Production.{generic_element₂, generic_element₃, generic_element₄, generic_block₁, generic_block₂, generic_block₃}
use Rattle.spec_grammar.specs.Production.{generic_block_list₁, generic_block_elem₁, generic_block_elem_name₁, generic_block_elem_name₂}
use Rattle.spec_grammar.specs.Production.{generic_top_level_item₁, generic_top_level_item₂, generic_top_level_item₃, generic_list_block₁}
use Rattle.spec_grammar.specs.Production.{rule_generic_block_elem₁, rule_generic_block_elem_name₁, rule_generic_block_elem_name₂, Derives, finish, take}
use Rattle.spec_grammar.specs.Production.{expand, leave, choose, stop, repeat}

-- ---- roles are told apart by their numbers

abbrev all_roles : List Role
all_roles =
    NoRole ∷ UagName ∷ User ∷ HagName ∷ Host ∷ AsgName ∷ Input ∷ Pvname ∷ RuleWord ∷ Level ∷ Permission ∷ LogOption
    ∷ UagNamed ∷ HagNamed ∷ CalcWord ∷ Calculation ∷ UnknownItem ∷ UnknownPredicate ∷ []

by_number : (r : Role) → get_or all_roles (role_number r) NoRole ≡ r
by_number NoRole = refl
by_number UagName = refl
by_number User = refl
by_number HagName = refl
by_number Host = refl
by_number AsgName = refl
by_number Input = refl
by_number Pvname = refl
by_number RuleWord = refl
by_number Level = refl
by_number Permission = refl
by_number LogOption = refl
by_number UagNamed = refl
by_number HagNamed = refl
by_number CalcWord = refl
by_number Calculation = refl
by_number UnknownItem = refl
by_number UnknownPredicate = refl

pub same_role_is : (a b : Role) → same_role a b ≡ true → a ≡ b
same_role_is a b e = sym (by_number a) ∙ (ap (λ n. get_or all_roles n NoRole) (eqb-true (role_number a) (role_number b) e) ∙ by_number b)

abbrev pub one_of : List Role → Role → Bool
one_of rs r = any (same_role r) rs

-- what holds of each of some roles holds of one of them
pub one_of_all : (q : Role → Bool) (rs : List Role) (r : Role) → one_of rs r ≡ true → all q rs ≡ true → q r ≡ true
one_of_all q [] r o h = absurd (false≢true o)
one_of_all q (b ∷ rs) r o h = let w = both (q b) (all q rs) h in go (same_role r b) refl o (one_of_all q rs r) w
  where
    go :
        (c : Bool) → same_role r b ≡ c → c || one_of rs r ≡ true → (one_of rs r ≡ true → all q rs ≡ true → q r ≡ true)
        → (q b ≡ true) × (all q rs ≡ true) → q r ≡ true
    go true e o later w = subst (λ (z : Role). q z ≡ true) (sym (same_role_is r b e)) w.0
    go false e o later w = later o w.1

all_of_all : (q : Role → Bool) (cs bs : List Role) → all (one_of bs) cs ≡ true → all q bs ≡ true → all q cs ≡ true
all_of_all q [] bs o h = refl
all_of_all q (a ∷ cs) bs o h =
    let w = both (one_of bs a) (all (one_of bs) cs) o in rw (one_of_all q bs a w.0 h) (all_of_all q cs bs w.1 h)

all_split : (q : Role → Bool) (cs bs : List Role) → all q (cs ++ bs) ≡ true → (all q cs ≡ true) × (all q bs ≡ true)
all_split q [] bs h = (refl, h)
all_split q (a ∷ cs) bs h =
    let w = both (q a) (all q (cs ++ bs)) h in let v = all_split q cs bs w.1 in (rw w.0 v.0, v.1)

-- ---- the table

-- what stands behind the RULE word of a rule
abbrev pub rule_roles : List Role
rule_roles = Level ∷ Permission ∷ LogOption ∷ UagNamed ∷ HagNamed ∷ CalcWord ∷ Calculation ∷ UnknownPredicate ∷ []

-- what stands behind the name of an ASG
abbrev pub asg_roles : List Role
asg_roles = Input ∷ Pvname ∷ RuleWord ∷ rule_roles

abbrev item_roles : List Role
item_roles = NoRole ∷ UagName ∷ User ∷ HagName ∷ Host ∷ UnknownItem ∷ AsgName ∷ asg_roles

-- what the tokens of a nonterminal may say
abbrev pub roles_in : Nonterminal → List Role
roles_in acf_file = item_roles
roles_in asconfig = item_roles
roles_in asconfig_item = item_roles
roles_in uag_def = NoRole ∷ UagName ∷ User ∷ []
roles_in uag_head = NoRole ∷ UagName ∷ []
roles_in uag_body = NoRole ∷ User ∷ []
roles_in uag_user_list = NoRole ∷ User ∷ []
roles_in hag_def = NoRole ∷ HagName ∷ Host ∷ []
roles_in hag_head = NoRole ∷ HagName ∷ []
roles_in hag_body = NoRole ∷ Host ∷ []
roles_in hag_host_list = NoRole ∷ Host ∷ []
roles_in asg_def = NoRole ∷ AsgName ∷ asg_roles
roles_in asg_head = NoRole ∷ AsgName ∷ []
roles_in asg_body = NoRole ∷ asg_roles
roles_in asg_body_item = NoRole ∷ asg_roles
roles_in inp_config = NoRole ∷ Input ∷ Pvname ∷ []
roles_in rule_config = NoRole ∷ RuleWord ∷ rule_roles
roles_in rule_head = NoRole ∷ Level ∷ Permission ∷ LogOption ∷ []
roles_in rule_head_mandatory = NoRole ∷ Level ∷ Permission ∷ []
roles_in rule_log_option = LogOption ∷ []
roles_in rule_body = NoRole ∷ UagNamed ∷ HagNamed ∷ CalcWord ∷ Calculation ∷ UnknownPredicate ∷ []
roles_in rule_list = NoRole ∷ UagNamed ∷ HagNamed ∷ CalcWord ∷ Calculation ∷ UnknownPredicate ∷ []
roles_in rule_list_item = NoRole ∷ UagNamed ∷ HagNamed ∷ CalcWord ∷ Calculation ∷ UnknownPredicate ∷ []
roles_in rule_uag_list = NoRole ∷ UagNamed ∷ []
roles_in rule_hag_list = NoRole ∷ HagNamed ∷ []
roles_in keyword = NoRole ∷ []
roles_in (non_rule_keyword r) = r ∷ NoRole ∷ []
roles_in generic_head = NoRole ∷ []
roles_in generic_list = NoRole ∷ []
roles_in generic_element = NoRole ∷ []
roles_in generic_block = NoRole ∷ []
roles_in generic_block_list = NoRole ∷ []
roles_in generic_block_elem = NoRole ∷ []
roles_in generic_block_elem_name = NoRole ∷ []
roles_in generic_top_level_item = NoRole ∷ UnknownItem ∷ []
roles_in generic_list_block = NoRole ∷ []
roles_in rule_generic_block_elem = NoRole ∷ UnknownPredicate ∷ []
roles_in rule_generic_block_elem_name = NoRole ∷ UnknownPredicate ∷ []

abbrev pub symbol_roles : Symbols → List Role
symbol_roles end = []
symbol_roles (tm (k tagged r) l) = r ∷ symbol_roles l
symbol_roles (nt x l) = roles_in x ++ symbol_roles l
symbol_roles (opt x l) = roles_in x ++ symbol_roles l
symbol_roles (many α l) = symbol_roles α ++ symbol_roles l

-- each production keeps to the table
production_roles : {x : Nonterminal} {α : Symbols} → x ⟶ α → all (one_of (roles_in x)) (symbol_roles α) ≡ true
production_roles acf_file₁ = refl
production_roles asconfig₁ = refl
production_roles asconfig_item₁ = refl
production_roles asconfig_item₂ = refl
production_roles asconfig_item₃ = refl
production_roles asconfig_item₄ = refl
production_roles uag_def₁ = refl
production_roles uag_head₁ = refl
production_roles uag_body₁ = refl
production_roles uag_user_list₁ = refl
production_roles hag_def₁ = refl
production_roles hag_head₁ = refl
production_roles hag_body₁ = refl
production_roles hag_host_list₁ = refl
production_roles asg_def₁ = refl
production_roles asg_head₁ = refl
production_roles asg_body₁ = refl
production_roles asg_body_item₁ = refl
production_roles asg_body_item₂ = refl
production_roles inp_config₁ = refl
production_roles rule_config₁ = refl
production_roles rule_head₁ = refl
production_roles rule_head₂ = refl
production_roles rule_head_mandatory₁ = refl
production_roles rule_log_option₁ = refl
production_roles rule_body₁ = refl
production_roles rule_list₁ = refl
production_roles rule_list_item₁ = refl
production_roles rule_list_item₂ = refl
production_roles rule_list_item₃ = refl
production_roles rule_list_item₄ = refl
production_roles rule_uag_list₁ = refl
production_roles rule_hag_list₁ = refl
production_roles keyword₁ = refl
production_roles keyword₂ = refl
production_roles keyword₃ = refl
production_roles keyword₄ = refl
production_roles (non_rule_keyword₁ {r = r}) = rw (eq-eqb (role_number r) (role_number r) refl) refl
production_roles (non_rule_keyword₂ {r = r}) = rw (eq-eqb (role_number r) (role_number r) refl) refl
production_roles (non_rule_keyword₃ {r = r}) = rw (eq-eqb (role_number r) (role_number r) refl) refl
production_roles generic_head₁ = refl
production_roles generic_head₂ = refl
production_roles generic_head₃ = refl
production_roles generic_list₁ = refl
production_roles generic_element₁ = refl
production_roles generic_element₂ = refl
production_roles generic_element₃ = refl
production_roles generic_element₄ = refl
production_roles generic_block₁ = refl
production_roles generic_block₂ = refl
production_roles generic_block₃ = refl
production_roles generic_block_list₁ = refl
production_roles generic_block_elem₁ = refl
production_roles generic_block_elem_name₁ = refl
production_roles generic_block_elem_name₂ = refl
production_roles generic_top_level_item₁ = refl
production_roles generic_top_level_item₂ = refl
production_roles generic_top_level_item₃ = refl
production_roles generic_list_block₁ = refl
production_roles rule_generic_block_elem₁ = refl
production_roles rule_generic_block_elem_name₁ = refl
production_roles rule_generic_block_elem_name₂ = refl

-- ---- what is derived production_roles to the table

abbrev pub role_of : Sign → Role
role_of (k tagged r) = r

module _ (q : Role → Bool) where
  -- each of the signs says a role that passes the test
  abbrev pub Passing : List Sign → Type 0
  Passing s = Every (λ r. q r ≡ true) (map role_of s)

  pub derived_roles : {k : Symbols} {s r : List Sign} → Derives k s r → all q (symbol_roles k) ≡ true → Passing r → Passing s
  derived_roles finish h e = e
  derived_roles (take {a = a tagged b} {k = k} d) h e = let w = both (q b) (all q (symbol_roles k)) h in cons w.0 (derived_roles d w.1 e)
  derived_roles (expand {x = x} {α = α} {k = k} p d c) h e =
      let w = all_split q (roles_in x) (symbol_roles k) h in
      derived_roles d (all_of_all q (symbol_roles α) (roles_in x) (production_roles p) w.0) (derived_roles c w.1 e)
  derived_roles (leave {x = x} {k = k} d) h e = derived_roles d (all_split q (roles_in x) (symbol_roles k) h).1 e
  derived_roles (choose {x = x} {α = α} {k = k} p d c) h e =
      let w = all_split q (roles_in x) (symbol_roles k) h in
      derived_roles d (all_of_all q (symbol_roles α) (roles_in x) (production_roles p) w.0) (derived_roles c w.1 e)
  derived_roles (stop {α = α} {k = k} d) h e = derived_roles d (all_split q (symbol_roles α) (symbol_roles k) h).1 e
  derived_roles (repeat {α = α} {k = k} d c) h e =
      derived_roles d (all_split q (symbol_roles α) (symbol_roles k) h).0 (derived_roles c h e)
