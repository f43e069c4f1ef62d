-- What the reader's parts mean by the productions, and that each of its steps keeps that meaning.
use Rattle.std.specs.Prelude.{◌≡◌, refl, List, [], ◌∷◌, ◌++◌, map, Bool, true, false, cond, ℕ, eqb, T, get_or}
use Rattle.std.proofs.Common.{sym, ap, subst, ◌∙◌, arith, eqb→eq}
use Rattle.spec_token.specs.declared.Kind.{Kind}
use Rattle.spec_token.specs.declared.Kind.TheVariants as kind
use Rattle.spec_token.specs.Token.{Token}
use Rattle.spec_grammar.specs.declared.Role.{Role}
use Rattle.spec_grammar.specs.declared.Role.TheVariants.{NoRole, UagName, User, HagName, Host, AsgName, Input, Pvname, RuleWord, Level, Permission}
use Rattle.spec_grammar.specs.declared.Role.TheVariants.{LogOption, UagNamed, HagNamed, CalcWord, Calculation, UnknownItem, UnknownPredicate}
use Rattle.spec_grammar.specs.Production.{Sign, ◌tagged◌, Nonterminal, asconfig_item, uag_body, hag_body, asg_body, asg_body_item, rule_head, rule_body}
use Rattle.spec_grammar.specs.Production.{rule_list_item, keyword, non_rule_keyword, generic_head, generic_list, generic_element, generic_block}
use Rattle.spec_grammar.specs.Production.{generic_block_elem, generic_block_elem_name, generic_list_block, rule_generic_block_elem_name, Symbols, end}
use Rattle.spec_grammar.specs.Production.{tm, nt, opt, many, lb, rb, cm, STRING, acf_file₁, asconfig₁, asconfig_item₁, asconfig_item₂, asconfig_item₃}
use Rattle.spec_grammar.specs.Production.{asconfig_item₄, uag_def₁, uag_head₁, uag_body₁, uag_user_list₁, hag_def₁, hag_head₁, hag_body₁}
use Rattle.spec_grammar.specs.Production.{hag_host_list₁, asg_def₁, asg_head₁, asg_body₁, asg_body_item₁, asg_body_item₂, inp_config₁, rule_config₁}
use Rattle.spec_grammar.specs.Production.{rule_head₁, rule_head₂, rule_head_mandatory₁, rule_log_option₁, rule_body₁, rule_list₁, rule_list_item₁}
use Rattle.spec_grammar.specs.Production.{rule_list_item₂, rule_list_item₃, rule_list_item₄, rule_uag_list₁, rule_hag_list₁, keyword₁, keyword₂}
use Rattle.spec_grammar.specs.Production.{keyword₃, keyword₄, non_rule_keyword₁, non_rule_keyword₂, non_rule_keyword₃, generic_head₁, generic_head₂}
use Rattle.spec_grammar.specs.Production.{generic_head₃, generic_list₁, generic_element₁, generic_element₂, generic_element₃, generic_element₄}
use Rattle.spec_grammar.specs.Production.{generic_block₁, generic_block₂, generic_block₃, generic_block_list₁, generic_block_elem₁}
use Rattle.spec_grammar.specs.Production.{generic_block_elem_name₁, generic_block_elem_name₂, generic_top_level_item₁, generic_top_level_item₂}
use Rattle.spec_grammar.specs.Production.{generic_top_level_item₃, generic_list_block₁, rule_generic_block_elem₁, rule_generic_block_elem_name₁}
use Rattle.spec_grammar.specs.Production.{rule_generic_block_elem_name₂, Derives, finish, take, expand, leave, choose, stop, repeat, AcfFile}
use Rattle.spec_grammar.specs.Sentence.{Tagged, sign}
use Rattle.spec_grammar.specs.Codes.{kind_number}
use Rattle.spec_grammar.specs.Reader.{Depth, top, inner, Expected, token, item, users, hosts, next_string, asg_block, asg_item, log_option, rule_block}
use Rattle.spec_grammar.specs.Reader.{rule_item, element, next_element, arguments, block_element, block, block_inside, block_name, block_number}
use Rattle.spec_grammar.specs.Reader.{second_block, Entry, once, perhaps, often, Stack, Rules, no_rule, rule, no_role, string, named, string_list}
use Rattle.spec_grammar.specs.Reader.{headed, non_rule_words, names, predicates, numbers, behind, more_until, rules, Step, halt, go, find, step}
use Rattle.spec_grammar.specs.Reader.{may_end, Parse, parsed, stopped, joined_to, onward, read_from, start}

abbrev pub Signs : Type 0
Signs = List Sign

-- the classes of kinds: non_rule_keyword, keyword, generic_block_elem_name, generic_element
pub data NonRuleKeyword : Kind → Type 0 where
  is_asg : NonRuleKeyword kind.Asg
  is_rule : NonRuleKeyword kind.Rule
  is_inp : NonRuleKeyword kind.Inp

pub data Keyword : Kind → Type 0 where
  is_uag : Keyword kind.Uag
  is_hag : Keyword kind.Hag
  is_calc : Keyword kind.Calc
  is_other : {t : Kind} → NonRuleKeyword t → Keyword t

pub data Name : Kind → Type 0 where
  is_keyword : {t : Kind} → Keyword t → Name t
  is_string : Name kind.String

pub data Element : Kind → Type 0 where
  is_name : {t : Kind} → Name t → Element t
  is_int : Element kind.Int
  is_float : Element kind.Float

-- a block at a depth: at the top it may be a generic_list_block
pub data Block : Depth → Signs → Signs → Type 0 where
  one : {p : Depth} {s r : Signs} → Derives (nt generic_block end) s r → Block p s r
  two : {s r : Signs} → Derives (nt generic_list_block end) s r → Block top s r

-- The signs s are what a part stands for, and then r. Of a part that is the rest of something, the whole is derived.
abbrev pub Means : Expected → Signs → Signs → Type 0
Means (token a) s r = Derives (tm a end) s r
Means item s r = Derives (nt asconfig_item end) s r
Means users s r = Derives (nt uag_body end) s r
Means hosts s r = Derives (nt hag_body end) s r
Means (next_string x) s r = Derives (cm (STRING x end)) s r
Means asg_block s r = Derives (nt asg_body end) s r
Means asg_item s r = Derives (nt asg_body_item end) s r
Means log_option s r =
    Derives (nt rule_head end) (kind.OpenParen tagged NoRole ∷ kind.Int tagged Level ∷ kind.Comma tagged NoRole ∷ kind.String tagged Permission ∷ s) r
Means rule_block s r = Derives (nt rule_body end) s r
Means rule_item s r = Derives (nt rule_list_item end) s r
Means element s r = Derives (nt generic_element end) s r
Means next_element s r = Derives (cm (nt generic_element end)) s r
Means arguments s r = Derives (nt generic_head end) (kind.OpenParen tagged NoRole ∷ s) r
Means block_element s r = Derives (nt generic_block_elem end) s r
Means (block p) s r = Block p s r
Means (block_inside p) s r = Block p (kind.OpenBrace tagged NoRole ∷ s) r
Means (block_name p) s r = (t : Kind) → Name t → Block p (kind.OpenBrace tagged NoRole ∷ t tagged NoRole ∷ s) r
Means (block_number p) s r = (t : Kind) → Element t → Block p (kind.OpenBrace tagged NoRole ∷ t tagged NoRole ∷ s) r
Means second_block s r = Derives (lb (nt generic_list (rb end))) s r

-- nothing or an X
pub data Perhaps (X : Signs → Signs → Type 0) : Signs → Signs → Type 0 where
  without : {r : Signs} → Perhaps X r r
  given : {s r : Signs} → X s r → Perhaps X s r

-- any number of X
pub data Often (X : Signs → Signs → Type 0) : Signs → Signs → Type 0 where
  enough : {r : Signs} → Often X r r
  further : {s t r : Signs} → X s t → Often X t r → Often X s r

-- what an entry of the stack stands for
abbrev pub Allows : Entry → Signs → Signs → Type 0
Allows (once x) = Means x
Allows (perhaps x) = Perhaps (Means x)
Allows (often x) = Often (Means x)

-- the signs s are what a stack stands for, and then r
infixr 50 ◌⨾◌
pub data Seq : Stack → Signs → Signs → Type 0 where
  nil : {r : Signs} → Seq [] r r
  ◌⨾◌ : {e : Entry} {k : Stack} {s t r : Signs} → Allows e s t → Seq k t r → Seq (e ∷ k) s r

-- a nonterminal and then k
first : {x : Nonterminal} {k : Symbols} {s t r : Signs} → Derives (nt x end) s t → Derives k t r → Derives (nt x k) s r
first (expand p d finish) e = expand p d e

-- [ X ]
optional : {x : Nonterminal} {s r : Signs} → Perhaps (Derives (nt x end)) s r → Derives (opt x end) s r
optional without = leave finish
optional (given (expand p d finish)) = choose p d finish

-- { α } and then k
repeated : {α k : Symbols} {s t r : Signs} → Often (Derives α) s t → Derives k t r → Derives (many α k) s r
repeated enough d = stop d
repeated (further e m) d = repeat e (repeated m d)

-- [ generic_block ] within other elements
inner_block : {s r : Signs} → Perhaps (Block inner) s r → Derives (opt generic_block end) s r
inner_block without = leave finish
inner_block (given (one d)) = optional (given d)

-- a kind of a class, as its nonterminal, and then k
as_non_rule : {t : Kind} {x : Role} {k : Symbols} {s r : Signs} → NonRuleKeyword t → Derives k s r → Derives (nt (non_rule_keyword x) k) (t tagged x ∷ s) r
as_non_rule is_asg d = expand non_rule_keyword₁ (take finish) d
as_non_rule is_rule d = expand non_rule_keyword₂ (take finish) d
as_non_rule is_inp d = expand non_rule_keyword₃ (take finish) d

as_keyword : {t : Kind} {k : Symbols} {s r : Signs} → Keyword t → Derives k s r → Derives (nt keyword k) (t tagged NoRole ∷ s) r
as_keyword is_uag d = expand keyword₁ (take finish) d
as_keyword is_hag d = expand keyword₂ (take finish) d
as_keyword is_calc d = expand keyword₃ (take finish) d
as_keyword (is_other w) d = expand keyword₄ (as_non_rule w finish) d

as_name : {t : Kind} {k : Symbols} {s r : Signs} → Name t → Derives k s r → Derives (nt generic_block_elem_name k) (t tagged NoRole ∷ s) r
as_name (is_keyword w) d = expand generic_block_elem_name₁ (as_keyword w finish) d
as_name is_string d = expand generic_block_elem_name₂ (take finish) d

as_element : {t : Kind} {k : Symbols} {s r : Signs} → Element t → Derives k s r → Derives (nt generic_element k) (t tagged NoRole ∷ s) r
as_element (is_name (is_keyword w)) d = expand generic_element₁ (as_keyword w finish) d
as_element (is_name is_string) d = expand generic_element₂ (take finish) d
as_element is_int d = expand generic_element₃ (take finish) d
as_element is_float d = expand generic_element₄ (take finish) d

-- a rule of the part x keeps its meaning: the token, and then what the stack stands for, are what x stands for
abbrev Keeps : Expected → Sign → Stack → Type 0
Keeps x a l = (s r : Signs) → Seq l s r → Means x (a ∷ s) r

-- Rule by rule, named by the token that it takes.
at_token : (a : Sign) → Keeps (token a) a []
at_token a _ _ nil = take finish

at_uag : Keeps item (kind.Uag tagged NoRole) (named UagName (perhaps users ∷ []))
at_uag _ _ (take finish ⨾ take finish ⨾ take finish ⨾ b ⨾ nil) =
    expand asconfig_item₁ (expand uag_def₁ (take (expand uag_head₁ (take (take (take finish))) (optional b))) finish) finish

at_hag : Keeps item (kind.Hag tagged NoRole) (named HagName (perhaps hosts ∷ []))
at_hag _ _ (take finish ⨾ take finish ⨾ take finish ⨾ b ⨾ nil) =
    expand asconfig_item₂ (expand hag_def₁ (take (expand hag_head₁ (take (take (take finish))) (optional b))) finish) finish

at_asg : Keeps item (kind.Asg tagged NoRole) (named AsgName (perhaps asg_block ∷ []))
at_asg _ _ (take finish ⨾ take finish ⨾ take finish ⨾ b ⨾ nil) =
    expand asconfig_item₃ (expand asg_def₁ (take (expand asg_head₁ (take (take (take finish))) (optional b))) finish) finish

at_unknown : Keeps item (kind.String tagged UnknownItem) (headed (perhaps (block top) ∷ []))
at_unknown _ _ (take finish ⨾ h ⨾ without ⨾ nil) = expand asconfig_item₄ (expand generic_top_level_item₃ (take (first h finish)) finish) finish
at_unknown _ _ (take finish ⨾ h ⨾ given (one b) ⨾ nil) = expand asconfig_item₄ (expand generic_top_level_item₂ (take (first h b)) finish) finish
at_unknown _ _ (take finish ⨾ h ⨾ given (two b) ⨾ nil) = expand asconfig_item₄ (expand generic_top_level_item₁ (take (first h b)) finish) finish

at_users : Keeps users (kind.OpenBrace tagged NoRole) (string_list User (no_role kind.CloseBrace ∷ []))
at_users _ _ (take finish ⨾ m ⨾ take finish ⨾ nil) = expand uag_body₁ (take (expand uag_user_list₁ (take (repeated m finish)) (take finish))) finish

at_hosts : Keeps hosts (kind.OpenBrace tagged NoRole) (string_list Host (no_role kind.CloseBrace ∷ []))
at_hosts _ _ (take finish ⨾ m ⨾ take finish ⨾ nil) = expand hag_body₁ (take (expand hag_host_list₁ (take (repeated m finish)) (take finish))) finish

at_next_string : (x : Role) → Keeps (next_string x) (kind.Comma tagged NoRole) (string x ∷ [])
at_next_string x _ _ (take finish ⨾ nil) = take (take finish)

at_asg_block : Keeps asg_block (kind.OpenBrace tagged NoRole) (once asg_item ∷ often asg_item ∷ no_role kind.CloseBrace ∷ [])
at_asg_block _ _ (i ⨾ m ⨾ take finish ⨾ nil) = expand asg_body₁ (take (first i (repeated m (take finish)))) finish

at_inp : Keeps asg_item (kind.Inp tagged Input) (named Pvname [])
at_inp _ _ (take finish ⨾ take finish ⨾ take finish ⨾ nil) = expand asg_body_item₁ (expand inp_config₁ (take (take (take (take finish)))) finish) finish

at_rule :
    Keeps asg_item
    (kind.Rule tagged RuleWord)
    (no_role kind.OpenParen ∷ once (token (kind.Int tagged Level)) ∷ no_role kind.Comma ∷ string Permission ∷ once log_option ∷ perhaps rule_block ∷ [])
at_rule _ _ (take finish ⨾ take finish ⨾ take finish ⨾ take finish ⨾ l ⨾ b ⨾ nil) =
    expand asg_body_item₂ (expand rule_config₁ (take (first l (optional b))) finish) finish

at_log_option : Keeps log_option (kind.Comma tagged NoRole) (string LogOption ∷ no_role kind.CloseParen ∷ [])
at_log_option _ _ (take finish ⨾ take finish ⨾ nil) =
    expand rule_head₁ (take (expand rule_head_mandatory₁ (take (take (take finish))) (take (expand rule_log_option₁ (take finish) (take finish))))) finish

at_no_log_option : Keeps log_option (kind.CloseParen tagged NoRole) []
at_no_log_option _ _ nil = expand rule_head₂ (take (expand rule_head_mandatory₁ (take (take (take finish))) (take finish))) finish

at_rule_block : Keeps rule_block (kind.OpenBrace tagged NoRole) (once rule_item ∷ often rule_item ∷ no_role kind.CloseBrace ∷ [])
at_rule_block _ _ (i ⨾ m ⨾ take finish ⨾ nil) = expand rule_body₁ (take (expand rule_list₁ (first i (repeated m finish)) (take finish))) finish

at_rule_uag : Keeps rule_item (kind.Uag tagged NoRole) (no_role kind.OpenParen ∷ string_list UagNamed (no_role kind.CloseParen ∷ []))
at_rule_uag _ _ (take finish ⨾ take finish ⨾ m ⨾ take finish ⨾ nil) =
    expand rule_list_item₁ (take (take (expand rule_uag_list₁ (take (repeated m finish)) (take finish)))) finish

at_rule_hag : Keeps rule_item (kind.Hag tagged NoRole) (no_role kind.OpenParen ∷ string_list HagNamed (no_role kind.CloseParen ∷ []))
at_rule_hag _ _ (take finish ⨾ take finish ⨾ m ⨾ take finish ⨾ nil) =
    expand rule_list_item₂ (take (take (expand rule_hag_list₁ (take (repeated m finish)) (take finish)))) finish

at_calc : Keeps rule_item (kind.Calc tagged CalcWord) (named Calculation [])
at_calc _ _ (take finish ⨾ take finish ⨾ take finish ⨾ nil) = expand rule_list_item₃ (take (take (take (take finish)))) finish

at_predicate : (a : Sign) → ((r : Signs) → Derives (nt rule_generic_block_elem_name end) (a ∷ r) r) → Keeps rule_item a (headed (perhaps (block inner) ∷ []))
at_predicate _ n _ _ (take finish ⨾ h ⨾ b ⨾ nil) =
    expand rule_list_item₄ (expand rule_generic_block_elem₁ (first (n _) (first h (inner_block b))) finish) finish

at_element : (t : Kind) → Element t → Keeps element (t tagged NoRole) []
at_element _ e _ _ nil = as_element e finish

at_next_element : Keeps next_element (kind.Comma tagged NoRole) (once element ∷ [])
at_next_element _ _ (e ⨾ nil) = take e

at_argument : (t : Kind) → Element t → Keeps arguments (t tagged NoRole) (more_until kind.CloseParen)
at_argument _ e _ _ (enough ⨾ take finish ⨾ nil) = expand generic_head₂ (take (as_element e (take finish))) finish
at_argument _ e _ _ (further (take d) m ⨾ take finish ⨾ nil) =
    expand generic_head₃ (take (expand generic_list₁ (as_element e (take (first d (repeated m finish)))) (take finish))) finish

at_no_argument : Keeps arguments (kind.CloseParen tagged NoRole) []
at_no_argument _ _ nil = expand generic_head₁ (take (take finish)) finish

at_block_element : (t : Kind) → Name t → Keeps block_element (t tagged NoRole) (headed (perhaps (block inner) ∷ []))
at_block_element _ n _ _ (take finish ⨾ h ⨾ b ⨾ nil) = expand generic_block_elem₁ (as_name n (first h (inner_block b))) finish

at_only : {x : Expected} (s r : Signs) → Seq (once x ∷ []) s r → Means x s r
at_only _ _ (b ⨾ nil) = b

at_one : (p : Depth) → Keeps (block_number p) (kind.CloseBrace tagged NoRole) (behind p)
at_one inner _ _ nil t e = one (expand generic_block₁ (take (as_element e (take finish))) finish)
at_one top _ _ (without ⨾ nil) t e = one (expand generic_block₁ (take (as_element e (take finish))) finish)
at_one top _ _ (given d ⨾ nil) t e = two (expand generic_list_block₁ (take (as_element e (take d))) finish)

at_list : (p : Depth) → Keeps (block_number p) (kind.Comma tagged NoRole) (once element ∷ more_until kind.CloseBrace)
at_list p _ _ (d ⨾ m ⨾ take finish ⨾ nil) t e =
    one (expand generic_block₂ (take (expand generic_list₁ (as_element e (take (first d (repeated m finish)))) (take finish))) finish)

at_elements :
    (p : Depth)
    → Keeps (block_name p) (kind.OpenParen tagged NoRole) (once arguments ∷ perhaps (block inner) ∷ often block_element ∷ no_role kind.CloseBrace ∷ [])
at_elements p _ _ (h ⨾ b ⨾ m ⨾ take finish ⨾ nil) t n =
    one
    (expand generic_block₃
    (take (expand generic_block_list₁ (expand generic_block_elem₁ (as_name n (first h (inner_block b))) (repeated m finish)) (take finish))) finish)

at_second_block : Keeps second_block (kind.OpenBrace tagged NoRole) (once element ∷ no_role kind.Comma ∷ once element ∷ more_until kind.CloseBrace)
at_second_block _ _ (d ⨾ take finish ⨾ e ⨾ m ⨾ take finish ⨾ nil) = take (expand generic_list₁ (first d (take (first e (repeated m finish)))) (take finish))

-- every rule of a list keeps the meaning of x
abbrev Holds : Expected → Rules → Type 0
Holds x no_rule = Unit
Holds x (rule a l rs) = Keeps x a l × Holds x rs

-- the same rule for each kind of a class, from one proof over the class
holds_non_rules :
    (x : Expected) (v : Role) (l : Stack) (rs : Rules) → ((t : Kind) → NonRuleKeyword t → Keeps x (t tagged v) l) → Holds x rs
    → Holds x (non_rule_words v l rs)
holds_non_rules x v l rs f h = (f _ is_asg, (f _ is_rule, (f _ is_inp, h)))

holds_names : (x : Expected) (l : Stack) (rs : Rules) → ((t : Kind) → Name t → Keeps x (t tagged NoRole) l) → Holds x rs → Holds x (names l rs)
holds_names x l rs f h = (
  f _ (is_keyword is_uag),
  (
    f _ (is_keyword is_hag),
    (
      f _ (is_keyword is_calc),
      holds_non_rules x NoRole l (rule (kind.String tagged NoRole) l rs) (λ t n. f t (is_keyword (is_other n))) (f _ is_string, h),
    ),
  ),
)

holds_predicates : Holds rule_item predicates
holds_predicates =
    holds_non_rules rule_item UnknownPredicate
    (headed (perhaps (block inner) ∷ []))
    (rule (kind.String tagged UnknownPredicate) (headed (perhaps (block inner) ∷ [])) no_rule)
    (λ t n. at_predicate _ (λ r. expand rule_generic_block_elem_name₁ (as_non_rule n finish) finish))
    (at_predicate _ (λ r. expand rule_generic_block_elem_name₂ (take finish) finish), tt)

-- every rule of every part keeps its meaning
holds : (x : Expected) → Holds x (rules x)
holds (token a) = (at_token a, tt)
holds item = (at_uag, (at_hag, (at_asg, (at_unknown, tt))))
holds users = (at_users, tt)
holds hosts = (at_hosts, tt)
holds (next_string x) = (at_next_string x, tt)
holds asg_block = (at_asg_block, tt)
holds asg_item = (at_inp, (at_rule, tt))
holds log_option = (at_log_option, (at_no_log_option, tt))
holds rule_block = (at_rule_block, tt)
holds rule_item = (at_rule_uag, (at_rule_hag, (at_calc, holds_predicates)))
holds element = holds_names element [] (numbers [] no_rule) (λ t n. at_element t (is_name n)) (at_element _ is_int, (at_element _ is_float, tt))
holds next_element = (at_next_element, tt)
holds arguments =
    holds_names arguments
    (more_until kind.CloseParen)
    (numbers (more_until kind.CloseParen) (rule (kind.CloseParen tagged NoRole) [] no_rule))
    (λ t n. at_argument t (is_name n))
    (at_argument _ is_int, (at_argument _ is_float, (at_no_argument, tt)))
holds block_element = holds_names block_element (headed (perhaps (block inner) ∷ [])) no_rule at_block_element tt
holds (block p) = (at_only {x = block_inside p}, tt)
holds (block_inside p) =
    holds_names
    (block_inside p)
    (once (block_name p) ∷ [])
    (numbers (once (block_number p) ∷ []) no_rule)
    (λ t n s r q. at_only {x = block_name p} s r q t n)
    (λ s r q. at_only {x = block_number p} s r q _ is_int, (λ s r q. at_only {x = block_number p} s r q _ is_float, tt))
holds (block_name p) = (λ s r q t n. at_one p s r q t (is_name n), (λ s r q t n. at_list p s r q t (is_name n), (at_elements p, tt)))
holds (block_number p) = (at_one p, (at_list p, tt))
holds second_block = (at_second_block, tt)

-- some signs are an X
data Some (X : Signs → Type 0) : Type 0 where
  some : {s : Signs} → X s → Some X

-- no second block
nothing_behind : (p : Depth) (r : Signs) → Seq (behind p) r r
nothing_behind top r = without ⨾ nil
nothing_behind inner r = nil

-- every part has signs that it stands for, before any rest
a_word : (x : Expected) (r : Signs) → Some (λ s. Means x s r)
a_word (token a) r = some (take finish)
a_word item r = some (at_unknown _ _ (take finish ⨾ at_no_argument _ _ nil ⨾ without ⨾ nil))
a_word users r = some (at_users _ _ (take finish ⨾ enough ⨾ take finish ⨾ nil))
a_word hosts r = some (at_hosts _ _ (take finish ⨾ enough ⨾ take finish ⨾ nil))
a_word (next_string x) r = some (take (take finish))
a_word asg_block r = some (at_asg_block _ _ (at_inp _ _ (take finish ⨾ take finish ⨾ take finish ⨾ nil) ⨾ enough ⨾ take finish ⨾ nil))
a_word asg_item r = some (at_inp _ _ (take finish ⨾ take finish ⨾ take finish ⨾ nil))
a_word log_option r = some (at_no_log_option _ _ nil)
a_word rule_block r = some (at_rule_block _ _ (at_calc _ _ (take finish ⨾ take finish ⨾ take finish ⨾ nil) ⨾ enough ⨾ take finish ⨾ nil))
a_word rule_item r = some (at_calc _ _ (take finish ⨾ take finish ⨾ take finish ⨾ nil))
a_word element r = some (at_element _ is_int _ _ nil)
a_word next_element r = some (take (at_element _ is_int _ _ nil))
a_word arguments r = some (at_no_argument _ _ nil)
a_word block_element r = some (at_block_element _ is_string _ _ (take finish ⨾ at_no_argument _ _ nil ⨾ without ⨾ nil))
a_word (block p) r = some (at_one p _ _ (nothing_behind p r) _ is_int)
a_word (block_inside p) r = some (at_one p _ _ (nothing_behind p r) _ is_int)
a_word (block_name p) r = some (λ t n. at_one p _ _ (nothing_behind p r) t (is_name n))
a_word (block_number p) r = some (at_one p _ _ (nothing_behind p r))
a_word second_block r = some (at_second_block _ _ (at_element _ is_int _ _ nil ⨾ take finish ⨾ at_element _ is_int _ _ nil ⨾ enough ⨾ take finish ⨾ nil))

-- such signs
chosen : {X : Signs → Type 0} → Some X → (s : Signs) × X s
chosen (some {s = s} x) = (s, x)

-- so has every entry of a stack
allowed : (e : Entry) (r : Signs) → (s : Signs) × Allows e s r
allowed (once x) r = chosen (a_word x r)
allowed (perhaps x) r = (r, without)
allowed (often x) r = (r, enough)

-- and every stack
pub words : (k : Stack) → (s : Signs) × Seq k s []
words [] = ([], nil)
words (e ∷ k) = let q = words k in let m = allowed e q.0 in (m.0, m.1 ⨾ q.1)

-- of no sign, where nothing must come
no_words : (k : Stack) → T (may_end k) → Seq k [] []
no_words [] c = nil
no_words (once x ∷ k) c = absurd c
no_words (perhaps x ∷ k) c = without ⨾ no_words k c
no_words (often x ∷ k) c = enough ⨾ no_words k c

-- the kind of a number
decoded : ℕ → Kind
decoded n =
    get_or
    (kind.Uag ∷ kind.Hag ∷ kind.Asg ∷ kind.Rule ∷ kind.Calc ∷ kind.Inp ∷ kind.Int ∷ kind.Float ∷ kind.String ∷ kind.OpenParen ∷ kind.CloseParen ∷
    kind.OpenBrace ∷ kind.CloseBrace ∷ kind.Comma ∷ []) n kind.Comma

decoded_number : (t : Kind) → decoded (kind_number t) ≡ t
unfolding decoded
decoded_number kind.Uag = refl
decoded_number kind.Hag = refl
decoded_number kind.Asg = refl
decoded_number kind.Rule = refl
decoded_number kind.Calc = refl
decoded_number kind.Inp = refl
decoded_number kind.Int = refl
decoded_number kind.Float = refl
decoded_number kind.String = refl
decoded_number kind.OpenParen = refl
decoded_number kind.CloseParen = refl
decoded_number kind.OpenBrace = refl
decoded_number kind.CloseBrace = refl
decoded_number kind.Comma = refl

-- kinds with one number are one
pub same_kind : (a b : Kind) → T (eqb (kind_number a) (kind_number b)) → a ≡ b
same_kind a b e = sym (decoded_number a) ∙ ap decoded (eqb→eq (kind_number a) (kind_number b) e) ∙ decoded_number b

-- what the stack l, and then k, stand for
split : (l : Stack) {k : Stack} {s r : Signs} → Seq (l ++ k) s r → (t : Signs) × Seq l s t × Seq k t r
split [] q = (_, nil, q)
split (e ∷ l) (m ⨾ q) = let z = split l q in (z.0, m ⨾ z.1, z.2)

-- one x before any number of x
once_more : {x : Expected} {k : Stack} {s t r : Signs} → Means x s t → Seq (often x ∷ k) t r → Seq (often x ∷ k) s r
once_more m (n ⨾ q) = further m n ⨾ q

-- a step is no halt
pub never : {A : Type 0} {v : Role} {j : Stack} → halt ≡ go v j → A
never e = let z : ◌≡◌ {A = ℕ} 0 1 = cc in absurd (omega arith)

-- what a rule found says, or what is said where none is
module _ (x : Expected) (k j : Stack) (t : Kind) (v : Role) (s r : Signs) (q : Seq j s r) (C : Type 0) (found : (u : Signs) → Means x (t tagged v ∷ s) u → Seq k u r → C) (d : Step) (other : d ≡ go v j → C) where
  find_sound : (rs : Rules) → Holds x rs → find rs t k d ≡ go v j → C
  find_sound no_rule h e = other e
  find_sound (rule (y tagged w) l rs) h e = test (eqb (kind_number y) (kind_number t)) refl (find_sound rs h.1) e
    where
      test : (b : Bool) → eqb (kind_number y) (kind_number t) ≡ b → (find rs t k d ≡ go v j → C) → cond b (go w (l ++ k)) (find rs t k d) ≡ go v j → C
      test true n ih f =
          let same_stack : j ≡ l ++ k = cc in
          let same_role : w ≡ v = cc in
          let z = split l (rw same_stack at q) in
          found z.0 (rw (← same_kind y t (rw n tt), ← same_role) (h.0 s z.0 z.1)) z.2
      test false n ih f = ih f

-- a step's token, and then what the new stack stands for, are what the old one stands for
pub step_sound : (k j : Stack) (t : Kind) (v : Role) (s r : Signs) → step k t ≡ go v j → Seq j s r → Seq k (t tagged v ∷ s) r
step_sound [] j t v s r e q = never e
step_sound (once x ∷ k) j t v s r e q = find_sound x k j t v s r q (Seq (once x ∷ k) (t tagged v ∷ s) r) (λ u m z. m ⨾ z) halt never (rules x) (holds x) e
step_sound (perhaps x ∷ k) j t v s r e q =
    find_sound x k j t v s r q
    (Seq (perhaps x ∷ k) (t tagged v ∷ s) r)
    (λ u m z. given m ⨾ z)
    (step k t)
    (λ f. without ⨾ step_sound k j t v s r f q)
    (rules x)
    (holds x) e
step_sound (often x ∷ k) j t v s r e q =
    find_sound x
    (often x ∷ k) j t v s r q
    (Seq (often x ∷ k) (t tagged v ∷ s) r)
    (λ u m z. once_more m z)
    (step k t)
    (λ f. enough ⨾ step_sound k j t v s r f q)
    (rules x)
    (holds x) e

-- what the reader starts with stands for an acf_file
pub file : {s : Signs} → Seq start s [] → AcfFile s
file (i ⨾ m ⨾ nil) = expand acf_file₁ (expand asconfig₁ (first i (repeated m finish)) finish) finish

-- a text that is read is none that stops
pub parsed_not_stopped : {A : Type 0} {xs : List Tagged} {p : ℕ} → parsed xs ≡ stopped p → A
parsed_not_stopped e = let z : ◌≡◌ {A = ℕ} 0 1 = cc in absurd (omega arith)

-- a token that the reader took, the stack and the outcome behind it
record Onward (s : Step) (t : Token) (f : Stack → Parse) (xs : List Tagged) : Type 0 where
  role : Role
  stack : Stack
  rest : List Tagged
  stepped : s ≡ go role stack
  later : f stack ≡ parsed rest
  all : record { token = t; role = role } ∷ rest ≡ xs

-- reading goes on where all is read
onward_parsed : (s : Step) (t : Token) (f : Stack → Parse) (xs : List Tagged) → onward s t f ≡ parsed xs → Onward s t f xs
onward_parsed halt t f xs e = parsed_not_stopped (sym e)
onward_parsed (go v j) t f xs e = split (f j) refl e
  where
    split : (o : Parse) → f j ≡ o → joined_to (record { token = t; role = v }) o ≡ parsed xs → Onward (go v j) t f xs
    split (parsed ys) g h = record { role = v; stack = j; rest = ys; stepped = refl; later = g; all = cc }
    split (stopped p) g h = parsed_not_stopped (sym h)

-- what the reader says, in the tokens' places, is what the stack stands for
pub read_from_sound :
    (k : Stack) (ts : List Token) (n : ℕ) (xs : List Tagged) → read_from k ts n ≡ parsed xs → (map (λ x. x.token) xs ≡ ts) × Seq k (map sign xs) []
read_from_sound k [] n xs e = ends (may_end k) refl e
  where
    ends : (b : Bool) → may_end k ≡ b → cond b (parsed []) (stopped n) ≡ parsed xs → (map (λ x. x.token) xs ≡ []) × Seq k (map sign xs) []
    ends true c h = let nothing : [] ≡ xs = cc in subst (λ ys. (map (λ x. x.token) ys ≡ []) × Seq k (map sign ys) []) nothing (refl, no_words k (rw c tt))
    ends false c h = parsed_not_stopped (sym h)
read_from_sound k (t ∷ ts) n xs e =
    let o = onward_parsed (step k t.kind) t (λ j. read_from j ts n) xs e in
    let z = read_from_sound o.stack ts n o.rest o.later in
    subst
    (λ ys. (map (λ x. x.token) ys ≡ t ∷ ts) × Seq k (map sign ys) [])
    o.all
    (ap (λ l. t ∷ l) z.0, step_sound k o.stack t.kind o.role (map sign o.rest) [] o.stepped z.1)
