-- The reader of 001's grammar: a stack of what must still come, and one step for each token.
use Rattle.std.specs.Prelude.{Bool, true, false, cond, List, [], ◌∷◌, ◌++◌, ℕ, eqb}
use Rattle.spec_token.specs.declared.Kind.{Kind}
use Rattle.spec_token.specs.declared.Kind.TheVariants as kind
use Rattle.spec_token.specs.Token.{Token}
use Rattle.spec_grammar.specs.declared.Role.{Role}
use Rattle.spec_grammar.specs.declared.Role.TheVariants.{NoRole, UagName, User, HagName, Host, AsgName, Input, Pvname, RuleWord, Level, Permission}
use Rattle.spec_grammar.specs.declared.Role.TheVariants.{LogOption, UagNamed, HagNamed, CalcWord, Calculation, UnknownItem, UnknownPredicate}
use Rattle.spec_grammar.specs.Production.{Sign, ◌tagged◌}
use Rattle.spec_grammar.specs.Sentence.{Tagged}
use Rattle.spec_grammar.specs.Codes.{kind_number}

-- where a generic block stands: behind an unknown item's head, where a second may follow it, or within other elements
pub data Depth : Type 0 where
  top inner : Depth

-- What may still come. The first token decides how a part goes on.
pub data Expected : Type 0 where
  -- this token
  token : Sign → Expected
  -- asconfig_item
  item : Expected
  -- uag_body
  users : Expected
  -- hag_body
  hosts : Expected
  -- "," STRING
  next_string : Role → Expected
  -- asg_body
  asg_block : Expected
  -- asg_body_item
  asg_item : Expected
  -- what follows the permission in a rule_head: "," rule_log_option ")", or ")"
  log_option : Expected
  -- rule_body
  rule_block : Expected
  -- rule_list_item
  rule_item : Expected
  -- generic_element
  element : Expected
  -- "," generic_element
  next_element : Expected
  -- what follows "(" in a generic_head
  arguments : Expected
  -- generic_block_elem
  block_element : Expected
  -- generic_block; at the top also generic_list_block
  block : Depth → Expected
  -- what follows "{" in a block
  block_inside : Depth → Expected
  -- what follows "{" and a generic_element that may be a generic_block_elem_name
  block_name : Depth → Expected
  -- what follows "{" and another generic_element
  block_number : Depth → Expected
  -- the second half of a generic_list_block: "{" generic_list "}"
  second_block : Expected

-- a part that must come, that may come, that may come any number of times
pub data Entry : Type 0 where
  once perhaps often : Expected → Entry

-- what must and may still come, the next entry first
abbrev pub Stack : Type 0
Stack = List Entry

-- a part's rules: a token with what it says, and what must come after it
pub data Rules : Type 0 where
  no_rule : Rules
  rule : Sign → Stack → Rules → Rules

-- a token that says nothing
abbrev pub no_role : Kind → Entry
no_role k = once (token (k tagged NoRole))

-- a STRING and what it says
abbrev pub string : Role → Entry
string r = once (token (kind.String tagged r))

-- "(" STRING ")" and then k
abbrev pub named : Role → Stack → Stack
named r k = no_role kind.OpenParen ∷ string r ∷ no_role kind.CloseParen ∷ k

-- STRING { "," STRING } and then k
abbrev pub string_list : Role → Stack → Stack
string_list r k = string r ∷ often (next_string r) ∷ k

-- generic_head and then k
abbrev pub headed : Stack → Stack
headed k = no_role kind.OpenParen ∷ once arguments ∷ k

-- "{" l "}"
abbrev pub braced : (Stack → Stack) → Rules
braced l = rule (kind.OpenBrace tagged NoRole) (l (no_role kind.CloseBrace ∷ [])) no_rule

-- the same rule for each non_rule_keyword
abbrev pub non_rule_words : Role → Stack → Rules → Rules
non_rule_words r l rs = rule (kind.Asg tagged r) l (rule (kind.Rule tagged r) l (rule (kind.Inp tagged r) l rs))

-- the same rule for each generic_block_elem_name
abbrev pub names : Stack → Rules → Rules
names l rs =
    rule
    (kind.Uag tagged NoRole) l
    (rule (kind.Hag tagged NoRole) l (rule (kind.Calc tagged NoRole) l (non_rule_words NoRole l (rule (kind.String tagged NoRole) l rs))))

-- an unknown predicate: the same rule for each rule_generic_block_elem_name
abbrev pub predicates : Rules
predicates =
    non_rule_words UnknownPredicate (headed (perhaps (block inner) ∷ []))
    (rule (kind.String tagged UnknownPredicate) (headed (perhaps (block inner) ∷ [])) no_rule)

-- the same rule for INT and FLOAT
abbrev pub numbers : Stack → Rules → Rules
numbers l rs = rule (kind.Int tagged NoRole) l (rule (kind.Float tagged NoRole) l rs)

-- what may follow "{" generic_element "}"
abbrev pub behind : Depth → Stack
behind top = perhaps second_block ∷ []
behind inner = []

-- { "," generic_element } and a closing token
abbrev pub more_until : Kind → Stack
more_until k = often next_element ∷ no_role k ∷ []

-- what follows "{" generic_element: "}", or "," and the rest of a generic_list, or what rs allow
abbrev pub one_or_list : Depth → Rules → Rules
one_or_list p rs = rule (kind.CloseBrace tagged NoRole) (behind p) (rule (kind.Comma tagged NoRole) (once element ∷ more_until kind.CloseBrace) rs)

-- every part's rules
abbrev pub rules : Expected → Rules
rules (token a) = rule a [] no_rule
rules item =
    rule (kind.Uag tagged NoRole) (named UagName (perhaps users ∷ []))
    (rule (kind.Hag tagged NoRole) (named HagName (perhaps hosts ∷ []))
    (rule (kind.Asg tagged NoRole) (named AsgName (perhaps asg_block ∷ []))
    (rule (kind.String tagged UnknownItem) (headed (perhaps (block top) ∷ [])) no_rule)))
rules users = braced (string_list User)
rules hosts = braced (string_list Host)
rules (next_string r) = rule (kind.Comma tagged NoRole) (string r ∷ []) no_rule
rules asg_block = braced (λ k. once asg_item ∷ often asg_item ∷ k)
rules asg_item =
    rule (kind.Inp tagged Input) (named Pvname [])
    (rule
    (kind.Rule tagged RuleWord)
    (no_role kind.OpenParen ∷ once (token (kind.Int tagged Level)) ∷ no_role kind.Comma ∷ string Permission ∷ once log_option ∷ perhaps rule_block ∷ []) no_rule)
rules log_option = rule (kind.Comma tagged NoRole) (string LogOption ∷ no_role kind.CloseParen ∷ []) (rule (kind.CloseParen tagged NoRole) [] no_rule)
rules rule_block = braced (λ k. once rule_item ∷ often rule_item ∷ k)
rules rule_item =
    rule (kind.Uag tagged NoRole) (no_role kind.OpenParen ∷ string_list UagNamed (no_role kind.CloseParen ∷ []))
    (rule (kind.Hag tagged NoRole) (no_role kind.OpenParen ∷ string_list HagNamed (no_role kind.CloseParen ∷ []))
    (rule (kind.Calc tagged CalcWord) (named Calculation []) predicates))
rules element = names [] (numbers [] no_rule)
rules next_element = rule (kind.Comma tagged NoRole) (once element ∷ []) no_rule
rules arguments = names (more_until kind.CloseParen) (numbers (more_until kind.CloseParen) (rule (kind.CloseParen tagged NoRole) [] no_rule))
rules block_element = names (headed (perhaps (block inner) ∷ [])) no_rule
rules (block p) = rule (kind.OpenBrace tagged NoRole) (once (block_inside p) ∷ []) no_rule
rules (block_inside p) = names (once (block_name p) ∷ []) (numbers (once (block_number p) ∷ []) no_rule)
rules (block_name p) =
    one_or_list p
    (rule (kind.OpenParen tagged NoRole) (once arguments ∷ perhaps (block inner) ∷ often block_element ∷ no_role kind.CloseBrace ∷ []) no_rule)
rules (block_number p) = one_or_list p no_rule
rules second_block = rule (kind.OpenBrace tagged NoRole) (once element ∷ no_role kind.Comma ∷ once element ∷ more_until kind.CloseBrace) no_rule

-- a token may not come, or says something and leaves a stack
pub data Step : Type 0 where
  halt : Step
  go : Role → Stack → Step

-- the step by the first rule for the kind t, on top of k; d if there is none
abbrev pub find : Rules → Kind → Stack → Step → Step
find no_rule t k d = d
find (rule (x tagged r) l rs) t k d = cond (eqb (kind_number x) (kind_number t)) (go r (l ++ k)) (find rs t k d)

-- the step of a stack at a token of kind t; an entry that need not come may be passed over
abbrev pub step : Stack → Kind → Step
step [] t = halt
step (once x ∷ k) t = find (rules x) t k halt
step (perhaps x ∷ k) t = find (rules x) t k (step k t)
step (often x ∷ k) t = find (rules x) t (often x ∷ k) (step k t)

-- nothing must come any more
abbrev pub may_end : Stack → Bool
may_end [] = true
may_end (once x ∷ k) = false
may_end (perhaps x ∷ k) = may_end k
may_end (often x ∷ k) = may_end k

-- what the tokens say, or the place at which they stop being the beginning of any file
pub data Parse : Type 0 where
  parsed : List Tagged → Parse
  stopped : ℕ → Parse

-- one more token in front of what is said
abbrev pub joined_to : Tagged → Parse → Parse
joined_to x (parsed xs) = parsed (x ∷ xs)
joined_to x (stopped p) = stopped p

-- reading goes on behind the token t, or stops at it
abbrev pub onward : Step → Token → (Stack → Parse) → Parse
onward halt t f = stopped t.place
onward (go r k) t f = joined_to (record { token = t; role = r }) (f k)

-- the tokens read from the stack k on; n: the file's length, the place at which they end too early
abbrev pub read_from : Stack → List Token → ℕ → Parse
read_from k [] n = cond (may_end k) (parsed []) (stopped n)
read_from k (t ∷ ts) n = onward (step k t.kind) t (λ j. read_from j ts n)

-- asconfig_item { asconfig_item }
abbrev pub start : Stack
start = once item ∷ often item ∷ []

-- a file's tokens, read
abbrev pub read : List Token → ℕ → Parse
read = read_from start
