-- The productions of 001, "Grammar", one by one, in its order and under its names. A terminal stands with what it says there.
use Rattle.std.specs.Prelude.{List, [], ◌∷◌}
use Rattle.spec_token.specs.declared.Kind.{Kind}
use Rattle.spec_token.specs.declared.Kind.TheVariants as kind
use Rattle.spec_grammar.specs.declared.Role.{Role}
use Rattle.spec_grammar.specs.declared.Role.TheVariants.{NoRole, UagName, User, HagName, Host, AsgName, Input, Pvname, RuleWord, Level, Permission}
use Rattle.spec_grammar.specs.declared.Role.TheVariants.{LogOption, UagNamed, HagNamed, CalcWord, Calculation, UnknownItem, UnknownPredicate}

-- a token's kind and what it says
infix 80 ◌tagged◌
pub data Sign : Type 0 where
  ◌tagged◌ : Kind → Role → Sign

pub data Nonterminal : Type 0 where
  acf_file asconfig asconfig_item : Nonterminal
  uag_def uag_head uag_body uag_user_list hag_def hag_head hag_body hag_host_list : Nonterminal
  asg_def asg_head asg_body asg_body_item inp_config : Nonterminal
  rule_config rule_head rule_head_mandatory rule_log_option rule_body rule_list rule_list_item rule_uag_list rule_hag_list : Nonterminal
  keyword : Nonterminal
  -- with what it says: nothing, or an unknown predicate's name
  non_rule_keyword : Role → Nonterminal
  generic_head generic_list generic_element : Nonterminal
  generic_block generic_block_list generic_block_elem generic_block_elem_name generic_top_level_item generic_list_block : Nonterminal
  rule_generic_block_elem rule_generic_block_elem_name : Nonterminal

-- The right side of a production. tm: a terminal; nt: a nonterminal; opt: [ X ]; many: { .. }. Each has what follows it behind it.
pub data Symbols : Type 0 where
  end : Symbols
  tm : Sign → Symbols → Symbols
  nt opt : Nonterminal → Symbols → Symbols
  many : Symbols → Symbols → Symbols

-- the punctuation tokens "(" ")" "{" "}" ","
abbrev pub lp : Symbols → Symbols
lp = tm (kind.OpenParen tagged NoRole)

abbrev pub rp : Symbols → Symbols
rp = tm (kind.CloseParen tagged NoRole)

abbrev pub lb : Symbols → Symbols
lb = tm (kind.OpenBrace tagged NoRole)

abbrev pub rb : Symbols → Symbols
rb = tm (kind.CloseBrace tagged NoRole)

abbrev pub cm : Symbols → Symbols
cm = tm (kind.Comma tagged NoRole)

-- the words "UAG", "HAG", "ASG", "RULE", "CALC", INP(link), and INT, FLOAT, STRING, each with what it says
abbrev pub UAG : Role → Symbols → Symbols
UAG r = tm (kind.Uag tagged r)

abbrev pub HAG : Role → Symbols → Symbols
HAG r = tm (kind.Hag tagged r)

abbrev pub ASG : Role → Symbols → Symbols
ASG r = tm (kind.Asg tagged r)

abbrev pub RULE : Role → Symbols → Symbols
RULE r = tm (kind.Rule tagged r)

abbrev pub CALC : Role → Symbols → Symbols
CALC r = tm (kind.Calc tagged r)

abbrev pub INP : Role → Symbols → Symbols
INP r = tm (kind.Inp tagged r)

abbrev pub INT : Role → Symbols → Symbols
INT r = tm (kind.Int tagged r)

abbrev pub FLOAT : Role → Symbols → Symbols
FLOAT r = tm (kind.Float tagged r)

abbrev pub STRING : Role → Symbols → Symbols
STRING r = tm (kind.String tagged r)

-- STRING { "," STRING }, each with what it says
abbrev pub strings : Role → Symbols
strings r = STRING r (many (cm (STRING r end)) end)

infix 40 ◌⟶◌
pub data ◌⟶◌ : Nonterminal → Symbols → Type 0 where
  -- Top level
  -- acf_file : asconfig
  acf_file₁ : acf_file ⟶ nt asconfig end
  -- asconfig : asconfig_item { asconfig_item }
  asconfig₁ : asconfig ⟶ nt asconfig_item (many (nt asconfig_item end) end)
  -- asconfig_item : uag_def
  asconfig_item₁ : asconfig_item ⟶ nt uag_def end
  -- asconfig_item : hag_def
  asconfig_item₂ : asconfig_item ⟶ nt hag_def end
  -- asconfig_item : asg_def
  asconfig_item₃ : asconfig_item ⟶ nt asg_def end
  -- asconfig_item : generic_top_level_item
  asconfig_item₄ : asconfig_item ⟶ nt generic_top_level_item end
  -- UAG / HAG groups
  -- uag_def : "UAG" uag_head [ uag_body ]
  uag_def₁ : uag_def ⟶ UAG NoRole (nt uag_head (opt uag_body end))
  -- uag_head : "(" STRING ")"
  uag_head₁ : uag_head ⟶ lp (STRING UagName (rp end))
  -- uag_body : "{" uag_user_list "}"
  uag_body₁ : uag_body ⟶ lb (nt uag_user_list (rb end))
  -- uag_user_list : STRING { "," STRING }
  uag_user_list₁ : uag_user_list ⟶ strings User
  -- hag_def : "HAG" hag_head [ hag_body ]
  hag_def₁ : hag_def ⟶ HAG NoRole (nt hag_head (opt hag_body end))
  -- hag_head : "(" STRING ")"
  hag_head₁ : hag_head ⟶ lp (STRING HagName (rp end))
  -- hag_body : "{" hag_host_list "}"
  hag_body₁ : hag_body ⟶ lb (nt hag_host_list (rb end))
  -- hag_host_list : STRING { "," STRING }
  hag_host_list₁ : hag_host_list ⟶ strings Host
  -- ASG (access security group)
  -- asg_def : "ASG" asg_head [ asg_body ]
  asg_def₁ : asg_def ⟶ ASG NoRole (nt asg_head (opt asg_body end))
  -- asg_head : "(" STRING ")"
  asg_head₁ : asg_head ⟶ lp (STRING AsgName (rp end))
  -- asg_body : "{" asg_body_item { asg_body_item } "}"
  asg_body₁ : asg_body ⟶ lb (nt asg_body_item (many (nt asg_body_item end) (rb end)))
  -- asg_body_item : inp_config | rule_config
  asg_body_item₁ : asg_body_item ⟶ nt inp_config end
  asg_body_item₂ : asg_body_item ⟶ nt rule_config end
  -- INP config
  -- inp_config : INP(link) "(" STRING ")"
  inp_config₁ : inp_config ⟶ INP Input (lp (STRING Pvname (rp end)))
  -- RULE config
  -- rule_config : "RULE" rule_head [ rule_body ]
  rule_config₁ : rule_config ⟶ RULE RuleWord (nt rule_head (opt rule_body end))
  -- rule_head : "(" rule_head_mandatory "," rule_log_option ")"
  rule_head₁ : rule_head ⟶ lp (nt rule_head_mandatory (cm (nt rule_log_option (rp end))))
  -- rule_head : "(" rule_head_mandatory ")"
  rule_head₂ : rule_head ⟶ lp (nt rule_head_mandatory (rp end))
  -- rule_head_mandatory : INT "," STRING
  rule_head_mandatory₁ : rule_head_mandatory ⟶ INT Level (cm (STRING Permission end))
  -- rule_log_option : STRING
  rule_log_option₁ : rule_log_option ⟶ STRING LogOption end
  -- rule_body : "{" rule_list "}"
  rule_body₁ : rule_body ⟶ lb (nt rule_list (rb end))
  -- rule_list : rule_list_item { rule_list_item }
  rule_list₁ : rule_list ⟶ nt rule_list_item (many (nt rule_list_item end) end)
  -- rule_list_item : "UAG" "(" rule_uag_list ")"
  rule_list_item₁ : rule_list_item ⟶ UAG NoRole (lp (nt rule_uag_list (rp end)))
  -- rule_list_item : "HAG" "(" rule_hag_list ")"
  rule_list_item₂ : rule_list_item ⟶ HAG NoRole (lp (nt rule_hag_list (rp end)))
  -- rule_list_item : "CALC" "(" STRING ")"
  rule_list_item₃ : rule_list_item ⟶ CALC CalcWord (lp (STRING Calculation (rp end)))
  -- rule_list_item : rule_generic_block_elem
  rule_list_item₄ : rule_list_item ⟶ nt rule_generic_block_elem end
  -- rule_uag_list : STRING { "," STRING }
  rule_uag_list₁ : rule_uag_list ⟶ strings UagNamed
  -- rule_hag_list : STRING { "," STRING }
  rule_hag_list₁ : rule_hag_list ⟶ strings HagNamed
  -- Keyword classes
  -- keyword : "UAG"
  keyword₁ : keyword ⟶ UAG NoRole end
  -- keyword : "HAG"
  keyword₂ : keyword ⟶ HAG NoRole end
  -- keyword : "CALC"
  keyword₃ : keyword ⟶ CALC NoRole end
  -- keyword : non_rule_keyword
  keyword₄ : keyword ⟶ nt (non_rule_keyword NoRole) end
  -- non_rule_keyword : "ASG"
  non_rule_keyword₁ : {r : Role} → non_rule_keyword r ⟶ ASG r end
  -- non_rule_keyword : "RULE"
  non_rule_keyword₂ : {r : Role} → non_rule_keyword r ⟶ RULE r end
  -- non_rule_keyword : INP(link)
  non_rule_keyword₃ : {r : Role} → non_rule_keyword r ⟶ INP r end
  -- Generic head (argument list)
  -- generic_head : "(" ")"
  generic_head₁ : generic_head ⟶ lp (rp end)
  -- generic_head : "(" generic_element ")"
  generic_head₂ : generic_head ⟶ lp (nt generic_element (rp end))
  -- generic_head : "(" generic_list ")"
  generic_head₃ : generic_head ⟶ lp (nt generic_list (rp end))
  -- generic_list : generic_element "," generic_element { "," generic_element }
  generic_list₁ : generic_list ⟶ nt generic_element (cm (nt generic_element (many (cm (nt generic_element end)) end)))
  -- generic_element : keyword
  generic_element₁ : generic_element ⟶ nt keyword end
  -- generic_element : STRING
  generic_element₂ : generic_element ⟶ STRING NoRole end
  -- generic_element : INT
  generic_element₃ : generic_element ⟶ INT NoRole end
  -- generic_element : FLOAT
  generic_element₄ : generic_element ⟶ FLOAT NoRole end
  -- Generic blocks
  -- generic_block : "{" generic_element "}"
  generic_block₁ : generic_block ⟶ lb (nt generic_element (rb end))
  -- generic_block : "{" generic_list "}"
  generic_block₂ : generic_block ⟶ lb (nt generic_list (rb end))
  -- generic_block : "{" generic_block_list "}"
  generic_block₃ : generic_block ⟶ lb (nt generic_block_list (rb end))
  -- generic_block_list : generic_block_elem { generic_block_elem }
  generic_block_list₁ : generic_block_list ⟶ nt generic_block_elem (many (nt generic_block_elem end) end)
  -- generic_block_elem : generic_block_elem_name generic_head [ generic_block ]
  generic_block_elem₁ : generic_block_elem ⟶ nt generic_block_elem_name (nt generic_head (opt generic_block end))
  -- generic_block_elem_name : keyword
  generic_block_elem_name₁ : generic_block_elem_name ⟶ nt keyword end
  -- generic_block_elem_name : STRING
  generic_block_elem_name₂ : generic_block_elem_name ⟶ STRING NoRole end
  -- Generic top-level items
  -- generic_top_level_item : STRING generic_head generic_list_block
  generic_top_level_item₁ : generic_top_level_item ⟶ STRING UnknownItem (nt generic_head (nt generic_list_block end))
  -- generic_top_level_item : STRING generic_head generic_block
  generic_top_level_item₂ : generic_top_level_item ⟶ STRING UnknownItem (nt generic_head (nt generic_block end))
  -- generic_top_level_item : STRING generic_head
  generic_top_level_item₃ : generic_top_level_item ⟶ STRING UnknownItem (nt generic_head end)
  -- generic_list_block : "{" generic_element "}" "{" generic_list "}"
  generic_list_block₁ : generic_list_block ⟶ lb (nt generic_element (rb (lb (nt generic_list (rb end)))))
  -- Generic blocks inside RULE bodies
  -- rule_generic_block_elem : rule_generic_block_elem_name generic_head [ generic_block ]
  rule_generic_block_elem₁ : rule_generic_block_elem ⟶ nt rule_generic_block_elem_name (nt generic_head (opt generic_block end))
  -- rule_generic_block_elem_name : non_rule_keyword | STRING
  rule_generic_block_elem_name₁ : rule_generic_block_elem_name ⟶ nt (non_rule_keyword UnknownPredicate) end
  rule_generic_block_elem_name₂ : rule_generic_block_elem_name ⟶ STRING UnknownPredicate end

-- Derives k s r: the signs s are what the symbols k say, and then r.
pub data Derives : Symbols → List Sign → List Sign → Type 0 where
  finish : {r : List Sign} → Derives end r r
  take : {a : Sign} {k : Symbols} {s r : List Sign} → Derives k s r → Derives (tm a k) (a ∷ s) r
  expand : {x : Nonterminal} {α k : Symbols} {s t r : List Sign} → x ⟶ α → Derives α s t → Derives k t r → Derives (nt x k) s r
  leave : {x : Nonterminal} {k : Symbols} {s r : List Sign} → Derives k s r → Derives (opt x k) s r
  choose : {x : Nonterminal} {α k : Symbols} {s t r : List Sign} → x ⟶ α → Derives α s t → Derives k t r → Derives (opt x k) s r
  stop : {α k : Symbols} {s r : List Sign} → Derives k s r → Derives (many α k) s r
  repeat : {α k : Symbols} {s t r : List Sign} → Derives α s t → Derives (many α k) t r → Derives (many α k) s r

-- the signs s are an acf_file
abbrev pub AcfFile : List Sign → Type 0
AcfFile s = Derives (nt acf_file end) s []
