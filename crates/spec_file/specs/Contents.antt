-- What a file says: its groups with their members, its inputs and its rules, from what each token says in its place.
use Rattle.std.specs.Prelude.{Bool, true, false, cond, not, ◌&&◌, List, [], ◌∷◌, map, ℕ, eqb}
use Rattle.std.proofs.Math.Option.{Option, none, some, get_or}
use Rattle.spec_lists.specs.Text.{bytes, same, among, whole}
use Rattle.spec_lists.specs.Select.{select, run}
use Rattle.spec_token.specs.Word.{unsigned, link_letter}
use Rattle.spec_grammar.specs.declared.Role.{Role}
use Rattle.spec_grammar.specs.declared.Role.TheVariants.{UagName, User, HagName, Host, AsgName, Input, Pvname, RuleWord, Level, Permission, LogOption}
use Rattle.spec_grammar.specs.declared.Role.TheVariants.{UagNamed, HagNamed, Calculation, UnknownPredicate}
use Rattle.spec_grammar.specs.Codes.{same_role}
use Rattle.spec_grammar.specs.Sentence.{Tagged}
use Rattle.spec_rule.specs.declared.Access.{Access}
use Rattle.spec_rule.specs.declared.Access.TheVariants as access

abbrev pub has_role : Role → Tagged → Bool
has_role r x = same_role x.role r

abbrev pub text : Tagged → List ℕ
text x = x.token.text

abbrev pub place : Tagged → ℕ
place x = x.token.place

-- the texts of the tokens of the role r
abbrev pub texts : Role → List Tagged → List (List ℕ)
texts r xs = map text (select (has_role r) xs)

-- up to the next of the role r
abbrev pub until : Role → List Tagged → List Tagged
until r xs = run (λ x. not (has_role r x)) xs

-- a token, and all that follows it up to the next of its role
pub record Clause : Type 0 where
  pub head : Tagged
  pub body : List Tagged

-- Each token of the role r, with what follows it up to the next one of that role. A body runs past its closing brace; that nothing is taken from
-- there is a law: proofs/laws/Items.antt, file_by_items.
abbrev pub clauses : Role → List Tagged → List Clause
clauses r [] = []
clauses r (x ∷ xs) = cond (has_role r x) (record { head = x; body = until r xs } ∷ clauses r xs) (clauses r xs)

-- ---- levels, permissions and log words

-- 01: "An INT counts by value: `+1`, `01` and `-0` are allowed levels, `-1` and `2` are not."
abbrev pub level_of : List ℕ → Option ℕ
level_of s =
    cond (eqb (whole 0 (unsigned s)) 0) (some 0)
    (cond (eqb (whole 0 (unsigned s)) 1 && not (negative s)) (some 1) none)
  where
    negative : List ℕ → Bool
    negative [] = false
    negative (b ∷ t) = among "-" b

-- 01: "Permissions are NONE, READ, WRITE"
abbrev pub permission_of : List ℕ → Option Access
permission_of s =
    cond (same s (bytes "NONE")) (some access.None)
    (cond (same s (bytes "READ")) (some access.Read) (cond (same s (bytes "WRITE")) (some access.Write) none))

-- 01: "log words NOTRAPWRITE (the default), TRAPWRITE": whether writes are trapped
abbrev pub log_of : List ℕ → Option Bool
log_of s = cond (same s (bytes "NOTRAPWRITE")) (some false) (cond (same s (bytes "TRAPWRITE")) (some true) none)

-- ---- what a file says

-- a UAG or HAG: 001, "Definitions"
pub record Group : Type 0 where
  pub name : List ℕ
  pub members : List (List ℕ)

-- INP<index>: the index A to U as 0 to 20
pub record Link : Type 0 where
  pub letter : ℕ
  pub name : List ℕ

-- RULE as the file says it: 001, rule_config
pub record RuleText : Type 0 where
  pub level : ℕ
  pub permission : Access
  pub trap : Bool
  pub uags : List (List ℕ)
  pub hags : List (List ℕ)
  pub calculation : Option (List ℕ)
  -- the places of its unknown predicates
  pub unknown : List ℕ

pub record Asg : Type 0 where
  pub name : List ℕ
  pub inputs : List Link
  pub rules : List RuleText

pub record File : Type 0 where
  pub uags : List Group
  pub hags : List Group
  pub asgs : List Asg

module _ {A : Type 0} where
  -- the first of a list
  abbrev pub head_of : List A → Option A
  head_of [] = none
  head_of (x ∷ xs) = some x

  -- what the first text of a list stands for, or d
  abbrev pub value_of : A → (List ℕ → Option A) → List (List ℕ) → A
  value_of d f [] = d
  value_of d f (t ∷ ts) = get_or (f t) d

-- each group, whose name has the role n, with its members, which have the role m
abbrev pub groups : Role → Role → List Tagged → List Group
groups n m xs = map (λ p. record { name = text p.head; members = texts m p.body }) (clauses n xs)

-- 001: inp_config
abbrev pub links : List Tagged → List Link
links xs = map (λ p. record { letter = link_letter (text p.head); name = get_or (head_of (texts Pvname p.body)) [] }) (clauses Input xs)

-- 001: rule_config
abbrev pub rule_text : List Tagged → RuleText
rule_text xs =
    record {
      level = value_of 0 level_of (texts Level xs);
      permission = value_of access.None permission_of (texts Permission xs);
      trap = value_of false log_of (texts LogOption xs);
      uags = texts UagNamed xs;
      hags = texts HagNamed xs;
      calculation = head_of (texts Calculation xs);
      unknown = map place (select (has_role UnknownPredicate) xs);
    }

-- 001: asg_def
abbrev pub asg : Clause → Asg
asg p =
    record { name = text p.head; inputs = links p.body; rules = map (λ r. rule_text r.body) (clauses RuleWord p.body) }

-- what a file says whose tokens say xs
abbrev pub file_of : List Tagged → File
file_of xs = record { uags = groups UagName User xs; hags = groups HagName Host xs; asgs = map asg (clauses AsgName xs) }
