-- The access privilege of a client, as relations: 001, "is determined as follows", steps 1 to 3; 02, tickets 2, 3 and 5. No function that decides stands here.
use Rattle.std.specs.Prelude.{◌≡◌, true, false, List, [], ◌∷◌, ◌++◌, ◌↔◌, ◌⊎◌, ℕ, ◌≤◌, ◌<◌}
use Rattle.std.proofs.Math.Option.{Option, none, some}
use Rattle.std.specs.Float.Ieee.{lt}
use Rattle.spec_lists.specs.Text.{lowered}
use Rattle.spec_lists.specs.Every.{Every}
use Rattle.spec_calc.specs.declared.Reading.{Reading}
use Rattle.spec_calc.specs.Expression.{Tree, Parses}
use Rattle.spec_calc.specs.Answer.{InputsGood, IsBadBy}
use Rattle.spec_calc.specs.Value.{value, FiniteParts, lower_bound, upper_bound}
use Rattle.spec_rule.specs.declared.Access.{Access}
use Rattle.spec_rule.specs.declared.Access.TheVariants as access
use Rattle.spec_rule.specs.declared.Stop.TheVariants.{Letter}
use Rattle.spec_rule.specs.declared.Decision.{Decision}
use Rattle.spec_rule.specs.Roles.{role_prefix}
use Rattle.spec_rule.specs.Question.{Question}
use Rattle.spec_rule.specs.Rule.{Rule, rank, without_calculation}
use Rattle.spec_rule.specs.Decision.{no_access}
use Rattle.spec_rule.specs.Answering.{default_name}

module _ {A : Type 0} where
  -- some element of a list has P
  pub data Some (P : A → Type 0) : List A → Type 0 where
    here : {x : A} {xs : List A} → P x → Some P (x ∷ xs)
    further : {x : A} {xs : List A} → Some P xs → Some P (x ∷ xs)

  -- x is the first of a list that has P
  pub record FirstSuch (P : A → Type 0) (xs : List A) (x : A) : Type 0 where
    pub earlier : List A
    pub later : List A
    pub among : xs ≡ earlier ++ (x ∷ later)
    pub before : Every (λ y. P y → ⊥) earlier
    pub such : P x

-- ---- "1. The ASG associated with the record is searched."

module _ {G : Type 0} (name : G → List ℕ) where
  abbrev pub NoneNamed : List ℕ → List G → Type 0
  NoneNamed n gs = Every (λ g. name g ≡ n → ⊥) gs

  -- 01: "An empty name goes to DEFAULT, any other to the first group of that name, or to DEFAULT if there is none"
  pub data Answers (n : List ℕ) (gs : List G) : Option G → Type 0 where
    by_name : {g : G} → (n ≡ [] → ⊥) → FirstSuch (λ h. name h ≡ n) gs g → Answers n gs (some g)
    by_default : {g : G} → (n ≡ []) ⊎ NoneNamed n gs → FirstSuch (λ h. name h ≡ default_name) gs g → Answers n gs (some g)
    by_none : (n ≡ []) ⊎ NoneNamed n gs → NoneNamed default_name gs → Answers n gs none

-- ---- "2. Each RULE is checked for the following:"

-- no group is named, or a member of one of them matches
abbrev pub Belongs : (List ℕ → Type 0) → List (List (List ℕ)) → Type 0
Belongs Matches groups = (groups ≡ []) ⊎ Some (Some Matches) groups

-- which members of a user group match a client. 001: "In additional to client usernames, UAG definitions may contained items beginning with "role/" which
-- are matched against the list of groups of which the client username is a member." 02: "a UAG member beginning `role/` matches a client one of whose roles
-- equals the rest of it. [..] Such a member no longer matches a user name"
pub data MatchesClient (user : List ℕ) (roles : List (List ℕ)) (member : List ℕ) : Type 0 where
  by_user : ((rest : List ℕ) → member ≡ role_prefix ++ rest → ⊥) → member ≡ user → MatchesClient user roles member
  by_role : Some (λ role. member ≡ role_prefix ++ role) roles → MatchesClient user roles member

-- "If any of the INP fields associated with this calculation are in INVALID alarm severity the calculation is considered false. The actual test for
-- TRUE is .99 <result <1.01." 02: "An infinite or not-a-number value of any evaluated part makes the whole calculation false"
pub record YieldsTrue (rs : List Reading) (s : List ℕ) : Type 0 where
  pub tree : Tree
  pub says : Parses s tree
  pub inputs : InputsGood rs tree
  pub parts : FiniteParts rs tree
  pub above : lt lower_bound (value rs tree) ≡ true
  pub below : lt (value rs tree) upper_bound ≡ true

-- the readings make the calculation of the rule true, if it has one
abbrev pub MakesTrue : List Reading → Rule → Type 0
MakesTrue rs r = (s : List ℕ) → r.calculation ≡ some s → YieldsTrue rs s

-- what the rule r asks of the question q
pub record Asks (q : Question) (r : Rule) : Type 0 where
  -- "The field's level must be less than or equal to the level for this RULE."
  pub level : q.level ≤ r.level
  -- "If UAG is defined, the user must belong to one of the specified UAGs. If UAG is not defined all users are accepted."
  pub user : Belongs (MatchesClient q.user q.roles) r.uags
  -- "If HAG is defined, the user's host must belong to one one of the HAGs. If HAG is not defined all hosts are accepted."
  -- 01: "its ASCII letters lowered first, stored bytes as they are"
  pub host : Belongs (λ member. member ≡ lowered q.host) r.hags
  -- "If CALC is specified, the calculation must yield the value 1, i.e. TRUE."
  pub calculation : MakesTrue q.readings r

-- the rule r passes for the question q
pub record Passes (q : Question) (r : Rule) : Type 0 where
  pub asked : Asks q r
  -- "If the rule contains predicates that are unknown to the parser [..], then the rule will NOT match"
  pub known : r.switched_off ≡ false

-- r passes, and its permission is a
abbrev pub Gives : Question → Access → Rule → Type 0
Gives q a r = Passes q r × (r.permission ≡ a)

-- ---- "3. The maximum access allowed by step 2 is the access chosen."

-- a is the greatest access that is given, NONE if neither WRITE nor READ is
pub record Greatest (Given : Access → Type 0) (a : Access) : Type 0 where
  pub write : (a ≡ access.Write) ↔ Given access.Write
  pub read : (a ≡ access.Read) ↔ ((Given access.Write → ⊥) × Given access.Read)
  pub neither : (a ≡ access.None) ↔ ((Given access.Write → ⊥) × (Given access.Read → ⊥))

-- 02: a rule "whose calculation is bad by a letter", i, "and which fails by nothing else": it passes if its calculation is left out
pub record StoppedBy (q : Question) (r : Rule) (i : ℕ) : Type 0 where
  pub calculation : List ℕ
  pub has : r.calculation ≡ some calculation
  pub bad : IsBadBy q.readings calculation i
  pub otherwise : Passes q (without_calculation r)

-- such a rule "whose permission is above the access answered"
abbrev pub StoppedAbove : Question → Access → Rule → Type 0
StoppedAbove q a r = (rank a < rank r.permission) × ((i : ℕ) × StoppedBy q r i)

pub record Chosen (q : Question) (rs : List Rule) (d : Decision) : Type 0 where
  pub maximum : Greatest (λ a. Some (Gives q a) rs) d.access
  -- "The TRAPWRITE setting used for a client is determined by the first WRITE rule that passes the rule checks."
  pub trap : (d.trap ≡ true) ↔ ((r : Rule) × FirstSuch (Gives q access.Write) rs r × (r.trap ≡ true))
  -- 02: "The decision passes on the letter, or that there is none [..], of the first rule of the group whose permission is above the access answered, whose
  -- calculation is bad by a letter and which fails by nothing else."
  pub letter : (i : ℕ) → (d.letter ≡ Letter i) ↔ ((r : Rule) × FirstSuch (StoppedAbove q d.access) rs r × StoppedBy q r i)

-- steps 1 to 3: the groups gs, with their names and rules, give the question q the decision d
pub data Determined {G : Type 0} (name : G → List ℕ) (rules : G → List Rule) (gs : List G) (q : Question) : Decision → Type 0 where
  by_group : {g : G} {d : Decision} → Answers name q.group gs (some g) → Chosen q (rules g) d → Determined name rules gs q d
  -- 01: "without DEFAULT the answer is NONE, no trap"; and no letter
  by_no_group : Answers name q.group gs none → Determined name rules gs q no_access
