-- The causes for which a load refuses a file of the grammar: 5 to 7, 12, 8 to 10. 01, "Load refusals, in their order"; 02, ticket 4.
use Rattle.std.specs.Prelude.{◌≡◌, Bool, true, not, cond, ◌&&◌, ◌||◌, List, [], ◌∷◌, ◌++◌, map, ℕ, suc, eqb, leb, ltb, length}
use Rattle.spec_lists.specs.Text.{same}
use Rattle.spec_lists.specs.Select.{holds_of, missing, all, any, select}
use Rattle.spec_token.specs.Word.{link_letter}
use Rattle.spec_grammar.specs.declared.Role.{Role}
use Rattle.spec_grammar.specs.declared.Role.TheVariants.{UagName, HagName, AsgName, Input, RuleWord, Level, Permission, LogOption, UagNamed, HagNamed}
use Rattle.spec_grammar.specs.declared.Role.TheVariants.{CalcWord, Calculation}
use Rattle.spec_grammar.specs.Sentence.{Tagged}
use Rattle.spec_calc.specs.Expression.{Tree, Parses}
use Rattle.spec_calc.specs.Value.{letters}
use Rattle.spec_file.specs.declared.Refusal.{Refusal}
use Rattle.spec_file.specs.declared.Refusal.TheVariants.{FileTooLong, BadByte, TooDeep, Ungrammatical, StringTooLong, TooMany, GivenAgain, BadLevel}
use Rattle.spec_file.specs.declared.Refusal.TheVariants.{UndefinedGroup, UnknownWord, BadCalculation, NoRoom}
use Rattle.spec_file.specs.Limit.{Section, order, most, item_of, longest}
use Rattle.spec_file.specs.Contents.{has_role, text, until, level_of, permission_of, log_of}

-- the numbers of 01 and 02
abbrev pub number : Refusal → ℕ
number FileTooLong = 1
number BadByte = 2
number TooDeep = 3
number Ungrammatical = 4
number StringTooLong = 5
number TooMany = 6
number GivenAgain = 7
number UndefinedGroup = 12
number BadLevel = 8
number UnknownWord = 9
number BadCalculation = 10
number NoRoom = 11

-- the numbers in the order in which they are judged: 01, "Load refusals, in their order"; 02: 12 "after 7 and before 8"
abbrev pub turns : List ℕ
turns = 1 ∷ 2 ∷ 3 ∷ 4 ∷ 5 ∷ 6 ∷ 7 ∷ 12 ∷ 8 ∷ 9 ∷ 10 ∷ 11 ∷ []

-- how many numbers stand before n
abbrev pub before : ℕ → List ℕ → ℕ
before n [] = 0
before n (m ∷ ms) = cond (eqb m n) 0 (suc (before n ms))

-- the place of a refusal in that order
abbrev pub turn : Refusal → ℕ
turn r = before (number r) turns

-- a token, the tokens before it, read backwards from it, and those behind it, read onwards
pub record Context : Type 0 where
  pub backwards : List Tagged
  pub here : Tagged
  pub onwards : List Tagged

abbrev pub contexts_after : List Tagged → List Tagged → List Context
contexts_after b [] = []
contexts_after b (x ∷ xs) = record { backwards = b; here = x; onwards = xs } ∷ contexts_after (x ∷ b) xs

-- every token of a file in its context, in file order
abbrev pub contexts : List Tagged → List Context
contexts = contexts_after []

-- 5: "string too long", "counted without quotes"
abbrev pub too_long : Context → Bool
too_long c = holds_of (longest c.here.role) (λ n. ltb n (length (text c.here)))

-- a token is an item of a section
abbrev pub item : Section → Tagged → Bool
item s x = holds_of (item_of x.role) (λ t. eqb (order t) (order s))

-- 6: "table limit passed", "first item too many"
abbrev pub too_many : Context → Bool
too_many c = holds_of (item_of c.here.role) (λ s. leb (most s) (length (select (item s) c.backwards)))

-- a token of the role q that some of the tokens xs repeat: they have its role and its text
abbrev pub duplicates : Role → List Tagged → Context → Bool
duplicates q xs c = has_role q c.here && any (λ x. has_role x.role c.here && same (text x) (text c.here)) xs

-- 7: "two UAG, two HAG or two ASG of one name (bytes compared)"
abbrev pub name_again : Context → Bool
name_again c = duplicates UagName c.backwards c || (duplicates HagName c.backwards c || duplicates AsgName c.backwards c)

-- 7: "one INP letter twice in an ASG": the INP word has its letter in it
abbrev pub letter_again : Context → Bool
letter_again c = duplicates Input (until AsgName c.backwards) c

-- 7: "a second CALC in a RULE"
abbrev pub calc_again : Context → Bool
calc_again c = duplicates CalcWord (until RuleWord c.backwards) c

-- 7: "name or letter given again"
abbrev pub given_again : Context → Bool
given_again c = name_again c || (letter_again c || calc_again c)

-- a token of the role named whose text no token of the role defining has, before or after
abbrev pub undefined : Role → Role → Context → Bool
undefined named defining c =
    has_role named c.here
    && not (any (λ x. has_role defining x && same (text x) (text c.here)) (c.backwards ++ c.onwards))

-- 12: "A group named in a rule must be defined somewhere in the file": a UAG among the UAGs, a HAG among the HAGs
abbrev pub undefined_group : Context → Bool
undefined_group c = undefined UagNamed UagName c || undefined HagNamed HagName c

-- 8: "level neither 0 nor 1"
abbrev pub bad_level : Context → Bool
bad_level c = has_role Level c.here && missing (level_of (text c.here))

-- 9: "permission or log word unknown"
abbrev pub unknown_word : Context → Bool
unknown_word c =
    has_role Permission c.here && missing (permission_of (text c.here))
    || has_role LogOption c.here && missing (log_of (text c.here))

-- the letters that have an INP in the ASG, before or after
abbrev pub letters_given : Context → List ℕ
letters_given c =
    map (λ x. link_letter (text x)) (select (has_role Input) (until AsgName c.backwards ++ until AsgName c.onwards))

-- 01: "Every letter used must have an INP in the ASG, before or after the rule"
abbrev pub letters_among : List ℕ → Tree → Bool
letters_among given t = all (λ i. any (eqb i) given) (letters t)

-- a calculation that is allowed where it stands
pub record Allowed (c : Context) : Type 0 where
  pub tree : Tree
  pub says : Parses (text c.here) tree
  pub given : letters_among (letters_given c) tree ≡ true

-- the causes of the refusals 5 to 7, 12, 8 to 10 at a token; 10: "calculation not allowed"
pub data Applies (c : Context) : Refusal → Type 0 where
  long : too_long c ≡ true → Applies c StringTooLong
  many : too_many c ≡ true → Applies c TooMany
  again : given_again c ≡ true → Applies c GivenAgain
  nowhere_defined : undefined_group c ≡ true → Applies c UndefinedGroup
  level : bad_level c ≡ true → Applies c BadLevel
  word : unknown_word c ≡ true → Applies c UnknownWord
  calculation : has_role Calculation c.here ≡ true → (Allowed c → ⊥) → Applies c BadCalculation
