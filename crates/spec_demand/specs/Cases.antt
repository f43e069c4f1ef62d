-- 01, "Proved and run cases": those that are proved, together as a single list; 02's of requests 3 to 6; and 001's example of a role. Each is computed
-- from its text by the definitions.
use Rattle.std.specs.Prelude.{◌≡◌, Bool, true, false, List, [], ◌∷◌, ◌++◌, map, ℕ, ◌+◌, ◌-◌, replicate, set, Float}
use Rattle.std.proofs.Math.Option.{some}
use Prim.Native.String.{String}
use Prim.Native.Char.{code}
use Rattle.std.specs.Float.{nan, binary64}
use Rattle.std.specs.Float.Ieee.{of_bits}
use Rattle.spec_lists.specs.Text.{bytes}
use Rattle.spec_lists.specs.Words.{spelled_out}
use Rattle.spec_token.specs.Word.{greatest_letter}
use Rattle.spec_calc.specs.declared.Reading.{Reading}
use Rattle.spec_calc.specs.declared.Reading.TheVariants.{NeverHeard, Value}
use Rattle.spec_calc.specs.Symbol.{decimal}
use Rattle.spec_calc.specs.Value.{zero_value, one_value, worth}
use Rattle.spec_calc.specs.declared.Worth.{Worth}
use Rattle.spec_calc.specs.declared.Worth.TheVariants.{BadBy, BadByArithmetic, Is}
use Rattle.spec_calc.specs.Reader.{tree_of}
use Rattle.spec_rule.specs.declared.Access.{Access}
use Rattle.spec_rule.specs.declared.Access.TheVariants as access
use Rattle.spec_rule.specs.declared.Stop.TheVariants.{Nothing, Letter}
use Rattle.spec_rule.specs.Decision.{with_trap, with_letter}
use Rattle.spec_rule.specs.Question.{Question, asking, question_of}
use Rattle.spec_rule.specs.Rule.{calculation_holds}
use Rattle.spec_file.specs.declared.Refusal.TheVariants.{GivenAgain, UndefinedGroup}
use Rattle.spec_table.specs.View.{view}
use Rattle.spec_table.specs.Check.{is_table}
use Rattle.spec_load.specs.declared.Loaded.{Loaded}
use Rattle.spec_load.specs.declared.Loaded.TheVariants.{Refused}
use Rattle.spec_load.specs.Load.{load}
use Rattle.spec_decision.specs.declared.Answer.{Answer}
use Rattle.spec_decision.specs.declared.Answer.TheVariants.{Answered, BadLevel, BadRoles}
use Rattle.spec_decision.specs.Decision.{decide}
use Rattle.spec_export.specs.declared.Exported.TheVariants.{Written, NotTable, Unwritable, NoRoom}
use Rattle.spec_export.specs.Unwritable.{text_in}
use Rattle.spec_export.specs.Export.{exported}

-- every letter never heard; A alone heard
abbrev pub silent : List Reading
silent = replicate (greatest_letter + 1) NeverHeard

abbrev pub heard_a : Float → List Reading
heard_a x = Value x ∷ replicate greatest_letter NeverHeard

-- a question of ann at pc1
abbrev pub ann : String → ℕ → List Reading → Question
ann g n rs = question_of (bytes g) (bytes "ann") (bytes "pc1") n rs

-- a buffer that has room for each of these files' tables
abbrev pub buffer : List ℕ
buffer = replicate 256 0

-- what a question is answered after the load of a text
abbrev pub asked : String → Question → Answer
asked s q = decide (load buffer (bytes s)).bytes q

-- whether a calculation is true with no letter heard
abbrev pub true_of : String → Bool
true_of s = calculation_holds silent (some (bytes s))

-- "Two programs": the file of the four questions
abbrev pub site : String
site = "ASG(DEFAULT) {INPA(B1:PGA) RULE(1,READ) RULE(1,WRITE,TRAPWRITE) {CALC(\"A>0.3?0:1\")}}"

-- the list
pub record ProvedCases : Type 0 where
  -- "the four questions above"; 02, ticket 5: "01's three answers gain `-`, `A`, `A`"
  pub question_1 : asked site (ann "" 1 (heard_a (decimal 25 2))) ≡ Answered (with_letter access.Write true Nothing)
  pub question_2 : asked site (ann "" 1 (heard_a nan)) ≡ Answered (with_letter access.Read false (Letter 0))
  pub question_3 : asked site (ann "" 1 silent) ≡ Answered (with_letter access.Read false (Letter 0))
  pub question_4 : asked site (ann "" 2 (heard_a (decimal 25 2))) ≡ BadLevel
  -- "`0.99`, `1.01` and `99/100` false, `1` true"; 02: "the case `0/0>1?0:1`, now false"
  pub under_bound : true_of "0.99" ≡ false
  pub over_bound : true_of "1.01" ≡ false
  pub under_by_division : true_of "99/100" ≡ false
  pub one : true_of "1" ≡ true
  pub not_a_number : true_of "0/0>1?0:1" ≡ false
  -- "level 0 against RULE(1,WRITE) passes, level 1 against RULE(0,WRITE) doesn't"
  pub lower_level : asked "ASG(DEFAULT) {RULE(1,WRITE)}" (ann "" 0 silent) ≡ Answered (with_trap access.Write false)
  pub higher_level : asked "ASG(DEFAULT) {RULE(0,WRITE)}" (ann "" 1 silent) ≡ Answered (with_trap access.None false)
  -- "a group never defined, without DEFAULT, gives NONE"
  pub no_group : asked "ASG(lift) {RULE(1,WRITE)}" (ann "door" 0 silent) ≡ Answered (with_trap access.None false)

-- A and B heard
abbrev pub heard_both : Float → Float → List Reading
heard_both x y = Value x ∷ Value y ∷ replicate (greatest_letter - 1) NeverHeard

abbrev pub true_with : Float → Float → String → Bool
true_with x y s = calculation_holds (heard_both x y) (some (bytes s))

-- 1 followed by 200 zeros
abbrev pub huge : Float
huge = of_bits binary64 0x6974_e718_d7d7_625a

-- "A drift ratio `A/B`", and a rule that writes while it is small
abbrev pub drift : String
drift = "ASG(DEFAULT) {INPA(B1:DX) INPB(B1:DY) RULE(1,READ) RULE(1,WRITE) {CALC(\"!(A/B>0.5)\")}}"

-- 02, ticket 3. By 01 alone those that are false would be true, and zero over zero would write.
pub record ArithmeticCases : Type 0 where
  -- "with both readings zero gave a grant through `!(A/B>0.5)`, though each reading was good"
  pub moving : asked drift (ann "" 1 (heard_both one_value one_value)) ≡ Answered (with_trap access.Read false)
  pub calm : asked drift (ann "" 1 (heard_both zero_value one_value)) ≡ Answered (with_trap access.Write false)
  pub zero_over_zero : asked drift (ann "" 1 (heard_both zero_value zero_value)) ≡ Answered (with_trap access.Read false)
  -- "both sides of `&&` and `||` are evaluated"
  pub right_of_or : true_of "1||0/0" ≡ false
  pub left_of_or : true_of "0/0||1" ≡ false
  pub right_of_and : true_of "!(0&&1/0)" ≡ false
  pub left_of_and : true_of "!(1/0&&0)" ≡ false
  -- "the branch not chosen isn't, so `B=0?0:A/B` stays usable"
  pub second_not_chosen : true_of "1?1:0/0" ≡ true
  pub first_not_chosen : true_of "0?0/0:1" ≡ true
  pub guarded_zero : true_with zero_value zero_value "(B=0?0:A/B)<0.5" ≡ true
  pub guarded_ratio : true_with one_value one_value "B=0?0:A/B" ≡ true
  pub chosen : true_of "(1?1/0:0)>1" ≡ false
  pub condition : true_of "0/0?1:1" ≡ false
  -- "An infinite or not-a-number value": no comparison, division or prefix makes it good again; an overflow is one too
  pub compared : true_of "1/0>1" ≡ false
  pub divided_by : true_of "1/(1/0)=0" ≡ false
  pub negated : true_of "-(1/0)<0" ≡ false
  pub denied : true_of "!(1/0)=0" ≡ false
  pub differing : true_of "0/0#1" ≡ false
  pub overflow : true_with huge huge "A*A>1" ≡ false
  pub no_overflow : true_with huge one_value "A*B>1" ≡ true

-- 001's user group "special", and a rule that names it
abbrev pub special : String
special = "UAG(special) {someone, \"role/op\"} ASG(DEFAULT) {RULE(1,WRITE) {UAG(special)}}"

-- what a user with some roles gets by a file, at a level
abbrev pub with_the_roles : String → String → List (List ℕ) → ℕ → Answer
with_the_roles file user roles level = asked file (asking [] (bytes user) (bytes "pc1") roles level silent)

abbrev pub given : String → String → List String → Answer
given file user roles = with_the_roles file user (map bytes roles) 0

abbrev pub write : Answer
write = Answered (with_trap access.Write false)

abbrev pub none : Answer
none = Answered (with_trap access.None false)

pub record RoleCases : Type 0 where
  -- 001: "The "special" UAG will match CA or PVA clients with the username "someone"."
  pub by_user : given special "someone" [] ≡ write
  -- "It will also match a PVA client if the client provided username is a member of the "op" group"
  pub by_role : given special "ann" ("dev" ∷ "op" ∷ []) ≡ write
  pub other_role : given special "ann" ("dev" ∷ []) ≡ none
  -- 02: "Such a member no longer matches a user name"
  pub no_user_name : given special "role/op" [] ≡ none
  -- "one of whose roles equals the rest of it"
  pub not_the_prefix : given special "ann" ("role/op" ∷ []) ≡ none
  pub no_role_by_name : given special "ann" ("someone" ∷ []) ≡ none
  -- byte for byte: `Role/op` is a user's name
  pub another_prefix : given "UAG(u) {\"Role/op\"} ASG(DEFAULT) {RULE(1,WRITE) {UAG(u)}}" "Role/op" [] ≡ write
  -- an empty role
  pub empty_role : given "UAG(u) {\"role/\"} ASG(DEFAULT) {RULE(1,WRITE) {UAG(u)}}" "ann" ("" ∷ []) ≡ write
  -- host groups have no roles
  pub no_host_role : given "HAG(h) {\"role/op\"} ASG(DEFAULT) {RULE(1,WRITE) {HAG(h)}}" "ann" ("op" ∷ []) ≡ none
  -- "up to 16 roles, each at most 60 bytes"; "Refusals: 26 more than 16 roles or one too long, after 21."
  pub sixteen : with_the_roles special "someone" (replicate 16 (replicate 60 0)) 0 ≡ write
  pub seventeen : with_the_roles special "someone" (replicate 17 []) 0 ≡ BadRoles
  pub too_long : with_the_roles special "someone" (replicate 61 0 ∷ []) 0 ≡ BadRoles
  pub level_first : with_the_roles special "someone" (replicate 17 []) 2 ≡ BadLevel

-- what a load of a text answers
abbrev pub loaded : String → Loaded
loaded s = (load buffer (bytes s)).answer

-- the group's name as it is defined
abbrev pub spelt : String
spelt = "UAG(lift) {ann} ASG(DEFAULT) {RULE(1,WRITE) {UAG(lift)}}"

-- the table of that file, with the number of its reference, the two bytes at 74, made 65,535
abbrev pub without_group : List ℕ
without_group = set (set (load buffer (bytes spelt)).bytes 74 255) 75 255

-- 02, ticket 4
pub record GroupCases : Type 0 where
  -- "A site wrote `Lift` for `lift`"
  pub misspelt : loaded "UAG(lift) {ann} ASG(DEFAULT) {RULE(1,WRITE) {UAG(Lift)}}" ≡ Refused UndefinedGroup 49
  pub as_defined : asked spelt (ann "" 0 silent) ≡ write
  -- "somewhere in the file"
  pub defined_behind : asked "ASG(DEFAULT) {RULE(1,WRITE) {UAG(lift)}} UAG(lift) {ann}" (ann "" 0 silent) ≡ write
  pub uag_by_hag : loaded "HAG(lift) {pc1} ASG(DEFAULT) {RULE(1,WRITE) {UAG(lift)}}" ≡ Refused UndefinedGroup 49
  pub hag_by_uag : loaded "UAG(lift) {ann} ASG(DEFAULT) {RULE(1,WRITE) {HAG(lift)}}" ≡ Refused UndefinedGroup 49
  -- "named in a rule": in one that is switched off too, not in an unknown element
  pub switched_off : loaded "ASG(DEFAULT) {RULE(1,WRITE) {METHOD() UAG(lift)}}" ≡ Refused UndefinedGroup 42
  pub in_unknown : asked "ASG(DEFAULT) {RULE(1,READ) RULE(1,WRITE) {METHOD() {UAG(lift)}}}" (ann "" 0 silent) ≡ Answered (with_trap access.Read false)
  pub by_unknown : loaded "FOO() {UAG(lift)} ASG(DEFAULT) {RULE(1,WRITE) {UAG(lift)}}" ≡ Refused UndefinedGroup 51
  -- "at its first name in a rule, after 7 and before 8"
  pub second_rule : loaded "ASG(DEFAULT) {RULE(1,READ) RULE(1,WRITE) {HAG(desk) UAG(lift)}}" ≡ Refused UndefinedGroup 46
  pub after_seven : loaded "UAG(lift) {ann} UAG(lift) {bob} ASG(DEFAULT) {RULE(1,WRITE) {UAG(Lift)}}" ≡ Refused GivenAgain 20
  pub before_eight : loaded "ASG(DEFAULT) {RULE(2,WRITE) {UAG(lift)}}" ≡ Refused UndefinedGroup 33
  -- "01's whole checker output becomes a refusal"
  pub whole_output : loaded "UAG(a) {x}\nFOO(1)\nASG(DEFAULT) {RULE(1,WRITE) {UAG(b) BAR()}}\n" ≡ Refused UndefinedGroup 51
  -- "A table with number 65,535 is still a table.", and its reference has no members
  pub still_table : is_table without_group ≡ true
  pub no_members : decide without_group (ann "" 0 silent) ≡ none

-- what a calculation answers, with only the letters D and F heard, both 1
abbrev pub four_and_six : List Reading
four_and_six = set (set silent 3 (Value one_value)) 5 (Value one_value)

abbrev pub answers : String → Worth
answers s = worth four_and_six (tree_of (bytes s))

-- what a question of ann without readings is answered by the rules of DEFAULT, which has the inputs A to C
abbrev pub stopped_in : String → Answer
stopped_in rules =
    decide (load buffer (bytes "UAG(u) {bob} HAG(h) {pc2} ASG(DEFAULT) {INPA(a) INPB(b) INPC(c) " ++ (bytes rules ++ bytes "}"))).bytes (ann "" 1 silent)

abbrev pub nobody_stops : Access → Answer
nobody_stops a = Answered (with_letter a false Nothing)

abbrev pub stops_at : Access → ℕ → Answer
stops_at a i = Answered (with_letter a false (Letter i))

-- 02, ticket 5
pub record LetterCases : Type 0 where
  -- "the lowest letter in its text whose reading is bad": not the first, not one whose reading is good, in either branch, in either case of the letter
  pub not_the_first : answers "D+C+B" ≡ BadBy 1
  pub not_a_good_one : answers "D+f+G" ≡ BadBy 6
  pub branch_not_chosen : answers "1?D:A" ≡ BadBy 0
  pub small_letter : answers "e" ≡ BadBy 4
  -- "or, with none such, bad by arithmetic"
  pub by_arithmetic : answers "D/0" ≡ BadByArithmetic
  pub letter_before_arithmetic : answers "D/0+U" ≡ BadBy 20
  pub a_value : answers "D" ≡ Is one_value
  -- "the first rule of the group": not the last, nor that of the lowest letter
  pub first_rule : stopped_in "RULE(1,WRITE) {CALC(\"C\")} RULE(1,WRITE) {CALC(\"A\")}" ≡ stops_at access.None 2
  pub lower_permission_first : stopped_in "RULE(1,READ) {CALC(\"B\")} RULE(1,WRITE) {CALC(\"A\")}" ≡ stops_at access.None 1
  -- "whose permission is above the access answered"
  pub passed_by : stopped_in "RULE(1,READ) {CALC(\"B\")} RULE(1,WRITE) {CALC(\"A\")} RULE(1,READ)" ≡ stops_at access.Read 0
  pub no_higher : stopped_in "RULE(1,READ) {CALC(\"A\")} RULE(1,READ)" ≡ nobody_stops access.Read
  pub write_anyway : stopped_in "RULE(1,WRITE) {CALC(\"A\")} RULE(1,WRITE)" ≡ nobody_stops access.Write
  pub gives_none : stopped_in "RULE(1,NONE) {CALC(\"A\")}" ≡ nobody_stops access.None
  -- "and which fails by nothing else"
  pub by_user_too : stopped_in "RULE(1,WRITE) {UAG(u) CALC(\"A\")}" ≡ nobody_stops access.None
  pub by_host_too : stopped_in "RULE(1,WRITE) {HAG(h) CALC(\"A\")}" ≡ nobody_stops access.None
  pub by_level_too : stopped_in "RULE(0,WRITE) {CALC(\"A\")}" ≡ nobody_stops access.None
  pub switched_off_too : stopped_in "RULE(1,WRITE) {METHOD() CALC(\"A\")}" ≡ nobody_stops access.None
  pub by_arithmetic_only : stopped_in "RULE(1,WRITE) {CALC(\"0/0\")}" ≡ nobody_stops access.None

-- the text of the table that the load of a text leaves
abbrev pub text_back : String → List ℕ
text_back s = text_in (view (load buffer (bytes s)).bytes)

-- a table of words and strings
abbrev pub laid : List ℕ → List ℕ → List ℕ
laid ws s = spelled_out ws ++ s

-- the tables of `ASG(x)` with another byte for the name; of a user group with the member `x","y`; of two access groups `x`; of a rule that reads for a
-- user group, its number and the string of its name given, beside the user group `a`; of an input B and a calculation A
abbrev pub named_with : ℕ → List ℕ
named_with b = laid (1 ∷ 49 ∷ 0 ∷ 36 ∷ 0 ∷ 36 ∷ 0 ∷ 36 ∷ 1 ∷ 36 ∷ 0 ∷ 48 ∷ 0 ∷ 48 ∷ 0 ∷ 48 ∷ 1 ∷ 48 ∷ 0 ∷ 1 ∷ 0 ∷ 0 ∷ 0 ∷ 0 ∷ []) (b ∷ [])

abbrev pub member_of_two : List ℕ
member_of_two = laid (1 ∷ 54 ∷ 1 ∷ 36 ∷ 0 ∷ 44 ∷ 1 ∷ 44 ∷ 0 ∷ 48 ∷ 0 ∷ 48 ∷ 0 ∷ 48 ∷ 0 ∷ 48 ∷ 6 ∷ 48 ∷ 0 ∷ 1 ∷ 0 ∷ 1 ∷ 1 ∷ 5 ∷ []) (bytes "ax\",\"y")

abbrev pub twice : List ℕ
twice = laid (1 ∷ 62 ∷ 0 ∷ 36 ∷ 0 ∷ 36 ∷ 0 ∷ 36 ∷ 2 ∷ 36 ∷ 0 ∷ 60 ∷ 0 ∷ 60 ∷ 0 ∷ 60 ∷ 2 ∷ 60 ∷ 0 ∷ 1 ∷ 0 ∷ 0 ∷ 0 ∷ 0 ∷ 1 ∷ 1 ∷ 0 ∷ 0 ∷ 0 ∷ 0 ∷ []) (bytes "xx")

abbrev pub referring : ℕ → String → List ℕ
referring n s = laid (1 ∷ 79 ∷ 1 ∷ 36 ∷ 0 ∷ 44 ∷ 0 ∷ 44 ∷ 1 ∷ 44 ∷ 0 ∷ 56 ∷ 1 ∷ 56 ∷ 1 ∷ 70 ∷ 3 ∷ 76 ∷ 0 ∷ 1 ∷ 0 ∷ 0 ∷ 1 ∷ 1 ∷ 0 ∷ 0 ∷ 0 ∷ 1 ∷ 3 ∷ 0 ∷ 1 ∷ 1 ∷ 0 ∷ 0 ∷ 0 ∷ n ∷ 2 ∷ 1 ∷ []) (bytes "ax" ++ bytes s)

abbrev pub input_lost : List ℕ
input_lost = laid (1 ∷ 71 ∷ 0 ∷ 36 ∷ 0 ∷ 36 ∷ 0 ∷ 36 ∷ 1 ∷ 36 ∷ 1 ∷ 48 ∷ 1 ∷ 54 ∷ 0 ∷ 68 ∷ 3 ∷ 68 ∷ 0 ∷ 1 ∷ 0 ∷ 1 ∷ 0 ∷ 1 ∷ 1 ∷ 1 ∷ 1 ∷ 3 ∷ 0 ∷ 0 ∷ 0 ∷ 0 ∷ 2 ∷ 1 ∷ []) (bytes "xpA")

-- 02, ticket 6
pub record TextCases : Type 0 where
  -- "every name [..] quoted", "whole member list [..] a line", hosts as they are stored
  pub members : text_back "UAG(a) {x, \"y z\"}" ≡ bytes "UAG(\"a\"){\n\"x\",\"y z\"\n}\n"
  pub hosts : text_back "HAG(h) {PC1}" ≡ bytes "HAG(\"h\"){\n\"pc1\"\n}\n"
  -- "A backslash and any byte after it stay as they are, both": 01
  pub escaped : text_back "ASG(\"a\\\"b\")" ≡ bytes "ASG(\"a\\\"b\")\n"
  -- "in section order", "Empty bodies are left out"
  pub order : text_back "ASG(x) HAG(h) UAG(a)" ≡ bytes "UAG(\"a\")\nHAG(\"h\")\nASG(\"x\")\n"
  -- inputs, then rules; "`UNKNOWN()` if switched off", "log words always written"
  pub unknown :
      text_back "ASG(x) {RULE(1,READ) {METHOD(\"x509\")} INPB(p)}"
      ≡ bytes "ASG(\"x\"){\nINPB(\"p\")\nRULE(1,READ,NOTRAPWRITE){\nUNKNOWN()\n}\n}\n"
  -- "one UAG, one HAG, CALC"
  pub predicates :
      text_back "UAG(a) UAG(b) HAG(h) ASG(x) {INPA(p) RULE(0,WRITE,TRAPWRITE) {CALC(\"A=1\") HAG(h) UAG(b) UAG(a)}}"
      ≡ bytes "UAG(\"a\")\nUAG(\"b\")\nHAG(\"h\")\nASG(\"x\"){\nINPA(\"p\")\nRULE(0,WRITE,TRAPWRITE){\nUAG(\"b\",\"a\")\nHAG(\"h\")\nCALC(\"A=1\")\n}\n}\n"
  -- "Refusals: 20; then 27 [..]; then 28": no table; no definition; a string with a bare quote, a bare newline, a backslash without its byte, and one whose
  -- text would load as two members; a name again, a group that is not defined, a letter without input; lent nothing, or too little
  pub no_table : exported 256 [] ≡ NotTable
  pub no_definition : exported 256 (load buffer (bytes "FOO()")).bytes ≡ Unwritable
  pub bare_quote : exported 256 (named_with (code "\"")) ≡ Unwritable
  pub bare_newline : exported 256 (named_with (code "\n")) ≡ Unwritable
  pub odd_backslash : exported 0 (named_with (code "\\")) ≡ Unwritable
  pub two_members : exported 256 member_of_two ≡ Unwritable
  pub name_again : exported 256 twice ≡ Unwritable
  pub not_defined : exported 256 (referring 0 "b") ≡ Unwritable
  pub no_input : exported 256 input_lost ≡ Unwritable
  pub too_little : exported 8 (named_with (code "x")) ≡ NoRoom 9
  -- any other byte can be quoted; "references by their stored names", whatever number stands beside them
  pub control_byte : exported 256 (named_with 1) ≡ Written 9
  pub by_number : exported 256 (referring 0 "a") ≡ Written 58
  pub without_number : exported 256 (referring 65535 "a") ≡ Written 58
