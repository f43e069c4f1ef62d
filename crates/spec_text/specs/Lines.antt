-- The text of a file, line by line. 02, ticket 6.
use Rattle.std.specs.Prelude.{Bool, true, false, List, [], ◌∷◌, ◌++◌, map, ℕ, ◌+◌}
use Rattle.std.proofs.Math.Option.{Option, none, some}
use Prim.Native.Char.{code}
use Rattle.spec_lists.specs.Text.{bytes}
use Rattle.spec_lists.specs.Select.{joined}
use Rattle.spec_rule.specs.declared.Access.{Access}
use Rattle.spec_rule.specs.declared.Access.TheVariants as access
use Rattle.spec_file.specs.Contents.{Group, Link, RuleText, Asg, File}
use Rattle.spec_file.specs.Meaning.{switched_off}

-- "every name and calculation quoted"
abbrev pub quoted : List ℕ → List ℕ
quoted s = bytes "\"" ++ (s ++ bytes "\"")

-- a list of names: 001's STRING { "," STRING }
abbrev pub quoted_list : List ℕ → List (List ℕ) → List ℕ
quoted_list s ss = quoted s ++ joined (map (λ t. bytes "," ++ quoted t) ss)

-- a word, and what stands between its parentheses
abbrev pub called : List ℕ → List ℕ → List ℕ
called word inside = word ++ (bytes "(" ++ (inside ++ bytes ")"))

-- a head and the lines of its body. "Empty bodies are left out; an opening brace ends its head's line, a closing one has its own."
abbrev pub headed : List ℕ → List (List ℕ) → List (List ℕ)
headed head [] = head ∷ []
headed head (l ∷ ls) = (head ++ bytes "{") ∷ ((l ∷ ls) ++ (bytes "}" ∷ []))

-- "whole member list [..] a line"
abbrev pub member_line : List (List ℕ) → List (List ℕ)
member_line [] = []
member_line (s ∷ ss) = quoted_list s ss ∷ []

-- a UAG or HAG
abbrev pub group_lines : List ℕ → Group → List (List ℕ)
group_lines word g = headed (called word (quoted g.name)) (member_line g.members)

-- INPA to INPU
abbrev pub link_word : ℕ → List ℕ
link_word letter = bytes "INP" ++ ((code "A" + letter) ∷ [])

-- "input [..] a line"
abbrev pub link_line : Link → List ℕ
link_line i = called (link_word i.letter) (quoted i.name)

-- 0 or 1
abbrev pub level_word : ℕ → List ℕ
level_word n = (code "0" + n) ∷ []

abbrev pub permission_word : Access → List ℕ
permission_word access.None = bytes "NONE"
permission_word access.Read = bytes "READ"
permission_word access.Write = bytes "WRITE"

-- "log words always written"
abbrev pub log_word : Bool → List ℕ
log_word false = bytes "NOTRAPWRITE"
log_word true = bytes "TRAPWRITE"

-- RULE with its level, permission and log word
abbrev pub rule_head : RuleText → List ℕ
rule_head r =
    called
    (bytes "RULE")
    (level_word r.level ++ (bytes "," ++ (permission_word r.permission ++ (bytes "," ++ log_word r.trap))))

-- all the groups of a kind that a rule names, in one predicate: "references by their stored names"
abbrev pub reference_line : List ℕ → List (List ℕ) → List (List ℕ)
reference_line word [] = []
reference_line word (s ∷ ss) = called word (quoted_list s ss) ∷ []

abbrev pub calculation_line : Option (List ℕ) → List (List ℕ)
calculation_line none = []
calculation_line (some s) = called (bytes "CALC") (quoted s) ∷ []

-- "`UNKNOWN()` if switched off"
abbrev pub unknown_line : Bool → List (List ℕ)
unknown_line false = []
unknown_line true = called (bytes "UNKNOWN") [] ∷ []

-- "predicate (one UAG, one HAG, CALC, then `UNKNOWN()` if switched off) a line"
abbrev pub predicate_lines : RuleText → List (List ℕ)
predicate_lines r =
    reference_line (bytes "UAG") r.uags
    ++ (reference_line (bytes "HAG") r.hags ++ (calculation_line r.calculation ++ unknown_line (switched_off r)))

abbrev pub rule_lines : RuleText → List (List ℕ)
rule_lines r = headed (rule_head r) (predicate_lines r)

-- an ASG: its inputs, then its rules
abbrev pub asg_lines : Asg → List (List ℕ)
asg_lines a =
    headed (called (bytes "ASG") (quoted a.name)) (map link_line a.inputs ++ joined (map rule_lines a.rules))

-- "in section order"
abbrev pub file_lines : File → List (List ℕ)
file_lines f =
    joined (map (group_lines (bytes "UAG")) f.uags)
    ++ (joined (map (group_lines (bytes "HAG")) f.hags) ++ joined (map asg_lines f.asgs))

-- "each line ended"
abbrev pub ended : List (List ℕ) → List ℕ
ended ls = joined (map (λ l. l ++ bytes "\n") ls)

-- the text of a file
unfoldable pub text_of : File → List ℕ
text_of f = ended (file_lines f)

-- No text of a table is longer: 192 groups of 71 bytes each, 1,024 members and 1,024 references of 63, 512 inputs of 69 and 256 rules of 137.
abbrev pub greatest_text : ℕ
greatest_text = 213056
