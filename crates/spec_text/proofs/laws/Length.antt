-- How long the text of a file can be that keeps the limits.
use Rattle.std.specs.Prelude.{◌≡◌, Bool, true, false, List, [], ◌∷◌, ◌++◌, map, ℕ, ◌+◌, ◌*◌, ◌≤◌, length}
use Rattle.std.proofs.Common.{ap, ◌∙◌, arith, length-append}
use Rattle.std.proofs.Math.Option.{Option}
use Rattle.spec_lists.specs.Text.{bytes}
use Rattle.spec_lists.specs.Select.{joined}
use Rattle.spec_lists.specs.Every.{Every, nil, cons}
use Rattle.spec_lists.proofs.laws.Joined.{each_append}
use Rattle.spec_rule.specs.declared.Access.{Access}
use Rattle.spec_rule.specs.declared.Access.TheVariants as access
use Rattle.spec_file.specs.Contents.{Group, Link, RuleText, Asg, File}
use Rattle.spec_file.specs.Meaning.{switched_off}
use Rattle.spec_text.specs.Lines.{quoted, quoted_list, called, headed, member_line, group_lines, link_word, link_line, level_word, permission_word}
use Rattle.spec_text.specs.Lines.{log_word, rule_head, reference_line, calculation_line, unknown_line, predicate_lines, rule_lines, asg_lines}
use Rattle.spec_text.specs.Lines.{ended, text_of, greatest_text}
use Rattle.spec_text.proofs.laws.Keeps.{CalculationOf, without, with, GroupOf, RuleOf, AsgOf, ShortName, ShortCalculation, named_in, Keeps}

-- ---- words and lines

quoted_length : (s : List ℕ) → length (quoted s) ≡ length s + 2
quoted_length s = omega (arith, length-append s (bytes "\""))

called_length : (word inside : List ℕ) → length (called word inside) ≡ length word + length inside + 2
called_length word inside = omega (arith, length-append word (bytes "(" ++ (inside ++ bytes ")")), length-append inside (bytes ")"))

-- a name with its quotes and a comma
list_length : (s : List ℕ) {ss : List (List ℕ)} → ShortName s → Every ShortName ss → length (quoted_list s ss) + 1 ≤ 63 * length (s ∷ ss)
list_length s {ss} h hs =
    omega (arith, h, quoted_length s, length-append (quoted s) (joined (map (λ t. bytes "," ++ quoted t) ss)), rest hs)
  where
    rest : {ts : List (List ℕ)} → Every ShortName ts → length (joined (map (λ t. bytes "," ++ quoted t) ts)) ≤ 63 * length ts
    rest nil = omega arith
    rest (cons {x = t} {xs = ts} h hs) =
        omega (arith, h, quoted_length t, length-append (quoted t) (joined (map (λ t. bytes "," ++ quoted t) ts)), rest hs)

-- the bytes of some lines
abbrev size : List (List ℕ) → ℕ
size ls = length (ended ls)

size_cons : (l : List ℕ) (ls : List (List ℕ)) → size (l ∷ ls) ≡ length l + 1 + size ls
size_cons l ls = omega (arith, length-append (l ++ bytes "\n") (ended ls), length-append l (bytes "\n"))

size_append : (ks ls : List (List ℕ)) → size (ks ++ ls) ≡ size ks + size ls
size_append ks ls = ap length (each_append (λ l. l ++ bytes "\n") ks ls) ∙ length-append (ended ks) (ended ls)

-- a head, its braces and its body
headed_size : (head : List ℕ) (ls : List (List ℕ)) → size (headed head ls) ≤ length head + 4 + size ls
headed_size head [] = omega (arith, size_cons head [])
headed_size head (l ∷ ls) =
    omega (
      arith,
      size_cons (head ++ bytes "{") ((l ∷ ls) ++ (bytes "}" ∷ [])),
      length-append head (bytes "{"),
      size_append (l ∷ ls) (bytes "}" ∷ []),
      size_cons (bytes "}") [],
    )

member_size : {ms : List (List ℕ)} → Every ShortName ms → size (member_line ms) ≤ 63 * length ms
member_size nil = omega arith
member_size (cons {x = s} {xs = ss} h hs) = omega (arith, list_length s h hs, size_cons (quoted_list s ss) [])

reference_size : (word : List ℕ) → length word ≤ 3 → {ss : List (List ℕ)} → Every ShortName ss → size (reference_line word ss) ≤ 63 * length ss + 5
reference_size word l nil = omega arith
reference_size word l (cons {x = s} {xs = ss} h hs) =
    omega (arith, l, list_length s h hs, called_length word (quoted_list s ss), size_cons (called word (quoted_list s ss)) [])

calculation_size : {o : Option (List ℕ)} → CalculationOf ShortName ShortCalculation o → size (calculation_line o) ≤ 88
calculation_size without = omega arith
calculation_size (with {s = s} h) =
    omega (arith, h.short, quoted_length s, called_length (bytes "CALC") (quoted s), size_cons (called (bytes "CALC") (quoted s)) [])

unknown_size : (b : Bool) → size (unknown_line b) ≤ 10
unknown_size false = omega arith
unknown_size true = omega arith

permission_length : (a : Access) → length (permission_word a) ≤ 5
permission_length access.None = omega arith
permission_length access.Read = omega arith
permission_length access.Write = omega arith

log_length : (b : Bool) → length (log_word b) ≤ 11
log_length false = omega arith
log_length true = omega arith

-- ---- groups, inputs and rules, one and all

module _ (word : List ℕ) (l : length word ≤ 3) where
  group_size : (g : Group) → GroupOf ShortName ShortCalculation g → size (group_lines word g) ≤ 71 + 63 * length g.members
  group_size g h =
      omega (
        arith,
        l,
        h.name,
        quoted_length g.name,
        called_length word (quoted g.name),
        headed_size (called word (quoted g.name)) (member_line g.members),
        member_size h.members,
      )

  groups_size :
      {gs : List Group} → Every (GroupOf ShortName ShortCalculation) gs
      → size (joined (map (group_lines word) gs)) ≤ 71 * length gs + 63 * length (joined (map (λ g. g.members) gs))
  groups_size nil = omega arith
  groups_size (cons {x = g} {xs = gs} h hs) =
      omega (
        arith,
        group_size g h,
        groups_size hs,
        size_append (group_lines word g) (joined (map (group_lines word) gs)),
        length-append g.members (joined (map (λ g. g.members) gs)),
      )

links_size : {is : List Link} → Every (λ (i : Link). ShortName i.name) is → size (map link_line is) ≤ 69 * length is
links_size nil = omega arith
links_size (cons {x = i} {xs = is} h hs) =
    omega (
      arith,
      h,
      quoted_length i.name,
      called_length (link_word i.letter) (quoted i.name),
      size_cons (link_line i) (map link_line is),
      links_size hs,
    )

head_length : (r : RuleText) → length (rule_head r) ≤ 25
head_length r =
    omega (
      arith,
      permission_length r.permission,
      log_length r.trap,
      length-append (permission_word r.permission) (bytes "," ++ log_word r.trap),
      called_length (bytes "RULE") (level_word r.level ++ (bytes "," ++ (permission_word r.permission ++ (bytes "," ++ log_word r.trap)))),
    )

rule_size : (r : RuleText) → RuleOf ShortName ShortCalculation r → size (rule_lines r) ≤ 137 + 63 * length (named_in r)
rule_size r h =
    let us = reference_line (bytes "UAG") r.uags in
    let hs = reference_line (bytes "HAG") r.hags in
    let calculation = calculation_line r.calculation in
    let unknown = unknown_line (switched_off r) in
    omega (
      arith,
      headed_size (rule_head r) (predicate_lines r),
      head_length r,
      size_append us (hs ++ (calculation ++ unknown)),
      size_append hs (calculation ++ unknown),
      size_append calculation unknown,
      reference_size (bytes "UAG") (omega arith) h.uags,
      reference_size (bytes "HAG") (omega arith) h.hags,
      calculation_size h.calculation,
      unknown_size (switched_off r),
      length-append r.uags r.hags,
    )

rules_size :
    {rs : List RuleText} → Every (RuleOf ShortName ShortCalculation) rs
    → size (joined (map rule_lines rs)) ≤ 137 * length rs + 63 * length (joined (map named_in rs))
rules_size nil = omega arith
rules_size (cons {x = r} {xs = rs} h hs) =
    omega (
      arith,
      rule_size r h,
      rules_size hs,
      size_append (rule_lines r) (joined (map rule_lines rs)),
      length-append (named_in r) (joined (map named_in rs)),
    )

asg_size :
    (a : Asg) → AsgOf ShortName ShortCalculation a
    → size (asg_lines a) ≤ 71 + 69 * length a.inputs + 137 * length a.rules + 63 * length (joined (map named_in a.rules))
asg_size a h =
    let head = called (bytes "ASG") (quoted a.name) in
    omega (
      arith,
      h.name,
      quoted_length a.name,
      called_length (bytes "ASG") (quoted a.name),
      headed_size head (map link_line a.inputs ++ joined (map rule_lines a.rules)),
      size_append (map link_line a.inputs) (joined (map rule_lines a.rules)),
      links_size h.inputs,
      rules_size h.rules,
    )

asgs_size :
    {gs : List Asg} → Every (AsgOf ShortName ShortCalculation) gs
    → size (joined (map asg_lines gs))
    ≤ 71 * length gs
    + 69 * length (joined (map (λ a. a.inputs) gs))
    + 137 * length (joined (map (λ a. a.rules) gs))
    + 63 * length (joined (map named_in (joined (map (λ a. a.rules) gs))))
asgs_size nil = omega arith
asgs_size (cons {x = a} {xs = gs} h hs) =
    let rs = joined (map (λ a. a.rules) gs) in
    omega (
      arith,
      asg_size a h,
      asgs_size hs,
      size_append (asg_lines a) (joined (map asg_lines gs)),
      length-append a.inputs (joined (map (λ a. a.inputs) gs)),
      length-append a.rules rs,
      ap length (each_append named_in a.rules rs),
      length-append (joined (map named_in a.rules)) (joined (map named_in rs)),
    )

pub text_bounded : (f : File) → Keeps f → length (text_of f) ≤ greatest_text
unfolding text_of
text_bounded f k =
    let us = joined (map (group_lines (bytes "UAG")) f.uags) in
    let hs = joined (map (group_lines (bytes "HAG")) f.hags) in
    let gs = joined (map asg_lines f.asgs) in
    omega (
      arith,
      size_append us (hs ++ gs),
      size_append hs gs,
      groups_size (bytes "UAG") (omega arith) k.short.uags,
      groups_size (bytes "HAG") (omega arith) k.short.hags,
      asgs_size k.short.asgs,
      k.few.uags,
      k.few.hags,
      k.few.members,
      k.few.asgs,
      k.few.inputs,
      k.few.rules,
      k.few.references,
    )
