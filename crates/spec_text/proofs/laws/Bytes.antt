-- The pieces of a file have the bytes of its text.
use Rattle.std.specs.Prelude.{◌≡◌, refl, Bool, true, false, List, [], ◌∷◌, ◌++◌, map, ℕ}
use Rattle.std.proofs.Common.{sym, ap, ap₂, ◌∙◌, append-nil}
use Rattle.std.proofs.Math.Option.{Option, none, some}
use Rattle.spec_lists.specs.Text.{bytes}
use Rattle.spec_lists.specs.Select.{joined}
use Rattle.spec_lists.proofs.laws.Alike.{map_same}
use Rattle.spec_lists.proofs.laws.Joined.{each_append, map_append, map_joined, map_map}
use Rattle.spec_lists.proofs.laws.Range.{inside}
use Rattle.spec_token.specs.declared.Kind.{Kind}
use Rattle.spec_token.specs.declared.Kind.TheVariants as kind
use Rattle.spec_grammar.specs.declared.Role.{Role}
use Rattle.spec_grammar.specs.declared.Role.TheVariants.{NoRole, UagName, User, HagName, Host, AsgName, Input, Pvname, RuleWord, Level, Permission}
use Rattle.spec_grammar.specs.declared.Role.TheVariants.{LogOption, CalcWord, Calculation}
use Rattle.spec_file.specs.Contents.{Group, Link, RuleText, Asg, File}
use Rattle.spec_text.specs.Lines.{quoted, quoted_list, called, headed, member_line, group_lines, link_word, link_line, level_word}
use Rattle.spec_text.specs.Lines.{permission_word, log_word, rule_head, reference_line, calculation_line, unknown_line, predicate_lines}
use Rattle.spec_text.specs.Lines.{rule_lines, asg_lines, file_lines, ended, text_of}
use Rattle.spec_text.proofs.laws.Pieces.{Piece, word, string, line_end, piece_bytes, spelled_by, rp, lb, rb, cm, list_pieces, called_pieces}
use Rattle.spec_text.proofs.laws.Pieces.{headed_pieces, member_pieces, group_pieces, uag_pieces, hag_pieces, link_pieces, head_pieces}
use Rattle.spec_text.proofs.laws.Pieces.{reference_pieces, calculation_pieces, unknown_pieces, predicate_pieces, rule_pieces, asg_pieces}
use Rattle.spec_text.proofs.laws.Pieces.{line_pieces, ended_pieces, file_pieces}

pub spelled_append : (xs ys : List Piece) → spelled_by (xs ++ ys) ≡ spelled_by xs ++ spelled_by ys
spelled_append = each_append piece_bytes

list_bytes : (r : Role) (s : List ℕ) (ss : List (List ℕ)) → spelled_by (list_pieces r s ss) ≡ quoted_list s ss
list_bytes r s ss = ap (λ (l : List ℕ). quoted s ++ l) (go ss)
  where
    go : (ts : List (List ℕ)) → spelled_by (joined (map (λ t. cm ∷ string r t ∷ []) ts)) ≡ joined (map (λ t. bytes "," ++ quoted t) ts)
    go [] = refl
    go (t ∷ ts) = ap (λ (l : List ℕ). bytes "," ++ (quoted t ++ l)) (go ts)

called_bytes : (w : Piece) (inside : List Piece) {s : List ℕ} → spelled_by inside ≡ s → spelled_by (called_pieces w inside) ≡ called (piece_bytes w) s
called_bytes w inside e =
    ap (λ (l : List ℕ). piece_bytes w ++ (bytes "(" ++ l)) (spelled_append inside (rp ∷ []) ∙ ap (λ (l : List ℕ). l ++ bytes ")") e)

-- a word and one string
string_called_bytes : (w : Piece) (r : Role) (s : List ℕ) → spelled_by (called_pieces w (string r s ∷ [])) ≡ called (piece_bytes w) (quoted s)
string_called_bytes w r s = called_bytes w (string r s ∷ []) (append-nil (quoted s))

-- the bytes of each line
abbrev lines_by : List (List Piece) → List (List ℕ)
lines_by = map spelled_by

headed_bytes :
    (head : List Piece) (ls : List (List Piece)) {h : List ℕ} {ss : List (List ℕ)} → spelled_by head ≡ h → lines_by ls ≡ ss
    → lines_by (headed_pieces head ls) ≡ headed h ss
headed_bytes head ls e d = go ls ∙ ap₂ headed e d
  where
    go : (ls : List (List Piece)) → lines_by (headed_pieces head ls) ≡ headed (spelled_by head) (lines_by ls)
    go [] = refl
    go (l ∷ ls) =
        ap₂ (λ (x : List ℕ) (xs : List (List ℕ)). x ∷ xs) (spelled_append head (lb ∷ [])) (map_append spelled_by (l ∷ ls) ((rb ∷ []) ∷ []))

-- the lines of each of a list
each_bytes :
    {A : Type 0} (f : A → List (List Piece)) (g : A → List (List ℕ)) → ((x : A) → lines_by (f x) ≡ g x) → (xs : List A)
    → lines_by (joined (map f xs)) ≡ joined (map g xs)
each_bytes f g e xs = map_joined spelled_by (map f xs) ∙ ap joined (map_map lines_by f xs ∙ map_same e xs)

member_bytes : (r : Role) (ss : List (List ℕ)) → lines_by (member_pieces r ss) ≡ member_line ss
member_bytes r [] = refl
member_bytes r (s ∷ ss) = ap (λ (l : List ℕ). l ∷ []) (list_bytes r s ss)

group_bytes : (k : Kind) (n m : Role) (w : List ℕ) (g : Group) → lines_by (group_pieces k n m w g) ≡ group_lines w g
group_bytes k n m w g = headed_bytes _ (member_pieces m g.members) (string_called_bytes (word k NoRole w) n g.name) (member_bytes m g.members)

link_bytes : (is : List Link) → lines_by (map link_pieces is) ≡ map link_line is
link_bytes is =
    map_map spelled_by link_pieces is ∙ map_same (λ i. string_called_bytes (word kind.Inp Input (link_word i.letter)) Pvname i.name) is

head_bytes : (r : RuleText) → spelled_by (head_pieces r) ≡ rule_head r
head_bytes r =
    called_bytes
    (word kind.Rule RuleWord (bytes "RULE"))
    (word kind.Int Level (level_word r.level)
    ∷ cm
    ∷ word kind.String Permission (permission_word r.permission)
    ∷ cm
    ∷ word kind.String LogOption (log_word r.trap)
    ∷ [])
    (ap
    (λ (l : List ℕ). level_word r.level ++ (bytes "," ++ (permission_word r.permission ++ (bytes "," ++ l))))
    (append-nil (log_word r.trap)))

reference_bytes : (w : Piece) (r : Role) (ss : List (List ℕ)) → lines_by (reference_pieces w r ss) ≡ reference_line (piece_bytes w) ss
reference_bytes w r [] = refl
reference_bytes w r (s ∷ ss) = ap (λ (l : List ℕ). l ∷ []) (called_bytes w (list_pieces r s ss) (list_bytes r s ss))

calculation_bytes : (c : Option (List ℕ)) → lines_by (calculation_pieces c) ≡ calculation_line c
calculation_bytes none = refl
calculation_bytes (some s) = ap (λ (l : List ℕ). l ∷ []) (string_called_bytes (word kind.Calc CalcWord (bytes "CALC")) Calculation s)

unknown_bytes : (b : Bool) → lines_by (unknown_pieces b) ≡ unknown_line b
unknown_bytes false = refl
unknown_bytes true = refl

predicate_bytes : (r : RuleText) → lines_by (predicate_pieces r) ≡ predicate_lines r
predicate_bytes r = rw (map_append, reference_bytes, map_append, reference_bytes, map_append, calculation_bytes, unknown_bytes)

rule_bytes : (r : RuleText) → lines_by (rule_pieces r) ≡ rule_lines r
rule_bytes r = headed_bytes (head_pieces r) (predicate_pieces r) (head_bytes r) (predicate_bytes r)

body_bytes :
    (a : Asg)
    → lines_by (map link_pieces a.inputs ++ joined (map rule_pieces a.rules)) ≡ map link_line a.inputs ++ joined (map rule_lines a.rules)
body_bytes a = rw (map_append, link_bytes, each_bytes rule_pieces rule_lines rule_bytes a.rules)

asg_bytes : (a : Asg) → lines_by (asg_pieces a) ≡ asg_lines a
asg_bytes a =
    headed_bytes _
    (map link_pieces a.inputs ++ joined (map rule_pieces a.rules))
    (string_called_bytes (word kind.Asg NoRole (bytes "ASG")) AsgName a.name)
    (body_bytes a)

line_bytes : (f : File) → lines_by (line_pieces f) ≡ file_lines f
line_bytes f =
    rw (
      map_append,
      each_bytes uag_pieces (group_lines (bytes "UAG")) (group_bytes kind.Uag UagName User (bytes "UAG")) f.uags,
      map_append,
      each_bytes hag_pieces (group_lines (bytes "HAG")) (group_bytes kind.Hag HagName Host (bytes "HAG")) f.hags,
      each_bytes asg_pieces asg_lines asg_bytes f.asgs,
    )

ended_bytes : (ls : List (List Piece)) → spelled_by (ended_pieces ls) ≡ ended (lines_by ls)
ended_bytes [] = refl
ended_bytes (l ∷ ls) =
    spelled_append (l ++ (line_end ∷ [])) (ended_pieces ls)
    ∙ ap₂ (λ (a b : List ℕ). a ++ b) (spelled_append l (line_end ∷ [])) (ended_bytes ls)

-- the text of a file is that of its pieces
pub text_by_pieces : (f : File) → text_of f ≡ spelled_by (file_pieces f)
unfolding text_of
text_by_pieces f = sym (ended_bytes (line_pieces f) ∙ ap ended (line_bytes f))
