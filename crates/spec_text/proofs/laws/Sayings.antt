-- What the tokens of a file's text say, without those that say nothing: of each its role and its text. The causes look at nothing else.
use Rattle.std.specs.Prelude.{◌≡◌, refl, Bool, true, false, not, List, [], ◌∷◌, ◌++◌, map, ℕ, ◌+◌, length}
use Rattle.std.proofs.Common.{ap, ap₂, ◌∙◌, append-nil}
use Rattle.std.proofs.Math.Option.{Option, none, some}
use Rattle.std.proofs.lemmas.Bool.{not-false}
use Rattle.spec_lists.specs.Text.{bytes}
use Rattle.spec_lists.specs.Select.{joined, prepend_if}
use Rattle.spec_lists.proofs.laws.Alike.{map_same}
use Rattle.spec_lists.proofs.laws.Joined.{each_append, joined_each, map_map}
use Rattle.spec_token.specs.declared.Kind.{Kind}
use Rattle.spec_token.specs.declared.Kind.TheVariants as kind
use Rattle.spec_grammar.specs.declared.Role.{Role}
use Rattle.spec_grammar.specs.declared.Role.TheVariants.{NoRole, UagName, User, HagName, Host, AsgName, Input, Pvname, RuleWord, Level, Permission}
use Rattle.spec_grammar.specs.declared.Role.TheVariants.{LogOption, UagNamed, HagNamed, CalcWord, Calculation, UnknownPredicate}
use Rattle.spec_grammar.specs.Codes.{same_role}
use Rattle.spec_grammar.specs.Sentence.{Tagged}
use Rattle.spec_grammar.proofs.laws.Roles.{same_role_is}
use Rattle.spec_file.specs.Contents.{text, Group, Link, RuleText, Asg, File}
use Rattle.spec_file.specs.Meaning.{switched_off}
use Rattle.spec_text.specs.Lines.{link_word, level_word, permission_word, log_word}
use Rattle.spec_text.proofs.laws.Pieces.{Piece, mark, word, string, line_end, tagged, said_at, rp, list_pieces, called_pieces, headed_pieces}
use Rattle.spec_text.proofs.laws.Pieces.{member_pieces, group_pieces, uag_pieces, hag_pieces, link_pieces, head_pieces, reference_pieces}
use Rattle.spec_text.proofs.laws.Pieces.{calculation_pieces, unknown_pieces, predicate_pieces, rule_pieces, asg_pieces, line_pieces, file_pieces}
use Rattle.spec_text.proofs.laws.Readings.{read, lines_read, body_read, headed_read, ended_read}

-- a token that says r, at no place
abbrev pub saying : Role → List ℕ → Tagged
saying r s = tagged kind.String r 0 s

abbrev speaks : Role → Bool
speaks r = not (same_role r NoRole)

-- what a piece says
abbrev piece_says : Piece → List Tagged
piece_says (mark b k) = []
piece_says (word k r w) = prepend_if (speaks r) (saying r w) []
piece_says (string r s) = saying r s ∷ []
piece_says line_end = []

abbrev sayings : List Piece → List Tagged
sayings = read piece_says

-- the tokens xs say ys: the same roles and texts, those that say nothing left out
pub data Says : List Tagged → List Tagged → Type 0 where
  nothing : Says [] []
  silent : {x : Tagged} {xs ys : List Tagged} → x.role ≡ NoRole → Says xs ys → Says (x ∷ xs) ys
  aloud : {x y : Tagged} {xs ys : List Tagged} → x.role ≡ y.role → text x ≡ text y → Says xs ys → Says (x ∷ xs) (y ∷ ys)

says_sayings : (p : ℕ) (ps : List Piece) → Says (said_at p ps) (sayings ps)
says_sayings p [] = nothing
says_sayings p (mark b k ∷ ps) = silent refl (says_sayings (p + 1) ps)
says_sayings p (word k r w ∷ ps) = go (speaks r) refl (says_sayings (p + length w) ps)
  where
    go :
        (b : Bool) → speaks r ≡ b → Says (said_at (p + length w) ps) (sayings ps)
        → Says (tagged k r p w ∷ said_at (p + length w) ps) (prepend_if b (saying r w) [] ++ sayings ps)
    go true e h = aloud refl refl h
    go false e h = silent (same_role_is r NoRole (not-false (same_role r NoRole) e)) h
says_sayings p (string r s ∷ ps) = aloud refl refl (says_sayings (p + 2 + length s) ps)
says_sayings p (line_end ∷ ps) = says_sayings (p + 1) ps

-- ---- what a file says

abbrev pub strings : Role → List (List ℕ) → List Tagged
strings r ss = map (saying r) ss

-- a UAG or HAG, whose name has the role n and whose members have the role m
abbrev pub group_sayings : Role → Role → Group → List Tagged
group_sayings n m g = saying n g.name ∷ strings m g.members

abbrev pub link_sayings : Link → List Tagged
link_sayings i = saying Input (link_word i.letter) ∷ saying Pvname i.name ∷ []

abbrev pub calculation_sayings : Option (List ℕ) → List Tagged
calculation_sayings none = []
calculation_sayings (some s) = saying CalcWord (bytes "CALC") ∷ saying Calculation s ∷ []

abbrev pub unknown_sayings : Bool → List Tagged
unknown_sayings false = []
unknown_sayings true = saying UnknownPredicate (bytes "UNKNOWN") ∷ []

abbrev pub head_sayings : RuleText → List Tagged
head_sayings r =
    saying Level (level_word r.level)
    ∷ saying Permission (permission_word r.permission)
    ∷ saying LogOption (log_word r.trap)
    ∷ []

abbrev pub predicate_sayings : RuleText → List Tagged
predicate_sayings r =
    strings UagNamed r.uags ++ (strings HagNamed r.hags ++ (calculation_sayings r.calculation ++ unknown_sayings (switched_off r)))

abbrev pub rule_sayings : RuleText → List Tagged
rule_sayings r = saying RuleWord (bytes "RULE") ∷ (head_sayings r ++ predicate_sayings r)

abbrev pub links_sayings : Asg → List Tagged
links_sayings a = joined (map link_sayings a.inputs)

abbrev pub rules_sayings : Asg → List Tagged
rules_sayings a = joined (map rule_sayings a.rules)

abbrev pub asg_sayings : Asg → List Tagged
asg_sayings a = saying AsgName a.name ∷ (links_sayings a ++ rules_sayings a)

abbrev pub file_sayings : File → List Tagged
file_sayings f =
    joined (map (group_sayings UagName User) f.uags)
    ++ (joined (map (group_sayings HagName Host) f.hags) ++ joined (map asg_sayings f.asgs))

-- ---- the pieces of a file say it

abbrev lines : List (List Piece) → List Tagged
lines = lines_read piece_says

-- the lines of each of a list
lines_joined :
    {A : Type 0} (h : A → List (List Piece)) (g : A → List Tagged) → ((x : A) → lines (h x) ≡ g x) → (xs : List A)
    → lines (joined (map h xs)) ≡ joined (map g xs)
lines_joined h g e xs = joined_each sayings h xs ∙ ap joined (map_same e xs)

-- braces say nothing
lines_headed : (head : List Piece) (ls : List (List Piece)) → lines (headed_pieces head ls) ≡ sayings head ++ lines ls
lines_headed head ls = headed_read piece_says head ls ∙ ap (λ (l : List Tagged). sayings head ++ l) (go ls)
  where
    go : (ls : List (List Piece)) → body_read piece_says ls ≡ lines ls
    go [] = refl
    go (l ∷ ls) = append-nil (lines (l ∷ ls))

list_says : (r : Role) (s : List ℕ) (ss : List (List ℕ)) → sayings (list_pieces r s ss) ≡ strings r (s ∷ ss)
list_says r s [] = refl
list_says r s (t ∷ ss) = ap (λ (l : List Tagged). saying r s ∷ l) (list_says r t ss)

members_say : (r : Role) (ss : List (List ℕ)) → lines (member_pieces r ss) ≡ strings r ss
members_say r [] = refl
members_say r (s ∷ ss) = append-nil (sayings (list_pieces r s ss)) ∙ list_says r s ss

group_says : (k : Kind) (n m : Role) (w : List ℕ) (g : Group) → lines (group_pieces k n m w g) ≡ group_sayings n m g
group_says k n m w g =
    lines_headed (called_pieces (word k NoRole w) (string n g.name ∷ [])) (member_pieces m g.members)
    ∙ ap (λ (l : List Tagged). saying n g.name ∷ l) (members_say m g.members)

links_say : (is : List Link) → lines (map link_pieces is) ≡ joined (map link_sayings is)
links_say is = ap joined (map_map sayings link_pieces is)

references_say : (k : Kind) (w : List ℕ) (r : Role) (ss : List (List ℕ)) → lines (reference_pieces (word k NoRole w) r ss) ≡ strings r ss
references_say k w r [] = refl
references_say k w r (s ∷ ss) =
    append-nil (sayings (list_pieces r s ss ++ (rp ∷ [])))
    ∙ (each_append piece_says (list_pieces r s ss) (rp ∷ []) ∙ (append-nil (sayings (list_pieces r s ss)) ∙ list_says r s ss))

calculation_says : (o : Option (List ℕ)) → lines (calculation_pieces o) ≡ calculation_sayings o
calculation_says none = refl
calculation_says (some s) = refl

unknown_says : (b : Bool) → lines (unknown_pieces b) ≡ unknown_sayings b
unknown_says false = refl
unknown_says true = refl

predicates_say : (r : RuleText) → lines (predicate_pieces r) ≡ predicate_sayings r
predicates_say r =
    each_append sayings (reference_pieces (word kind.Uag NoRole (bytes "UAG")) UagNamed r.uags) _
    ∙ ap₂ (λ (a b : List Tagged). a ++ b) (references_say kind.Uag (bytes "UAG") UagNamed r.uags)
    (each_append sayings (reference_pieces (word kind.Hag NoRole (bytes "HAG")) HagNamed r.hags) _
    ∙ ap₂ (λ (a b : List Tagged). a ++ b) (references_say kind.Hag (bytes "HAG") HagNamed r.hags)
    (each_append sayings (calculation_pieces r.calculation) _
    ∙ ap₂ (λ (a b : List Tagged). a ++ b) (calculation_says r.calculation) (unknown_says (switched_off r))))

rule_says : (r : RuleText) → lines (rule_pieces r) ≡ rule_sayings r
rule_says r =
    lines_headed (head_pieces r) (predicate_pieces r)
    ∙ ap (λ (l : List Tagged). saying RuleWord (bytes "RULE") ∷ (head_sayings r ++ l)) (predicates_say r)

asg_says : (a : Asg) → lines (asg_pieces a) ≡ asg_sayings a
asg_says a =
    lines_headed _ (map link_pieces a.inputs ++ joined (map rule_pieces a.rules))
    ∙ ap (λ (l : List Tagged). saying AsgName a.name ∷ l)
    (each_append sayings (map link_pieces a.inputs) _
    ∙ ap₂ (λ (a b : List Tagged). a ++ b) (links_say a.inputs) (lines_joined rule_pieces rule_sayings rule_says a.rules))

file_says : (f : File) → sayings (file_pieces f) ≡ file_sayings f
file_says f =
    ended_read piece_says refl (line_pieces f)
    ∙ (each_append sayings (joined (map uag_pieces f.uags)) _
    ∙ ap₂ (λ (a b : List Tagged). a ++ b) (lines_joined uag_pieces (group_sayings UagName User) (group_says kind.Uag UagName User (bytes "UAG")) f.uags)
    (each_append sayings (joined (map hag_pieces f.hags)) _
    ∙ ap₂ (λ (a b : List Tagged). a ++ b) (lines_joined hag_pieces (group_sayings HagName Host) (group_says kind.Hag HagName Host (bytes "HAG")) f.hags)
    (lines_joined asg_pieces asg_sayings asg_says f.asgs)))

-- the tokens of a file's text say the file
pub text_says : (f : File) (p : ℕ) → Says (said_at p (file_pieces f)) (file_sayings f)
text_says f p = rw (← file_says f) (says_sayings p (file_pieces f))
