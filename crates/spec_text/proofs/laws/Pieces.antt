-- The text of a file as pieces, each with what it says: from them come the text's bytes, its tokens and their roles.
use Rattle.std.specs.Prelude.{Bool, true, false, List, [], ◌∷◌, ◌++◌, map, ℕ, ◌+◌, length}
use Rattle.std.proofs.Math.Option.{Option, none, some}
use Prim.Native.Char.{code}
use Rattle.spec_lists.specs.Text.{bytes}
use Rattle.spec_lists.specs.Select.{joined}
use Rattle.spec_token.specs.declared.Kind.{Kind}
use Rattle.spec_token.specs.declared.Kind.TheVariants as kind
use Rattle.spec_grammar.specs.declared.Role.{Role}
use Rattle.spec_grammar.specs.declared.Role.TheVariants.{NoRole, UagName, User, HagName, Host, AsgName, Input, Pvname, RuleWord, Level, Permission}
use Rattle.spec_grammar.specs.declared.Role.TheVariants.{LogOption, UagNamed, HagNamed, CalcWord, Calculation, UnknownPredicate}
use Rattle.spec_grammar.specs.Sentence.{Tagged}
use Rattle.spec_file.specs.Contents.{Group, Link, RuleText, Asg, File}
use Rattle.spec_file.specs.Meaning.{switched_off}
use Rattle.spec_text.specs.Lines.{quoted, link_word, level_word, permission_word, log_word}

-- a punctuation token, a bare word, a quoted text, the end of a line
pub data Piece : Type 0 where
  mark : ℕ → Kind → Piece
  word : Kind → Role → List ℕ → Piece
  string : Role → List ℕ → Piece
  line_end : Piece

abbrev pub piece_bytes : Piece → List ℕ
piece_bytes (mark b k) = b ∷ []
piece_bytes (word k r w) = w
piece_bytes (string r s) = quoted s
piece_bytes line_end = bytes "\n"

-- the text of some pieces
abbrev pub spelled_by : List Piece → List ℕ
spelled_by ps = joined (map piece_bytes ps)

abbrev pub tagged : Kind → Role → ℕ → List ℕ → Tagged
tagged k r p s = record { token = record { kind = k; place = p; text = s }; role = r }

-- the tokens of some pieces, the first byte of which has the place p, with what they say
abbrev pub said_at : ℕ → List Piece → List Tagged
said_at p [] = []
said_at p (mark b k ∷ ps) = tagged k NoRole p (b ∷ []) ∷ said_at (p + 1) ps
said_at p (word k r w ∷ ps) = tagged k r p w ∷ said_at (p + length w) ps
said_at p (string r s ∷ ps) = tagged kind.String r p s ∷ said_at (p + 2 + length s) ps
said_at p (line_end ∷ ps) = said_at (p + 1) ps

abbrev pub lp : Piece
lp = mark (code "(") kind.OpenParen

abbrev pub rp : Piece
rp = mark (code ")") kind.CloseParen

abbrev pub lb : Piece
lb = mark (code "{") kind.OpenBrace

abbrev pub rb : Piece
rb = mark (code "}") kind.CloseBrace

abbrev pub cm : Piece
cm = mark (code ",") kind.Comma

-- ---- the pieces of each line, in the order of Lines.antt

abbrev pub list_pieces : Role → List ℕ → List (List ℕ) → List Piece
list_pieces r s ss = string r s ∷ joined (map (λ t. cm ∷ string r t ∷ []) ss)

abbrev pub called_pieces : Piece → List Piece → List Piece
called_pieces w inside = w ∷ lp ∷ (inside ++ (rp ∷ []))

abbrev pub headed_pieces : List Piece → List (List Piece) → List (List Piece)
headed_pieces head [] = head ∷ []
headed_pieces head (l ∷ ls) = (head ++ (lb ∷ [])) ∷ ((l ∷ ls) ++ ((rb ∷ []) ∷ []))

abbrev pub member_pieces : Role → List (List ℕ) → List (List Piece)
member_pieces r [] = []
member_pieces r (s ∷ ss) = list_pieces r s ss ∷ []

-- a UAG or HAG, whose name has the role n and whose members have the role m
abbrev pub group_pieces : Kind → Role → Role → List ℕ → Group → List (List Piece)
group_pieces k n m w g = headed_pieces (called_pieces (word k NoRole w) (string n g.name ∷ [])) (member_pieces m g.members)

abbrev pub uag_pieces : Group → List (List Piece)
uag_pieces = group_pieces kind.Uag UagName User (bytes "UAG")

abbrev pub hag_pieces : Group → List (List Piece)
hag_pieces = group_pieces kind.Hag HagName Host (bytes "HAG")

abbrev pub link_pieces : Link → List Piece
link_pieces i = called_pieces (word kind.Inp Input (link_word i.letter)) (string Pvname i.name ∷ [])

abbrev pub head_pieces : RuleText → List Piece
head_pieces r =
    called_pieces
    (word kind.Rule RuleWord (bytes "RULE"))
    (word kind.Int Level (level_word r.level)
    ∷ cm
    ∷ word kind.String Permission (permission_word r.permission)
    ∷ cm
    ∷ word kind.String LogOption (log_word r.trap)
    ∷ [])

abbrev pub reference_pieces : Piece → Role → List (List ℕ) → List (List Piece)
reference_pieces w r [] = []
reference_pieces w r (s ∷ ss) = called_pieces w (list_pieces r s ss) ∷ []

abbrev pub calculation_pieces : Option (List ℕ) → List (List Piece)
calculation_pieces none = []
calculation_pieces (some s) = called_pieces (word kind.Calc CalcWord (bytes "CALC")) (string Calculation s ∷ []) ∷ []

abbrev pub unknown_pieces : Bool → List (List Piece)
unknown_pieces false = []
unknown_pieces true = called_pieces (word kind.String UnknownPredicate (bytes "UNKNOWN")) [] ∷ []

abbrev pub predicate_pieces : RuleText → List (List Piece)
predicate_pieces r =
    reference_pieces (word kind.Uag NoRole (bytes "UAG")) UagNamed r.uags
    ++ (reference_pieces (word kind.Hag NoRole (bytes "HAG")) HagNamed r.hags
    ++ (calculation_pieces r.calculation ++ unknown_pieces (switched_off r)))

abbrev pub rule_pieces : RuleText → List (List Piece)
rule_pieces r = headed_pieces (head_pieces r) (predicate_pieces r)

abbrev pub asg_pieces : Asg → List (List Piece)
asg_pieces a =
    headed_pieces
    (called_pieces (word kind.Asg NoRole (bytes "ASG")) (string AsgName a.name ∷ []))
    (map link_pieces a.inputs ++ joined (map rule_pieces a.rules))

abbrev pub line_pieces : File → List (List Piece)
line_pieces f = joined (map uag_pieces f.uags) ++ (joined (map hag_pieces f.hags) ++ joined (map asg_pieces f.asgs))

abbrev pub ended_pieces : List (List Piece) → List Piece
ended_pieces ls = joined (map (λ l. l ++ (line_end ∷ [])) ls)

-- the pieces of a file's text
abbrev pub file_pieces : File → List Piece
file_pieces f = ended_pieces (line_pieces f)
