-- The text of a file is spelled by the tokens of its pieces.
use Rattle.std.specs.Prelude.{◌≡◌, refl, Bool, true, false, ◌&&◌, List, [], ◌∷◌, ◌++◌, map, ℕ, zero, suc, ◌+◌, ◌≤◌, length}
use Rattle.std.proofs.Common.{sym, subst, append_assoc, arith}
use Rattle.std.proofs.lemmas.Bool.{false≢true}
use Rattle.std.proofs.Math.Option.{Option}
use Prim.Native.Char.{code}
use Rattle.spec_lists.specs.Text.{bytes}
use Rattle.spec_lists.specs.Select.{nonempty, all, joined}
use Rattle.spec_lists.specs.Every.{Every, nil, cons}
use Rattle.spec_lists.proofs.laws.Every.{every_append, every_both, every_implies, every_joined, every_map}
use Rattle.spec_lists.proofs.laws.Range.{inside}
use Rattle.spec_token.specs.declared.Kind.{Kind}
use Rattle.spec_token.specs.declared.Kind.TheVariants as kind
use Rattle.spec_token.specs.Word.{name_byte, OfKind, formed, greatest_letter}
use Rattle.spec_token.specs.Word as form
use Rattle.spec_token.specs.Token.{Token, tokens, Alone, open_paren, close_paren, open_brace, close_brace, comma, BetweenQuotes, Spells, end, gap}
use Rattle.spec_token.specs.Token.{Spelled}
use Rattle.spec_token.specs.Token as spells
use Rattle.spec_token.specs.Scanner.{word_kind}
use Rattle.spec_token.proofs.laws.Words.{kind_sound}
use Rattle.spec_rule.specs.declared.Access.{Access}
use Rattle.spec_rule.specs.declared.Access.TheVariants as access
use Rattle.spec_rule.specs.Answering.{greatest_level}
use Rattle.spec_grammar.specs.declared.Role.{Role}
use Rattle.spec_grammar.specs.declared.Role.TheVariants.{NoRole, UagName, User, HagName, Host, AsgName, Input, Pvname, RuleWord, Level, Permission}
use Rattle.spec_grammar.specs.declared.Role.TheVariants.{LogOption, UagNamed, HagNamed, CalcWord, Calculation, UnknownPredicate}
use Rattle.spec_file.specs.Contents.{Group, Link, RuleText, Asg, File}
use Rattle.spec_file.specs.Meaning.{switched_off}
use Rattle.spec_text.specs.Lines.{link_word, level_word, permission_word, log_word, text_of}
use Rattle.spec_text.proofs.laws.Pieces.{Piece, mark, word, string, line_end, spelled_by, said_at, cm, list_pieces, called_pieces, headed_pieces}
use Rattle.spec_text.proofs.laws.Pieces.{member_pieces, group_pieces, uag_pieces, hag_pieces, link_pieces, head_pieces, reference_pieces}
use Rattle.spec_text.proofs.laws.Pieces.{calculation_pieces, unknown_pieces, rule_pieces, asg_pieces, line_pieces, ended_pieces, file_pieces}
use Rattle.spec_text.proofs.laws.Keeps.{CalculationOf, without, with, GroupOf, RuleOf, AsgOf, Quotable, AsgNamed}
use Rattle.spec_text.proofs.laws.Bytes.{text_by_pieces}

-- ---- pieces that stand for what they are

-- a bare word of the kind k
pub data AWord : List ℕ → Kind → Type 0 where
  a_word : {b : ℕ} {w : List ℕ} {k : Kind} → all name_byte (b ∷ w) ≡ true → OfKind (b ∷ w) k → AWord (b ∷ w) k

-- Each piece can stand for its token. A punctuation token stands behind a word, so no word runs on.
pub data WellSpelled : List Piece → Type 0 where
  no_pieces : WellSpelled []
  a_mark : {b : ℕ} {k : Kind} {ps : List Piece} → Alone b k → WellSpelled ps → WellSpelled (mark b k ∷ ps)
  a_word_and_mark :
      {w : List ℕ} {k j : Kind} {r : Role} {b : ℕ} {ps : List Piece} → AWord w k → Alone b j → WellSpelled ps
      → WellSpelled (word k r w ∷ mark b j ∷ ps)
  a_string : {r : Role} {s : List ℕ} {ps : List Piece} → BetweenQuotes s → WellSpelled ps → WellSpelled (string r s ∷ ps)
  a_line_end : {ps : List Piece} → WellSpelled ps → WellSpelled (line_end ∷ ps)

no_name_byte : {b : ℕ} {k : Kind} → Alone b k → name_byte b ≡ false
no_name_byte open_paren = refl
no_name_byte close_paren = refl
no_name_byte open_brace = refl
no_name_byte close_brace = refl
no_name_byte comma = refl

-- the tokens of some pieces, the first byte of which has the place p
abbrev pub tokens_at : ℕ → List Piece → List Token
tokens_at p ps = map (λ x. x.token) (said_at p ps)

well_spells : {ps : List Piece} → WellSpelled ps → (p : ℕ) → Spells p (spelled_by ps) (tokens (tokens_at p ps))
well_spells no_pieces p = end
well_spells (a_mark {ps = ps} a d) p = spells.alone {o = tokens (tokens_at (p + 1) ps)} a (well_spells d (p + 1))
well_spells (a_word_and_mark {w = w} {b = c} {ps = ps} (a_word {b = b} {w = v} n k) a d) p =
    spells.word {r = c ∷ spelled_by ps} {o = tokens (tokens_at (p + length w) (mark _ _ ∷ ps))}
    (record { parts = refl; pass = n; ends = rw (no_name_byte a) })
    k
    (spells.alone {o = tokens (tokens_at (p + length w + 1) ps)} a (well_spells d (p + length w + 1)))
well_spells (a_string {s = s} {ps = ps} q d) p =
    spells.quoted {o = tokens (tokens_at (p + 2 + length s) ps)} (append_assoc s (bytes "\"") (spelled_by ps)) q (well_spells d (p + 2 + length s))
well_spells (a_line_end d) p = gap refl (well_spells d (p + 1))

-- ---- every line of a file

well_append : {xs ys : List Piece} → WellSpelled xs → WellSpelled ys → WellSpelled (xs ++ ys)
well_append no_pieces e = e
well_append (a_mark a d) e = a_mark a (well_append d e)
well_append (a_word_and_mark w a d) e = a_word_and_mark w a (well_append d e)
well_append (a_string q d) e = a_string q (well_append d e)
well_append (a_line_end d) e = a_line_end (well_append d e)

well_list : (r : Role) {s : List ℕ} {ss : List (List ℕ)} → BetweenQuotes s → Every BetweenQuotes ss → WellSpelled (list_pieces r s ss)
well_list r q e = a_string q (go e)
  where
    go : {ts : List (List ℕ)} → Every BetweenQuotes ts → WellSpelled (joined (map (λ t. cm ∷ string r t ∷ []) ts))
    go nil = no_pieces
    go (cons q e) = a_mark comma (a_string q (go e))

well_called :
    {k : Kind} {w : List ℕ} {inside : List Piece} (v : Role) → AWord w k → WellSpelled inside → WellSpelled (called_pieces (word k v w) inside)
well_called v w d = a_word_and_mark w open_paren (well_append d (a_mark close_paren no_pieces))

-- a word and one string
well_string_called :
    {k : Kind} {w s : List ℕ} (v r : Role) → AWord w k → BetweenQuotes s → WellSpelled (called_pieces (word k v w) (string r s ∷ []))
well_string_called v r w q = well_called v w (a_string q no_pieces)

well_headed :
    {head : List Piece} {ls : List (List Piece)} → WellSpelled head → Every WellSpelled ls → Every WellSpelled (headed_pieces head ls)
well_headed h nil = cons h nil
well_headed h (cons d e) =
    cons (well_append h (a_mark open_brace no_pieces)) (every_append (cons d e) (cons (a_mark close_brace no_pieces) nil))

well_members : (r : Role) {ss : List (List ℕ)} → Every BetweenQuotes ss → Every WellSpelled (member_pieces r ss)
well_members r nil = nil
well_members r (cons q e) = cons (well_list r q e) nil

-- a word, of the kind that the scanner finds
known : (w : List ℕ) → nonempty w && all name_byte w ≡ true → AWord w (word_kind w)
known [] e = absurd (false≢true e)
known (b ∷ w) e = a_word e (kind_sound (b ∷ w))

well_group :
    (n m : Role) {k : Kind} {w : List ℕ} → AWord w k → (g : Group) → GroupOf BetweenQuotes BetweenQuotes g → Every WellSpelled (group_pieces k n m w g)
well_group n m w g q = well_headed (well_string_called NoRole n w q.name) (well_members m q.members)

link_kind : (n : ℕ) → n ≤ greatest_letter → AWord (link_word n) kind.Inp
link_kind n h =
    let name : all name_byte (link_word n) ≡ true = rw (inside (code "A") (code "Z") (code "A" + n) (omega arith) (omega arith)) in
    a_word name (formed (form.inp refl (inside (code "A") (code "U") (code "A" + n) (omega arith) (omega arith))))

level_kind : (n : ℕ) → n ≤ greatest_level → AWord (level_word n) kind.Int
level_kind zero h = known (bytes "0") refl
level_kind (suc zero) h = known (bytes "1") refl
level_kind (suc (suc n)) h = absurd (omega arith)

permission_kind : (a : Access) → AWord (permission_word a) kind.String
permission_kind access.None = known (bytes "NONE") refl
permission_kind access.Read = known (bytes "READ") refl
permission_kind access.Write = known (bytes "WRITE") refl

log_kind : (b : Bool) → AWord (log_word b) kind.String
log_kind false = known (bytes "NOTRAPWRITE") refl
log_kind true = known (bytes "TRAPWRITE") refl

well_head : (r : RuleText) → r.level ≤ greatest_level → WellSpelled (head_pieces r)
well_head r h =
    a_word_and_mark {r = RuleWord} (known (bytes "RULE") refl) open_paren
    (a_word_and_mark {r = Level} (level_kind r.level h) comma
    (a_word_and_mark {r = Permission} (permission_kind r.permission) comma
    (a_word_and_mark {r = LogOption} (log_kind r.trap) close_paren no_pieces)))

well_reference :
    {k : Kind} {w : List ℕ} (v r : Role) {ss : List (List ℕ)} → AWord w k → Every BetweenQuotes ss
    → Every WellSpelled (reference_pieces (word k v w) r ss)
well_reference v r w nil = nil
well_reference v r w (cons q e) = cons (well_called v w (well_list r q e)) nil

well_calculation : {c : Option (List ℕ)} → CalculationOf BetweenQuotes BetweenQuotes c → Every WellSpelled (calculation_pieces c)
well_calculation without = nil
well_calculation (with q) = cons (well_string_called CalcWord Calculation (known (bytes "CALC") refl) q) nil

well_unknown : (b : Bool) → Every WellSpelled (unknown_pieces b)
well_unknown false = nil
well_unknown true = cons (well_called UnknownPredicate (known (bytes "UNKNOWN") refl) no_pieces) nil

well_rule : (r : RuleText) → RuleOf BetweenQuotes BetweenQuotes r → r.level ≤ greatest_level → Every WellSpelled (rule_pieces r)
well_rule r q h =
    well_headed (well_head r h)
    (every_append (well_reference NoRole UagNamed (known (bytes "UAG") refl) q.uags)
    (every_append (well_reference NoRole HagNamed (known (bytes "HAG") refl) q.hags)
    (every_append (well_calculation q.calculation) (well_unknown (switched_off r)))))

well_link : (i : Link) → BetweenQuotes i.name → i.letter ≤ greatest_letter → WellSpelled (link_pieces i)
well_link i q h = well_string_called Input Pvname (link_kind i.letter h) q

well_asg : (a : Asg) → AsgOf BetweenQuotes BetweenQuotes a → AsgNamed a → Every WellSpelled (asg_pieces a)
well_asg a q n =
    well_headed (well_string_called NoRole AsgName (known (bytes "ASG") refl) q.name)
    (every_append
    (every_map link_pieces (every_both well_link q.inputs n.letters))
    (every_joined (every_map rule_pieces (every_both well_rule q.rules n.levels))))

well_lines : (f : File) → Quotable f → Every AsgNamed f.asgs → Every WellSpelled (line_pieces f)
well_lines f q n =
    every_append
    (every_joined (every_map uag_pieces (every_implies (well_group UagName User (known (bytes "UAG") refl)) q.uags)))
    (every_append
    (every_joined (every_map hag_pieces (every_implies (well_group HagName Host (known (bytes "HAG") refl)) q.hags)))
    (every_joined (every_map asg_pieces (every_both well_asg q.asgs n))))

well_ended : {ls : List (List Piece)} → Every WellSpelled ls → WellSpelled (ended_pieces ls)
well_ended nil = no_pieces
well_ended (cons d e) = well_append (well_append d (a_line_end no_pieces)) (well_ended e)

-- the tokens of a file's text are those of its pieces
pub spelled : (f : File) → Quotable f → Every AsgNamed f.asgs → Spelled (text_of f) (tokens_at 0 (file_pieces f))
spelled f q n = subst (λ s. Spelled s (tokens_at 0 (file_pieces f))) (sym (text_by_pieces f)) (well_spells (well_ended (well_lines f q n)) 0)
