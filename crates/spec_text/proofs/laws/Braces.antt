-- No brace of a file's text is too deep.
use Rattle.std.specs.Prelude.{◌≡◌, refl, Bool, true, false, cond, not, ◌||◌, List, [], ◌∷◌, ◌++◌, map, ℕ, ◌+◌, ◌-◌, ◌≤◌}
use Rattle.std.proofs.Common.{sym, ap, subst, ◌∙◌, arith, le-leb}
use Rattle.std.proofs.lemmas.Bool.{false≢true}
use Rattle.std.proofs.Math.Option.{Option, none, some}
use Rattle.spec_lists.specs.Text.{bytes}
use Rattle.spec_lists.specs.Select.{all, joined}
use Rattle.spec_lists.specs.Every.{Every, nil, cons}
use Rattle.spec_lists.proofs.laws.Both.{both}
use Rattle.spec_lists.proofs.laws.Every.{every, every_append, every_map, all_append}
use Rattle.spec_lists.proofs.laws.Joined.{each_append}
use Rattle.spec_token.specs.declared.Kind.{Kind}
use Rattle.spec_token.specs.declared.Kind.TheVariants as kind
use Rattle.spec_grammar.specs.declared.Role.{Role}
use Rattle.spec_grammar.specs.declared.Role.TheVariants.{NoRole, UagName, User, HagName, Host, UagNamed, HagNamed}
use Rattle.spec_grammar.specs.Codes.{same_kind}
use Rattle.spec_grammar.specs.Production.{Sign, ◌tagged◌}
use Rattle.spec_grammar.specs.Sentence.{Tagged, sign}
use Rattle.spec_file.specs.Limit.{most_braces}
use Rattle.spec_file.specs.Contents.{Group, Link, RuleText, Asg, File}
use Rattle.spec_file.specs.Meaning.{switched_off}
use Rattle.spec_file.specs.Depth.{opened, too_deep}
use Rattle.spec_text.proofs.laws.Pieces.{Piece, word, string, said_at, rp, list_pieces, called_pieces, headed_pieces, member_pieces}
use Rattle.spec_text.proofs.laws.Pieces.{group_pieces, uag_pieces, hag_pieces, link_pieces, head_pieces, reference_pieces, calculation_pieces}
use Rattle.spec_text.proofs.laws.Pieces.{unknown_pieces, predicate_pieces, rule_pieces, asg_pieces, line_pieces, file_pieces}
use Rattle.spec_text.proofs.laws.Signs.{signs_of, said_signs, signs_append, line_signs, body_signs, headed_signs, ended_signs}

-- With n braces open before the signs s, m are open behind them, and never too many.
data Braces : ℕ → List Sign → ℕ → Type 0 where
  no_sign : {n : ℕ} → Braces n [] n
  one_sign :
      {n j m : ℕ} {k : Kind} {r : Role} {s : List Sign} → opened k n ≡ j → j ≤ most_braces → Braces j s m → Braces n (k tagged r ∷ s) m

braces_append : {n m l : ℕ} {s t : List Sign} → Braces n s m → Braces m t l → Braces n (s ++ t) l
braces_append no_sign e = e
braces_append (one_sign o h d) e = one_sign o h (braces_append d e)

braces_shallow : {n m : ℕ} (xs : List Tagged) → Braces n (map sign xs) m → too_deep n (map (λ x. x.token) xs) ≡ none
braces_shallow [] d = refl
braces_shallow (x ∷ xs) (one_sign {j = j} o h d) = rw (o, le-leb j most_braces h) (braces_shallow xs d)

-- ---- lines without a brace

abbrev no_brace : Sign → Bool
no_brace (k tagged r) = not (same_kind k kind.OpenBrace || same_kind k kind.CloseBrace)

opens_none : (k : Kind) (n : ℕ) → not (same_kind k kind.OpenBrace || same_kind k kind.CloseBrace) ≡ true → opened k n ≡ n
opens_none k n = go (same_kind k kind.OpenBrace) (same_kind k kind.CloseBrace)
  where
    go : (a b : Bool) → not (a || b) ≡ true → cond a (n + 1) (cond b (n - 1) n) ≡ n
    go true b e = absurd (false≢true e)
    go false true e = absurd (false≢true e)
    go false false e = refl

level_signs : (s : List Sign) → all no_brace s ≡ true → (n : ℕ) → n ≤ most_braces → Braces n s n
level_signs [] e n h = no_sign
level_signs (k tagged r ∷ s) e n h =
    let b = both (no_brace (k tagged r)) (all no_brace s) e in
    one_sign (opens_none k n b.0) h (level_signs s b.1 n h)

-- a line without a brace
abbrev LevelLine : List Piece → Type 0
LevelLine l = all no_brace (signs_of l) ≡ true

-- as many braces are open behind these lines as before them
abbrev Level : ℕ → List (List Piece) → Type 0
Level n ls = Braces n (line_signs ls) n

level_append : {n : ℕ} (xs ys : List (List Piece)) → Level n xs → Level n ys → Level n (xs ++ ys)
level_append {n} xs ys d e = subst (λ s. Braces n s n) (sym (each_append signs_of xs ys)) (braces_append d e)

level_each : {A : Type 0} {n : ℕ} (f : A → List (List Piece)) → ((x : A) → Level n (f x)) → (xs : List A) → Level n (joined (map f xs))
level_each f d [] = no_sign
level_each f d (x ∷ xs) = level_append (f x) (joined (map f xs)) (d x) (level_each f d xs)

level_lines : {ls : List (List Piece)} → Every LevelLine ls → (n : ℕ) → n ≤ most_braces → Level n ls
level_lines nil n h = no_sign
level_lines (cons {x = l} e es) n h = braces_append (level_signs (signs_of l) e n h) (level_lines es n h)

level_headed :
    {n : ℕ} (head : List Piece) (ls : List (List Piece)) → n + 1 ≤ most_braces → LevelLine head → Level (n + 1) ls
    → Level n (headed_pieces head ls)
level_headed {n} head ls h e d =
    subst (λ s. Braces n s n) (sym (headed_signs head ls)) (braces_append (level_signs (signs_of head) e n (omega arith)) (go ls d))
  where
    closing : Braces (n + 1) (kind.CloseBrace tagged NoRole ∷ []) n
    closing =
        let one_less : (n + 1) - 1 ≡ n = omega arith in
        let few : n ≤ most_braces = omega arith in
        one_sign one_less few no_sign

    go : (ls : List (List Piece)) → Level (n + 1) ls → Braces n (body_signs ls) n
    go [] d = no_sign
    go (l ∷ ls) d = one_sign refl h (braces_append d closing)

-- ---- the lines of a file

list_level : (r : Role) (s : List ℕ) (ss : List (List ℕ)) → LevelLine (list_pieces r s ss)
list_level r s [] = refl
list_level r s (t ∷ ss) = list_level r t ss

called_level :
    (k : Kind) (v : Role) (w : List ℕ) (inside : List Piece) → no_brace (k tagged v) ≡ true → LevelLine inside
    → LevelLine (called_pieces (word k v w) inside)
called_level k v w inside e d =
    rw e (ap (all no_brace) (signs_append inside (rp ∷ [])) ∙ all_append no_brace (signs_of inside) (signs_of (rp ∷ [])) ∙ rw d)

members_level : (r : Role) (ms : List (List ℕ)) → Every LevelLine (member_pieces r ms)
members_level r [] = nil
members_level r (s ∷ ss) = cons (list_level r s ss) nil

group_level : (k : Kind) (n m : Role) (w : List ℕ) → no_brace (k tagged NoRole) ≡ true → (g : Group) → Level 0 (group_pieces k n m w g)
group_level k n m w e g =
    level_headed (called_pieces (word k NoRole w) (string n g.name ∷ [])) (member_pieces m g.members) (omega arith)
    (called_level k NoRole w (string n g.name ∷ []) e refl)
    (level_lines (members_level m g.members) 1 (omega arith))

reference_level :
    (k : Kind) (v r : Role) (w : List ℕ) (ss : List (List ℕ)) → no_brace (k tagged v) ≡ true
    → Every LevelLine (reference_pieces (word k v w) r ss)
reference_level k v r w [] e = nil
reference_level k v r w (s ∷ ss) e = cons (called_level k v w (list_pieces r s ss) e (list_level r s ss)) nil

calculation_level : (c : Option (List ℕ)) → Every LevelLine (calculation_pieces c)
calculation_level none = nil
calculation_level (some s) = cons refl nil

unknown_level : (b : Bool) → Every LevelLine (unknown_pieces b)
unknown_level false = nil
unknown_level true = cons refl nil

predicates_level : (r : RuleText) → Every LevelLine (predicate_pieces r)
predicates_level r =
    every_append (reference_level kind.Uag NoRole UagNamed (bytes "UAG") r.uags refl)
    (every_append (reference_level kind.Hag NoRole HagNamed (bytes "HAG") r.hags refl)
    (every_append (calculation_level r.calculation) (unknown_level (switched_off r))))

rule_level : (r : RuleText) → Level 1 (rule_pieces r)
rule_level r = level_headed (head_pieces r) (predicate_pieces r) (omega arith) refl (level_lines (predicates_level r) 2 (omega arith))

links_level : (is : List Link) → Every LevelLine (map link_pieces is)
links_level is = every_map link_pieces (every (λ i. refl) is)

asg_level : (a : Asg) → Level 0 (asg_pieces a)
asg_level a =
    level_headed _
    (map link_pieces a.inputs ++ joined (map rule_pieces a.rules))
    (omega arith)
    refl
    (level_append (map link_pieces a.inputs) (joined (map rule_pieces a.rules))
    (level_lines (links_level a.inputs) 1 (omega arith))
    (level_each rule_pieces rule_level a.rules))

file_level : (f : File) → Level 0 (line_pieces f)
file_level f =
    level_append (joined (map uag_pieces f.uags)) (joined (map hag_pieces f.hags) ++ joined (map asg_pieces f.asgs))
    (level_each uag_pieces (group_level kind.Uag UagName User (bytes "UAG") refl) f.uags)
    (level_append (joined (map hag_pieces f.hags)) (joined (map asg_pieces f.asgs))
    (level_each hag_pieces (group_level kind.Hag HagName Host (bytes "HAG") refl) f.hags)
    (level_each asg_pieces asg_level f.asgs))

pub shallow : (f : File) → too_deep 0 (map (λ x. x.token) (said_at 0 (file_pieces f))) ≡ none
shallow f =
    braces_shallow {m = 0} (said_at 0 (file_pieces f))
    (subst (λ s. Braces 0 s 0) (sym (said_signs 0 (file_pieces f) ∙ ended_signs (line_pieces f))) (file_level f))
