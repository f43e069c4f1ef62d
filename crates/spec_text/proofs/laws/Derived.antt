-- The pieces of a file are an acf_file: 001's productions derive what they say.
use Rattle.std.specs.Prelude.{◌≡◌, refl, Bool, true, false, not, ◌||◌, List, [], ◌∷◌, ◌++◌, map, ℕ}
use Rattle.std.proofs.Common.{sym, ap, ap₂, subst, ◌∙◌, append_assoc, append-nil}
use Rattle.std.proofs.lemmas.Bool.{false≢true}
use Rattle.std.proofs.Math.Option.{Option, none, some}
use Rattle.spec_lists.specs.Text.{bytes}
use Rattle.spec_lists.specs.Select.{nonempty, joined}
use Rattle.spec_lists.specs.Every.{Every, nil, cons}
use Rattle.spec_lists.proofs.laws.Any.{nonempty_map}
use Rattle.spec_lists.proofs.laws.Every.{every, every_append, every_map}
use Rattle.spec_lists.proofs.laws.Joined.{joined_append, each_append, joined_each, map_map}
use Rattle.spec_token.specs.declared.Kind.{Kind}
use Rattle.spec_token.specs.declared.Kind.TheVariants as kind
use Rattle.spec_grammar.specs.declared.Role.{Role}
use Rattle.spec_grammar.specs.declared.Role.TheVariants.{NoRole, UagName, User, HagName, Host, AsgName, UagNamed, HagNamed}
use Rattle.spec_grammar.specs.Production.{Sign, ◌tagged◌, Symbols, end, tm, nt, opt, many, Nonterminal, strings, ◌⟶◌, Derives, finish, take, expand}
use Rattle.spec_grammar.specs.Production.{leave, choose, stop, repeat, AcfFile, asconfig_item, asg_body_item, rule_list_item}
use Rattle.spec_grammar.specs.Production as grammar
use Rattle.spec_grammar.specs.Sentence.{sign}
use Rattle.spec_file.specs.Contents.{Group, Link, RuleText, Asg, File}
use Rattle.spec_file.specs.Meaning.{switched_off}
use Rattle.spec_text.specs.Faults.{defines_nothing}
use Rattle.spec_text.proofs.laws.Pieces.{Piece, word, string, said_at, rp, cm, list_pieces, called_pieces, headed_pieces, member_pieces}
use Rattle.spec_text.proofs.laws.Pieces.{group_pieces, uag_pieces, hag_pieces, link_pieces, head_pieces, reference_pieces, calculation_pieces}
use Rattle.spec_text.proofs.laws.Pieces.{unknown_pieces, predicate_pieces, rule_pieces, asg_pieces, line_pieces, file_pieces}
use Rattle.spec_text.proofs.laws.Signs.{signs_of, said_signs, signs_append, line_signs, ended_signs, body_signs, headed_signs}

-- ---- parts of the grammar

-- the signs s are what the symbols k say, whatever follows them
abbrev Says : Symbols → List Sign → Type 0
Says k s = (z : List Sign) → Derives k (s ++ z) z

abbrev Is : Nonterminal → List Sign → Type 0
Is x s = Says (nt x end) s

-- more symbols behind a part
behind : {x : Nonterminal} {k : Symbols} {s t r : List Sign} → Derives (nt x end) s t → Derives k t r → Derives (nt x k) s r
behind (expand p d finish) e = expand p d e

-- parts one behind the other
several :
    {x : Nonterminal} {k : Symbols} {items : List (List Sign)} → Every (Is x) items → {t r : List Sign} → Derives k t r
    → Derives (many (nt x end) k) (joined items ++ t) r
several nil e = stop e
several {x} {k} (cons {x = i} {xs = is} d ds) {t} {r} e =
    subst (λ s. Derives (many (nt x end) k) s r) (sym (append_assoc i (joined is) t)) (repeat (d (joined is ++ t)) (several ds e))

-- at least one part
at_least_one :
    {x : Nonterminal} {k : Symbols} (items : List (List Sign)) → Every (Is x) items → nonempty items ≡ true → {t r : List Sign} → Derives k t r
    → Derives (nt x (many (nt x end) k)) (joined items ++ t) r
at_least_one [] ds h e = absurd (false≢true h)
at_least_one {x} {k} (i ∷ is) (cons d ds) h {t} {r} e =
    subst (λ s. Derives (nt x (many (nt x end) k)) s r) (sym (append_assoc i (joined is) t)) (behind (d (joined is ++ t)) (several ds e))

list_says : (r : Role) (s : List ℕ) (ss : List (List ℕ)) → Says (strings r) (signs_of (list_pieces r s ss))
list_says r s ss z = take (go ss)
  where
    go :
        (ts : List (List ℕ))
        → Derives (many (grammar.cm (grammar.STRING r end)) end) (signs_of (joined (map (λ t. cm ∷ string r t ∷ []) ts)) ++ z) z
    go [] = stop finish
    go (t ∷ ts) = repeat (take (take finish)) (go ts)

-- ---- a head and its body

headed_is :
    {x : Nonterminal} (head : List Piece) (ls : List (List Piece))
    → ((z : List Sign) → Derives (nt x end) (signs_of head ++ (body_signs ls ++ z)) z) → Is x (line_signs (headed_pieces head ls))
headed_is {x} head ls d z =
    subst (λ s. Derives (nt x end) s z) (sym (ap (λ s. s ++ z) (headed_signs head ls) ∙ append_assoc (signs_of head) (body_signs ls) z)) (d z)

-- a body that may be left out
body_says :
    {b : Nonterminal} {α : Symbols} → b ⟶ grammar.lb α → (ls : List (List Piece)) → (z : List Sign)
    → (nonempty ls ≡ true → Derives α (line_signs ls ++ (kind.CloseBrace tagged NoRole ∷ z)) z) → Derives (opt b end) (body_signs ls ++ z) z
body_says p [] z d = leave finish
body_says {α} p (l ∷ ls) z d =
    choose p
    (take (subst (λ s. Derives α s z) (sym (append_assoc (line_signs (l ∷ ls)) (kind.CloseBrace tagged NoRole ∷ []) z)) (d refl)))
    finish

-- ---- UAG / HAG groups

module _
    {d h b l : Nonterminal}
    (k : Kind)
    (n m : Role)
    (item : asconfig_item ⟶ nt d end)
    (definition : d ⟶ tm (k tagged NoRole) (nt h (opt b end)))
    (head : h ⟶ grammar.lp (grammar.STRING n (grammar.rp end)))
    (body : b ⟶ grammar.lb (nt l (grammar.rb end)))
    (list : l ⟶ strings m)
  where
    members_say :
        (ms : List (List ℕ)) (z : List Sign) → nonempty (member_pieces m ms) ≡ true
        → Derives (nt l (grammar.rb end)) (line_signs (member_pieces m ms) ++ (kind.CloseBrace tagged NoRole ∷ z)) z
    members_say [] z e = absurd (false≢true e)
    members_say (s ∷ ss) z e =
        expand list
        (subst
        (λ t. Derives (strings m) (t ++ (kind.CloseBrace tagged NoRole ∷ z)) (kind.CloseBrace tagged NoRole ∷ z))
        (sym (append-nil (signs_of (list_pieces m s ss))))
        (list_says m s ss (kind.CloseBrace tagged NoRole ∷ z)))
        (take finish)

    group_is : (w : List ℕ) (g : Group) → Is asconfig_item (line_signs (group_pieces k n m w g))
    group_is w g =
        headed_is (called_pieces (word k NoRole w) (string n g.name ∷ [])) (member_pieces m g.members)
        (λ z.
        expand item
        (expand definition
        (take (expand head (take (take (take finish))) (body_says body (member_pieces m g.members) z (members_say g.members z))))
        finish)
        finish)

uag_is : (g : Group) → Is asconfig_item (line_signs (uag_pieces g))
uag_is =
    group_is kind.Uag UagName User
    grammar.asconfig_item₁ grammar.uag_def₁ grammar.uag_head₁ grammar.uag_body₁ grammar.uag_user_list₁ (bytes "UAG")

hag_is : (g : Group) → Is asconfig_item (line_signs (hag_pieces g))
hag_is =
    group_is kind.Hag HagName Host
    grammar.asconfig_item₂ grammar.hag_def₁ grammar.hag_head₁ grammar.hag_body₁ grammar.hag_host_list₁ (bytes "HAG")

-- ---- RULE config

-- a line that is a predicate
abbrev Predicate : List Piece → Type 0
Predicate l = Is rule_list_item (signs_of l)

module _
    {l : Nonterminal}
    (k : Kind)
    (r : Role)
    (item : rule_list_item ⟶ tm (k tagged NoRole) (grammar.lp (nt l (grammar.rp end))))
    (list : l ⟶ strings r)
  where
    reference_is : (w : List ℕ) (ss : List (List ℕ)) → Every Predicate (reference_pieces (word k NoRole w) r ss)
    reference_is w [] = nil
    reference_is w (s ∷ ss) = cons (λ z. expand item (take (take (expand list (strings_say z) (take finish)))) finish) nil
      where
        strings_say : (z : List Sign) → Derives (strings r) (signs_of (list_pieces r s ss ++ (rp ∷ [])) ++ z) (kind.CloseParen tagged NoRole ∷ z)
        strings_say z =
            subst
            (λ t. Derives (strings r) t (kind.CloseParen tagged NoRole ∷ z))
            (sym
            (ap (λ t. t ++ z) (signs_append (list_pieces r s ss) (rp ∷ []))
            ∙ append_assoc (signs_of (list_pieces r s ss)) (kind.CloseParen tagged NoRole ∷ []) z))
            (list_says r s ss (kind.CloseParen tagged NoRole ∷ z))

calculation_is : (c : Option (List ℕ)) → Every Predicate (calculation_pieces c)
calculation_is none = nil
calculation_is (some s) = cons (λ z. expand grammar.rule_list_item₃ (take (take (take (take finish)))) finish) nil

unknown_is : (b : Bool) → Every Predicate (unknown_pieces b)
unknown_is false = nil
unknown_is true =
    cons
    (λ z.
    expand grammar.rule_list_item₄
    (expand grammar.rule_generic_block_elem₁
    (expand grammar.rule_generic_block_elem_name₂ (take finish) (expand grammar.generic_head₁ (take (take finish)) (leave finish))) finish)
    finish)
    nil

predicates_are : (r : RuleText) → Every Predicate (predicate_pieces r)
predicates_are r =
    every_append (reference_is kind.Uag UagNamed grammar.rule_list_item₁ grammar.rule_uag_list₁ (bytes "UAG") r.uags)
    (every_append (reference_is kind.Hag HagNamed grammar.rule_list_item₂ grammar.rule_hag_list₁ (bytes "HAG") r.hags)
    (every_append (calculation_is r.calculation) (unknown_is (switched_off r))))

-- "{" rule_list "}", if there is a predicate
predicates_say :
    (ls : List (List Piece)) → Every Predicate ls → (z : List Sign) → Derives (opt grammar.rule_body end) (body_signs ls ++ z) z
predicates_say ls ps z =
    body_says grammar.rule_body₁ ls z
    (λ h. expand grammar.rule_list₁ (at_least_one (map signs_of ls) (every_map signs_of ps) (nonempty_map signs_of ls ∙ h) finish) (take finish))

rule_is : (r : RuleText) → Is asg_body_item (line_signs (rule_pieces r))
rule_is r =
    headed_is (head_pieces r) (predicate_pieces r)
    (λ z.
    expand grammar.asg_body_item₂
    (expand grammar.rule_config₁
    (take
    (expand grammar.rule_head₁
    (take
    (expand grammar.rule_head_mandatory₁
    (take (take (take finish)))
    (take (expand grammar.rule_log_option₁ (take finish) (take finish)))))
    (predicates_say (predicate_pieces r) (predicates_are r) z)))
    finish)
    finish)

-- ---- ASG

link_is : (i : Link) → Is asg_body_item (signs_of (link_pieces i))
link_is i z = expand grammar.asg_body_item₁ (expand grammar.inp_config₁ (take (take (take (take finish)))) finish) finish

-- the items of an ASG
abbrev asg_items : List Link → List RuleText → List (List Sign)
asg_items is rs = map (λ i. signs_of (link_pieces i)) is ++ map (λ r. line_signs (rule_pieces r)) rs

asg_items_are : (is : List Link) (rs : List RuleText) → Every (Is asg_body_item) (asg_items is rs)
asg_items_are is rs =
    every_append (every_map (λ i. signs_of (link_pieces i)) (every link_is is)) (every_map (λ r. line_signs (rule_pieces r)) (every rule_is rs))

asg_items_joined :
    (is : List Link) (rs : List RuleText)
    → line_signs (map link_pieces is ++ joined (map rule_pieces rs)) ≡ joined (asg_items is rs)
asg_items_joined is rs =
    each_append signs_of (map link_pieces is) (joined (map rule_pieces rs))
    ∙ ap₂ (λ (a b : List Sign). a ++ b) (ap joined (map_map signs_of link_pieces is)) (joined_each signs_of rule_pieces rs)
    ∙ sym (joined_append (map (λ i. signs_of (link_pieces i)) is) (map (λ r. line_signs (rule_pieces r)) rs))

-- there is an item where there is a line
asg_items_some :
    (is : List Link) (rs : List RuleText) → nonempty (map link_pieces is ++ joined (map rule_pieces rs)) ≡ true → nonempty (asg_items is rs) ≡ true
asg_items_some [] [] h = absurd (false≢true h)
asg_items_some [] (r ∷ rs) h = refl
asg_items_some (i ∷ is) rs h = refl

asg_says :
    (is : List Link) (rs : List RuleText) (z : List Sign)
    → Derives (opt grammar.asg_body end) (body_signs (map link_pieces is ++ joined (map rule_pieces rs)) ++ z) z
asg_says is rs z =
    body_says grammar.asg_body₁ (map link_pieces is ++ joined (map rule_pieces rs)) z
    (λ h.
    subst
    (λ s. Derives (nt asg_body_item (many (nt asg_body_item end) (grammar.rb end))) (s ++ (kind.CloseBrace tagged NoRole ∷ z)) z)
    (sym (asg_items_joined is rs))
    (at_least_one (asg_items is rs) (asg_items_are is rs) (asg_items_some is rs h) (take finish)))

asg_is : (a : Asg) → Is asconfig_item (line_signs (asg_pieces a))
asg_is a =
    headed_is
    (called_pieces (word kind.Asg NoRole (bytes "ASG")) (string AsgName a.name ∷ []))
    (map link_pieces a.inputs ++ joined (map rule_pieces a.rules))
    (λ z.
    expand grammar.asconfig_item₃
    (expand grammar.asg_def₁
    (take (expand grammar.asg_head₁ (take (take (take finish))) (asg_says a.inputs a.rules z)))
    finish)
    finish)

-- ---- the file

abbrev items : File → List (List Sign)
items f =
    map (λ g. line_signs (uag_pieces g)) f.uags
    ++ (map (λ g. line_signs (hag_pieces g)) f.hags ++ map (λ a. line_signs (asg_pieces a)) f.asgs)

items_are : (f : File) → Every (Is asconfig_item) (items f)
items_are f =
    every_append
    (every_map (λ g. line_signs (uag_pieces g)) (every uag_is f.uags))
    (every_append
    (every_map (λ g. line_signs (hag_pieces g)) (every hag_is f.hags))
    (every_map (λ a. line_signs (asg_pieces a)) (every asg_is f.asgs)))

-- the signs of a file are those of its items
items_joined : (f : File) → signs_of (file_pieces f) ≡ joined (items f)
items_joined f =
    ended_signs (line_pieces f)
    ∙ rw (
      each_append signs_of,
      joined_each signs_of uag_pieces f.uags,
      each_append signs_of,
      joined_each signs_of hag_pieces f.hags,
      joined_each signs_of asg_pieces f.asgs,
      joined_append,
      joined_append,
    )

items_some : (f : File) → defines_nothing f ≡ false → nonempty (items f) ≡ true
items_some f = go f.uags f.hags f.asgs
  where
    go :
        (us hs : List Group) (gs : List Asg) → not (nonempty us || (nonempty hs || nonempty gs)) ≡ false
        → nonempty
        (map (λ g. line_signs (uag_pieces g)) us ++ (map (λ g. line_signs (hag_pieces g)) hs ++ map (λ a. line_signs (asg_pieces a)) gs)) ≡ true
    go [] [] [] h = absurd (false≢true (sym h))
    go [] [] (a ∷ gs) h = refl
    go [] (g ∷ hs) gs h = refl
    go (g ∷ us) hs gs h = refl

-- the tokens of a file that defines something are an acf_file, wherever they stand
pub derived_at : (f : File) → defines_nothing f ≡ false → (p : ℕ) → AcfFile (map sign (said_at p (file_pieces f)))
derived_at f h p =
    subst AcfFile
    (append-nil (joined (items f)) ∙ sym (said_signs p (file_pieces f) ∙ items_joined f))
    (expand grammar.acf_file₁ (expand grammar.asconfig₁ (at_least_one (items f) (items_are f) (items_some f h) finish) finish) finish)

pub derived : (f : File) → defines_nothing f ≡ false → AcfFile (map sign (said_at 0 (file_pieces f)))
derived f h = derived_at f h 0
