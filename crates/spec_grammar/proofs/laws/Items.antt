-- A file is its items, one behind the other, and the body of an ASG is its inputs and rules. What an item says stands behind its own name.
use Rattle.std.specs.Prelude.{◌≡◌, refl, Bool, true, ◌&&◌}
use Rattle.std.proofs.Common.{sym, ap, subst, ◌∙◌}
use mathlib.Core.List.{List, [], ◌∷◌, ◌++◌, map, append-nil, append_assoc, nil≢cons}
use Rattle.spec_lists.specs.Select.{all, joined}
use Rattle.spec_lists.proofs.laws.Both.{both}
use Rattle.spec_lists.specs.Every.{Every, nil, cons}
use Rattle.spec_lists.proofs.laws.Every.{every_implies}
use Rattle.spec_lists.proofs.laws.Joined.{map_map}
use Rattle.spec_grammar.specs.declared.Role.{Role}
use Rattle.spec_grammar.specs.declared.Role.TheVariants.{NoRole, UagName, User, HagName, Host, AsgName, Input, Pvname, RuleWord, UnknownItem}
use Rattle.spec_grammar.specs.Production.{Sign, Symbols, end, nt, many, Nonterminal, acf_file, asconfig_item, uag_def, hag_def, asg_def, asg_body_item}
use Rattle.spec_grammar.specs.Production.{inp_config, rule_config, generic_top_level_item, acf_file₁, asconfig₁, asconfig_item₁, asconfig_item₂}
use Rattle.spec_grammar.specs.Production.{asconfig_item₃, asconfig_item₄, uag_def₁, uag_head₁, hag_def₁, hag_head₁, asg_def₁, asg_head₁, asg_body₁}
use Rattle.spec_grammar.specs.Production.{asg_body_item₁, asg_body_item₂, inp_config₁, rule_config₁, generic_top_level_item₁, generic_top_level_item₂}
use Rattle.spec_grammar.specs.Production.{generic_top_level_item₃, Derives, finish, take, expand, leave, choose, stop, repeat}
use Rattle.spec_grammar.specs.Sentence.{Tagged, sign}
use Rattle.spec_grammar.proofs.laws.Roles.{one_of, one_of_all, role_of, rule_roles, asg_roles, derived_roles}

-- the tokens xs are an x of the grammar, all of them and no other
abbrev pub Is : Nonterminal → List Tagged → Type 0
Is x xs = Derives (nt x end) (map sign xs) []

-- what the tokens say, one by one
abbrev pub roles : List Tagged → List Role
roles = map (λ x. x.role)

roles_signs : (xs : List Tagged) → map role_of (map sign xs) ≡ roles xs
roles_signs = map_map role_of sign

-- ---- what is derived stands by itself

-- The signs s are some of their own and then r. The own ones are what the symbols k say, whatever follows them.
record Cut (k : Symbols) (s r : List Sign) : Type 0 where
  own : List Sign
  whole : s ≡ own ++ r
  derived : (z : List Sign) → Derives k (own ++ z) z

-- two that follow each other
both_cut :
    {j k l : Symbols} {s t r : List Sign} → ((u v w : List Sign) → Derives j u v → Derives k v w → Derives l u w)
    → Cut j s t → Cut k t r → Cut l s r
both_cut {j} {r = r} f a b =
    record {
      own = a.own ++ b.own;
      whole = a.whole ∙ (ap (λ z. a.own ++ z) b.whole ∙ sym (append_assoc a.own b.own r));
      derived =
          λ z. f _ _ _ (subst (λ y. Derives j y (b.own ++ z)) (sym (append_assoc a.own b.own z)) (a.derived (b.own ++ z))) (b.derived z);
    }

cut : {k : Symbols} {s r : List Sign} → Derives k s r → Cut k s r
cut finish = record { own = []; whole = refl; derived = λ z. finish }
cut (take {a = a} d) = let c = cut d in record { own = a ∷ c.own; whole = ap (λ z. a ∷ z) c.whole; derived = λ z. take (c.derived z) }
cut (expand p d e) = both_cut (λ u v w a b. expand p a b) (cut d) (cut e)
cut (leave d) = let c = cut d in record { own = c.own; whole = c.whole; derived = λ z. leave (c.derived z) }
cut (choose p d e) = both_cut (λ u v w a b. choose p a b) (cut d) (cut e)
cut (stop d) = let c = cut d in record { own = c.own; whole = c.whole; derived = λ z. stop (c.derived z) }
cut (repeat d e) = both_cut (λ u v w a b. repeat a b) (cut d) (cut e)

-- tokens whose signs are those of a and then those of b
record Divided (xs : List Tagged) (a b : List Sign) : Type 0 where
  own : List Tagged
  rest : List Tagged
  whole : xs ≡ own ++ rest
  own_signs : map sign own ≡ a
  rest_signs : map sign rest ≡ b

divided : (xs : List Tagged) (a b : List Sign) → map sign xs ≡ a ++ b → Divided xs a b
divided xs [] b e = record { own = []; rest = xs; whole = refl; own_signs = refl; rest_signs = e }
divided [] (c ∷ a) b e = absurd (nil≢cons e)
divided (x ∷ xs) (c ∷ a) b e =
    let d = divided xs a b cc in
    record { own = x ∷ d.own; rest = d.rest; whole = ap (λ z. x ∷ z) d.whole; own_signs = cc d.own_signs; rest_signs = d.rest_signs }

-- The tokens xs are any number of x, one behind the other, and then what the symbols k say.
record Several (x : Nonterminal) (k : Symbols) (r : List Sign) (xs : List Tagged) : Type 0 where
  items : List (List Tagged)
  rest : List Tagged
  whole : xs ≡ joined items ++ rest
  each : Every (Is x) items
  signs : List Sign
  spelled : map sign rest ≡ signs
  derived : Derives k signs r

several :
    {x : Nonterminal} {k : Symbols} {r : List Sign} (xs : List Tagged) {s : List Sign} → map sign xs ≡ s → Derives (many (nt x end) k) s r
    → Several x k r xs
several xs {s = s} e (stop d) = record { items = []; rest = xs; whole = refl; each = nil; signs = s; spelled = e; derived = d }
several {x} xs e (repeat {t = t} d m) =
    let c = cut d in
    let v = divided xs c.own t (e ∙ c.whole) in
    let o = several v.rest v.rest_signs m in
    record {
      items = v.own ∷ o.items;
      rest = o.rest;
      whole = v.whole ∙ (ap (λ z. v.own ++ z) o.whole ∙ sym (append_assoc v.own (joined o.items) o.rest));
      each = cons (subst (λ z. Derives (nt x end) z []) (append-nil c.own ∙ sym v.own_signs) (c.derived [])) o.each;
      signs = o.signs;
      spelled = o.spelled;
      derived = o.derived;
    }

-- ---- a file is its items

-- the items of a file, each an asconfig_item of 001 by itself
pub record FileItems (xs : List Tagged) : Type 0 where
  pub items : List (List Tagged)
  pub whole : joined items ≡ xs
  pub each : Every (Is asconfig_item) items

pub file_items : (xs : List Tagged) → Is acf_file xs → FileItems xs
file_items xs = go (map sign xs) refl
  where
    no_more : (ys : List Tagged) → map sign ys ≡ [] → ys ≡ []
    no_more [] e = refl
    no_more (y ∷ ys) e = absurd (nil≢cons (sym e))

    ended : Several asconfig_item end [] xs → FileItems xs
    ended o = close o.signs o.spelled o.derived
      where
        close : (z : List Sign) → map sign o.rest ≡ z → Derives end z [] → FileItems xs
        close z e finish =
            record {
              items = o.items;
              whole = sym (o.whole ∙ (ap (λ z. joined o.items ++ z) (no_more o.rest e) ∙ append-nil (joined o.items)));
              each = o.each;
            }

    go : (s : List Sign) → map sign xs ≡ s → Derives (nt acf_file end) s [] → FileItems xs
    go s e (expand acf_file₁ (expand asconfig₁ (expand p d m) finish) finish) = ended (several xs e (repeat (expand p d finish) m))

-- ---- what an item says

-- Tokens that say nothing, then one that says h, and behind it tokens that say nothing or one of rs.
pub data Headed (h : Role) (rs : List Role) : List Role → Type 0 where
  before : {r : Role} {s : List Role} → r ≡ NoRole → Headed h rs s → Headed h rs (r ∷ s)
  head : {r : Role} {s : List Role} → r ≡ h → Every (λ z. one_of (NoRole ∷ rs) z ≡ true) s → Headed h rs (r ∷ s)

-- what passes for all that may be said passes for what is said
pub headed_all :
    (q : Role → Bool) {h : Role} {rs s : List Role} → all q (NoRole ∷ h ∷ rs) ≡ true → Headed h rs s → Every (λ r. q r ≡ true) s
headed_all q {h} {rs} w (before e d) =
    cons (subst (λ r. q r ≡ true) (sym e) (both (q NoRole) (q h && all q rs) w).0) (headed_all q w d)
headed_all q {h} {rs} w (head e v) =
    let m = both (q NoRole) (q h && all q rs) w in
    let n = both (q h) (all q rs) m.1 in
    cons (subst (λ r. q r ≡ true) (sym e) n.0) (every_implies (λ r o. one_of_all q (NoRole ∷ rs) r o (rw m.0 n.1)) v)

-- what an item of a file says: a UAG, a HAG, an ASG or an unknown item
pub data Item (xs : List Tagged) : Type 0 where
  user_group : Is uag_def xs → Headed UagName (User ∷ []) (roles xs) → Item xs
  host_group : Is hag_def xs → Headed HagName (Host ∷ []) (roles xs) → Item xs
  access_group : Is asg_def xs → Headed AsgName asg_roles (roles xs) → Item xs
  unknown : Is generic_top_level_item xs → Headed UnknownItem [] (roles xs) → Item xs

-- what an item of an ASG says: an INP or a RULE
pub data AsgItem (xs : List Tagged) : Type 0 where
  input : Is inp_config xs → Headed Input (Pvname ∷ []) (roles xs) → AsgItem xs
  rule : Is rule_config xs → Headed RuleWord rule_roles (roles xs) → AsgItem xs

-- the tokens xs have the signs s, and s has a property of what it says
from_signs : (P : List Role → Type 0) (xs : List Tagged) {s : List Sign} → map sign xs ≡ s → P (map role_of s) → P (roles xs)
from_signs P xs e h = subst P (ap (map role_of) (sym e) ∙ roles_signs xs) h

headed_user_group : {s : List Sign} → Derives (nt uag_def end) s [] → Headed UagName (User ∷ []) (map role_of s)
headed_user_group (expand uag_def₁ (take (expand uag_head₁ (take (take (take finish))) b)) finish) =
    before refl (before refl (head refl (cons refl (derived_roles _ b refl nil))))

headed_host_group : {s : List Sign} → Derives (nt hag_def end) s [] → Headed HagName (Host ∷ []) (map role_of s)
headed_host_group (expand hag_def₁ (take (expand hag_head₁ (take (take (take finish))) b)) finish) =
    before refl (before refl (head refl (cons refl (derived_roles _ b refl nil))))

headed_access_group : {s : List Sign} → Derives (nt asg_def end) s [] → Headed AsgName asg_roles (map role_of s)
headed_access_group (expand asg_def₁ (take (expand asg_head₁ (take (take (take finish))) b)) finish) =
    before refl (before refl (head refl (cons refl (derived_roles _ b refl nil))))

headed_unknown : {s : List Sign} → Derives (nt generic_top_level_item end) s [] → Headed UnknownItem [] (map role_of s)
headed_unknown (expand generic_top_level_item₁ (take d) finish) = head refl (derived_roles _ d refl nil)
headed_unknown (expand generic_top_level_item₂ (take d) finish) = head refl (derived_roles _ d refl nil)
headed_unknown (expand generic_top_level_item₃ (take d) finish) = head refl (derived_roles _ d refl nil)

headed_input : {s : List Sign} → Derives (nt inp_config end) s [] → Headed Input (Pvname ∷ []) (map role_of s)
headed_input (expand inp_config₁ (take d) finish) = head refl (derived_roles _ d refl nil)

headed_rule : {s : List Sign} → Derives (nt rule_config end) s [] → Headed RuleWord rule_roles (map role_of s)
headed_rule (expand rule_config₁ (take d) finish) = head refl (derived_roles _ d refl nil)

-- every item of a file is one of these
pub item : (xs : List Tagged) → Is asconfig_item xs → Item xs
item xs (expand asconfig_item₁ d finish) = user_group d (from_signs (Headed _ _) xs refl (headed_user_group d))
item xs (expand asconfig_item₂ d finish) = host_group d (from_signs (Headed _ _) xs refl (headed_host_group d))
item xs (expand asconfig_item₃ d finish) = access_group d (from_signs (Headed _ _) xs refl (headed_access_group d))
item xs (expand asconfig_item₄ d finish) = unknown d (from_signs (Headed _ _) xs refl (headed_unknown d))

-- every item of an ASG is one of these
pub asg_item : (xs : List Tagged) → Is asg_body_item xs → AsgItem xs
asg_item xs (expand asg_body_item₁ d finish) = input d (from_signs (Headed _ _) xs refl (headed_input d))
asg_item xs (expand asg_body_item₂ d finish) = rule d (from_signs (Headed _ _) xs refl (headed_rule d))

-- ---- an ASG is its name, and between its braces its inputs and rules

-- the items of an ASG, each an asg_body_item of 001 by itself
pub record AsgItems (xs : List Tagged) : Type 0 where
  -- the ASG word, the name and the opening brace
  pub opening : List Tagged
  pub items : List (List Tagged)
  -- the closing brace
  pub closing : List Tagged
  pub whole : xs ≡ opening ++ (joined items ++ closing)
  pub opened : Headed AsgName [] (roles opening)
  pub each : Every (Is asg_body_item) items
  pub closed : Every (λ r. one_of (NoRole ∷ []) r ≡ true) (roles closing)

pub asg_items : (xs : List Tagged) → Is asg_def xs → AsgItems xs
asg_items xs = go (map sign xs) refl
  where
    go : (s : List Sign) → map sign xs ≡ s → Derives (nt asg_def end) s [] → AsgItems xs
    go s e (expand asg_def₁ (take (expand asg_head₁ (take (take (take finish))) (leave finish))) finish) =
        record {
          opening = xs;
          items = [];
          closing = [];
          whole = sym (append-nil xs);
          opened = from_signs (Headed AsgName []) xs e (before refl (before refl (head refl (cons refl nil))));
          each = nil;
          closed = nil;
        }
    go s e (expand asg_def₁ (take (expand asg_head₁ (take (take (take finish))) (choose asg_body₁ (take {s = t} (expand p d m)) finish))) finish) =
        let v = divided xs (_ ∷ _ ∷ _ ∷ _ ∷ _ ∷ []) t e in
        let o = several v.rest v.rest_signs (repeat (expand p d finish) m) in
        record {
          opening = v.own;
          items = o.items;
          closing = o.rest;
          whole = v.whole ∙ ap (λ z. v.own ++ z) o.whole;
          opened = from_signs (Headed AsgName []) v.own v.own_signs (before refl (before refl (head refl (cons refl (cons refl nil)))));
          each = o.each;
          closed = from_signs (Every (λ r. one_of (NoRole ∷ []) r ≡ true)) o.rest o.spelled (derived_roles _ o.derived refl nil);
        }
