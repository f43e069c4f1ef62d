-- The causes of 7: no group of the text has the name of another, no ASG has a letter twice, no rule a second CALC.
use Rattle.std.specs.Prelude.{◌≡◌, refl, Bool, true, false, ◌&&◌, ◌||◌, List, [], ◌∷◌, ◌++◌, map, ℕ}
use Rattle.std.proofs.Common.{sym, ap, ap₂, ◌∙◌, append-nil}
use Rattle.std.proofs.lemmas.Bool.{false≢true}
use Rattle.std.proofs.Math.Option.{Option, none, some}
use Rattle.spec_lists.specs.Text.{same}
use Rattle.spec_lists.specs.Select.{any, select, prepend_if}
use Rattle.spec_lists.specs.Every.{Every, nil, cons}
use Rattle.spec_lists.proofs.laws.Any.{any_none}
use Rattle.spec_lists.proofs.laws.Both.{neither}
use Rattle.spec_lists.proofs.laws.Every.{every, every_implies, every_both}
use Rattle.spec_lists.proofs.laws.Joined.{map_map}
use Rattle.spec_grammar.specs.declared.Role.{Role}
use Rattle.spec_grammar.specs.declared.Role.TheVariants.{NoRole, UagName, User, HagName, Host, AsgName, Input, RuleWord, UagNamed, HagNamed}
use Rattle.spec_grammar.specs.declared.Role.TheVariants.{CalcWord}
use Rattle.spec_grammar.specs.Codes.{same_role}
use Rattle.spec_grammar.specs.Sentence.{Tagged}
use Rattle.spec_file.specs.Contents.{has_role, text, texts, until, Clause, clauses, RuleText, Asg, File}
use Rattle.spec_file.specs.Meaning.{switched_off}
use Rattle.spec_file.specs.Refusal.{Context, contexts, duplicates, given_again}
use Rattle.spec_file.proofs.laws.Clauses.{named_by}
use Rattle.spec_file.proofs.laws.Counted.{role_is}
use Rattle.spec_file.proofs.laws.ItemClauses.{group}
use Rattle.spec_text.specs.Lines.{link_word}
use Rattle.spec_text.specs.Faults.{repeated, letters_of}
use Rattle.spec_text.proofs.laws.Pieces.{said_at, file_pieces}
use Rattle.spec_text.proofs.laws.Keeps.{AsgNamed}
use Rattle.spec_text.proofs.laws.Unplaced.{unplaced_asg}
use Rattle.spec_text.proofs.laws.ClearFaults.{AsgSound, Sound}
use Rattle.spec_text.proofs.laws.Words.{repeated_letters}
use Rattle.spec_text.proofs.laws.Sayings.{Says, saying, link_sayings, calculation_sayings, head_sayings, predicate_sayings, rule_sayings}
use Rattle.spec_text.proofs.laws.Sayings.{links_sayings, rules_sayings, asg_sayings, file_sayings}
use Rattle.spec_text.proofs.laws.Heard.{texts_says, until_says, unplaced_asg_of}
use Rattle.spec_text.proofs.laws.Roles.{is, link_without, body_without, rule_without, each_without, asg_without, texts_none, texts_append}
use Rattle.spec_text.proofs.laws.Roles.{texts_each, predicate_texts, no_strings, no_unknown}
use Rattle.spec_text.proofs.laws.Says.{uags_back, hags_back, asgs_back}
use Rattle.spec_text.proofs.laws.ClearContexts.{Onward, end, next, Respects, every_onward, onward_append, onward_joined, in_text, file_onward}

-- one of some texts is u
abbrev given_in : List ℕ → List (List ℕ) → Bool
given_in u ts = any (λ t. same t u) ts

-- ---- a token that repeats no text of its role in a part of what is before it

module _ (q : Role) (part : List Tagged → List Tagged) where
  abbrev pub Once : List Tagged → Tagged → Type 0
  Once b x = has_role q x && given_in (text x) (texts q (part b)) ≡ false

  once_respects : same_role NoRole q ≡ false → ((b d : List Tagged) → Says b d → Says (part b) (part d)) → Respects Once
  once_respects m f =
      record {
        quiet = λ b x e. rw (e, m);
        heard = λ b d x y s e t h. rw (e, t, texts_says q m (f b d s)) h;
      }

  -- a token of another role
  no_once : (x : Tagged) → has_role q x ≡ false → (b : List Tagged) → Once b x
  no_once x e b = rw e

  -- where the part grows with each of the tokens, and neither it nor they have a text twice
  module _ (splits : Tagged → Bool) (grows : (x : Tagged) (b : List Tagged) → splits x ≡ false → part (x ∷ b) ≡ x ∷ part b) where
    once_each :
        (b xs : List Tagged) → Every (λ x. splits x ≡ false) xs → Every (λ u. given_in u (texts q (part b)) ≡ false) (texts q xs)
        → repeated same (texts q xs) ≡ false
        → Onward Once b xs
    once_each b [] w n r = end
    once_each b (x ∷ xs) (cons s w) n r = go (has_role q x) refl n r (once_each (x ∷ b) xs w)
      where
        grown : (i : Bool) → has_role q x ≡ i → texts q (part (x ∷ b)) ≡ map text (prepend_if i x (select (has_role q) (part b)))
        grown i h = rw (grows x b s, h)

        also : (u : List ℕ) → same (text x) u ≡ false → given_in u (texts q (part b)) ≡ false → given_in u (text x ∷ texts q (part b)) ≡ false
        also u a c = rw (a, c)

        go :
            (i : Bool) → has_role q x ≡ i
            → Every (λ u. given_in u (texts q (part b)) ≡ false) (map text (prepend_if i x (select (has_role q) xs)))
            → repeated same (map text (prepend_if i x (select (has_role q) xs))) ≡ false
            → (Every (λ u. given_in u (texts q (part (x ∷ b))) ≡ false) (texts q xs) → repeated same (texts q xs) ≡ false → Onward Once (x ∷ b) xs)
            → Onward Once b (x ∷ xs)
        go true h (cons k n) r f =
            let z = neither (any (same (text x)) (texts q xs)) (repeated same (texts q xs)) r in
            next
            {b = b}
            {x = x}
            (rw h k)
            (f (rw (grown true h) (every_both also (any_none (same (text x)) (texts q xs) z.0) n)) z.1)
        go false h n r f = next {b = b} {x = x} (rw h) (f (rw (grown false h) n) r)

-- then it is no duplicate
once_no_duplicate :
    (q : Role) (xs : List Tagged) (c : Context) → has_role q c.here && given_in (text c.here) (texts q xs) ≡ false → duplicates q xs c ≡ false
once_no_duplicate q xs c = go (has_role q c.here) refl
  where
    u : List ℕ
    u = text c.here

    over :
        (ys : List Tagged) → has_role q c.here ≡ true → given_in u (texts q ys) ≡ false
        → any (λ x. has_role x.role c.here && same (text x) u) ys ≡ false
    over [] h n = refl
    over (x ∷ ys) h n = step (has_role q x) refl (has_role x.role c.here) refl n (over ys h)
      where
        step :
            (i : Bool) → has_role q x ≡ i → (j : Bool) → has_role x.role c.here ≡ j
            → given_in u (map text (prepend_if i x (select (has_role q) ys))) ≡ false
            → (given_in u (texts q ys) ≡ false → any (λ y. has_role y.role c.here && same (text y) u) ys ≡ false)
            → (j && same (text x) u) || any (λ y. has_role y.role c.here && same (text y) u) ys ≡ false
        step true e true k n ih = let z = neither (same (text x) u) (given_in u (texts q ys)) n in rw z.0 (ih z.1)
        step true e false k n ih = ih (neither (same (text x) u) (given_in u (texts q ys)) n).1
        step false e false k n ih = ih n
        step false e true k n ih =
            absurd (false≢true (sym e ∙ (ap (λ (r : Role). same_role r q) (sym (role_is x.role c.here k)) ∙ h)))

    go :
        (i : Bool) → has_role q c.here ≡ i → i && given_in u (texts q xs) ≡ false
        → i && any (λ x. has_role x.role c.here && same (text x) u) xs ≡ false
    go true h n = over xs h n
    go false h n = refl

-- ---- names

-- all that is before
abbrev whole : List Tagged → List Tagged
whole b = b

names_once : (q : Role) (f : File) (ns : List (List ℕ)) → texts q (file_sayings f) ≡ ns → repeated same ns ≡ false → Onward (Once q whole) [] (file_sayings f)
names_once q f ns e r =
    once_each q whole (λ x. false) (λ x b h. refl) [] (file_sayings f)
    (every (λ x. refl) (file_sayings f))
    (every (λ u. refl) (texts q (file_sayings f)))
    (rw e r)

-- ---- letters

-- the texts of the INP words
asg_letters : (a : Asg) → texts Input (links_sayings a ++ rules_sayings a) ≡ map link_word (letters_of a)
asg_letters a =
    texts_append Input (links_sayings a) (rules_sayings a)
    ∙ (ap₂ (λ (s t : List (List ℕ)). s ++ t)
    (texts_each Input link_sayings (λ i. link_word i.letter) (λ i. refl) a.inputs)
    (texts_none Input (each_without (is Input) rule_sayings (rule_without (is Input) refl refl) a.rules))
    ∙ (append-nil (map (λ i. link_word i.letter) a.inputs) ∙ sym (map_map link_word (λ i. i.letter) a.inputs)))

-- back to the last token of the role r
since : (r : Role) (x : Tagged) (b : List Tagged) → has_role r x ≡ false → until r (x ∷ b) ≡ x ∷ until r b
since r x b e = rw e

asg_once : (f : File) (a : Asg) → AsgSound f a → (b : List Tagged) → Onward (Once Input (until AsgName)) b (asg_sayings a)
asg_once f a k b =
    next refl
    (once_each Input (until AsgName) (has_role AsgName) (since AsgName)
    (saying AsgName a.name ∷ b) (links_sayings a ++ rules_sayings a)
    (asg_without (is AsgName) refl a)
    (every (λ u. refl) (texts Input (links_sayings a ++ rules_sayings a)))
    (rw (asg_letters a, repeated_letters (letters_of a)) k.letters))

letters_once : (f : File) → Sound f → Onward (Once Input (until AsgName)) [] (file_sayings f)
letters_once f k = file_onward Input (no_once Input (until AsgName)) refl refl refl refl f (every_implies (asg_once f) k.each)

-- ---- CALC

rule_calcs : (r : RuleText) → texts CalcWord (head_sayings r ++ predicate_sayings r) ≡ texts CalcWord (calculation_sayings r.calculation)
rule_calcs r =
    predicate_texts CalcWord r (no_strings CalcWord UagNamed refl r.uags) (no_strings CalcWord HagNamed refl r.hags) refl
    (no_unknown CalcWord refl (switched_off r))
    ∙ append-nil (texts CalcWord (calculation_sayings r.calculation))

rule_once : (r : RuleText) (b : List Tagged) → Onward (Once CalcWord (until RuleWord)) b (rule_sayings r)
rule_once r b =
    next refl
    (once_each CalcWord (until RuleWord) (has_role RuleWord) (since RuleWord)
    (saying RuleWord _ ∷ b) (head_sayings r ++ predicate_sayings r)
    (body_without (is RuleWord) refl r)
    (every (λ u. refl) (texts CalcWord (head_sayings r ++ predicate_sayings r)))
    (rw (rule_calcs r) (one r.calculation)))
  where
    one : (o : Option (List ℕ)) → repeated same (texts CalcWord (calculation_sayings o)) ≡ false
    one none = refl
    one (some s) = refl

calcs_once : (f : File) → Onward (Once CalcWord (until RuleWord)) [] (file_sayings f)
calcs_once f =
    file_onward CalcWord (no_once CalcWord (until RuleWord)) refl refl refl refl f
    (every (λ a b. next refl (in_asg a (saying AsgName a.name ∷ b))) f.asgs)
  where
    in_asg : (a : Asg) (b : List Tagged) → Onward (Once CalcWord (until RuleWord)) b (links_sayings a ++ rules_sayings a)
    in_asg a b =
        onward_append
        (every_onward b (every_implies (no_once CalcWord (until RuleWord)) (each_without (is CalcWord) link_sayings (link_without (is CalcWord) refl refl) a.inputs)))
        (onward_joined rule_sayings (every rule_once a.rules))

-- ---- all of them

module _ (f : File) (p : ℕ) where
  abbrev all_contexts : List Context
  all_contexts = contexts (said_at p (file_pieces f))

  never :
      (q : Role) (part : List Tagged → List Tagged) → same_role NoRole q ≡ false → ((b d : List Tagged) → Says b d → Says (part b) (part d))
      → Onward (Once q part) [] (file_sayings f) → Every (λ c. duplicates q (part c.backwards) c ≡ false) all_contexts
  never q part m s o = every_implies (λ c e. once_no_duplicate q (part c.backwards) c e) (in_text (once_respects q part m s) f p o)

  together :
      {cs : List Context}
      → Every (λ c. duplicates UagName c.backwards c ≡ false) cs
      → Every (λ c. duplicates HagName c.backwards c ≡ false) cs
      → Every (λ c. duplicates AsgName c.backwards c ≡ false) cs
      → Every (λ c. duplicates Input (until AsgName c.backwards) c ≡ false) cs
      → Every (λ c. duplicates CalcWord (until RuleWord c.backwards) c ≡ false) cs
      → Every (λ c. given_again c ≡ false) cs
  together nil nil nil nil nil = nil
  together (cons {x = c} u us) (cons h hs) (cons a rest) (cons l ls) (cons d ds) = cons {x = c} (rw (u, h, a, l, d)) (together us hs rest ls ds)

  pub nothing_again : Sound f → Every AsgNamed f.asgs → Every (λ c. given_again c ≡ false) all_contexts
  nothing_again k n =
      together
      (never UagName whole refl (λ b d s. s) (names_once UagName f _ (named UagName (group User) (λ g. g.name) (λ c. refl) (uags_back f)) k.uags))
      (never HagName whole refl (λ b d s. s) (names_once HagName f _ (named HagName (group Host) (λ g. g.name) (λ c. refl) (hags_back f)) k.hags))
      (never AsgName whole refl (λ b d s. s) (names_once AsgName f _ asgs k.asgs))
      (never Input (until AsgName) refl (λ b d s. until_says AsgName refl s) (letters_once f k))
      (never CalcWord (until RuleWord) refl (λ b d s. until_says RuleWord refl s) (calcs_once f))
    where
      named :
          {A : Type 0} (q : Role) (g : Clause → A) (name : A → List ℕ) → ((c : Clause) → name (g c) ≡ text c.head) → {bs : List A}
          → map g (clauses q (file_sayings f)) ≡ bs → texts q (file_sayings f) ≡ map name bs
      named q g name e b = sym (named_by q g name e (file_sayings f)) ∙ ap (map name) b

      asgs : texts AsgName (file_sayings f) ≡ map (λ a. a.name) f.asgs
      asgs = named AsgName unplaced_asg_of (λ a. a.name) (λ c. refl) (asgs_back f n) ∙ map_map (λ a. a.name) unplaced_asg f.asgs
