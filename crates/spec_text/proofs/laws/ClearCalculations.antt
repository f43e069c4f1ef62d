-- The cause of 10: every calculation of the text is one, and each of its letters has an input before it in its ASG.
use Rattle.std.specs.Prelude.{◌≡◌, refl, Bool, true, false, not, ◌&&◌, ◌||◌, List, [], ◌∷◌, ◌++◌, map, ℕ, eqb}
use Rattle.std.proofs.Common.{sym, ap, ◌∙◌}
use Rattle.std.proofs.Math.Bool.{or-true}
use Rattle.std.proofs.lemmas.Bool.{false≢true}
use Rattle.std.proofs.Math.Option.{Option, none, some}
use Rattle.spec_lists.specs.Select.{any, select, prepend_if, joined, holds_of}
use Rattle.spec_lists.specs.Every.{Every, nil, cons}
use Rattle.spec_lists.proofs.laws.Any.{any_append, or_between}
use Rattle.spec_lists.proofs.laws.Every.{every_append, every_implies, every_map, every_joined, every_all, all_every}
use Rattle.spec_lists.proofs.laws.Joined.{map_map, map_append}
use Rattle.spec_calc.specs.Expression.{Tree}
use Rattle.spec_calc.specs.Value.{letters}
use Rattle.spec_calc.specs.Reader.{tree_of}
use Rattle.spec_token.specs.Word.{link_letter}
use Rattle.spec_grammar.specs.declared.Role.TheVariants.{AsgName, Input, Pvname, UagNamed, HagNamed, Calculation}
use Rattle.spec_grammar.specs.Sentence.{Tagged}
use Rattle.spec_file.specs.Contents.{has_role, text, texts, until, Link, RuleText, Asg, File}
use Rattle.spec_file.specs.Meaning.{switched_off}
use Rattle.spec_file.specs.Refusal.{Context, contexts, letters_given, letters_among}
use Rattle.spec_file.specs.Load.{bad_calculation}
use Rattle.spec_text.specs.Lines.{link_word}
use Rattle.spec_text.specs.Faults.{calculation_faulty, letters_of}
use Rattle.spec_text.proofs.laws.Pieces.{said_at, file_pieces}
use Rattle.spec_text.proofs.laws.ClearFaults.{RuleSound, AsgSound, Sound}
use Rattle.spec_text.proofs.laws.Sayings.{saying, link_sayings, calculation_sayings, rule_sayings, rules_sayings, asg_sayings, file_sayings}
use Rattle.spec_text.proofs.laws.Words.{letter_back}
use Rattle.spec_text.proofs.laws.Heard.{texts_says, until_says}
use Rattle.spec_text.proofs.laws.Roles.{is, Without, rule_without, strings_without, unknown_without, each_without, texts_append}
use Rattle.spec_text.proofs.laws.ClearContexts.{Onward, end, next, Respects, in_text, file_onward}

-- ---- more letters

-- a token is a calculation that is none, or has a letter that is not given
abbrev disallowed : List ℕ → Tagged → Bool
disallowed given x = has_role Calculation x && not (holds_of (tree_of (text x)) (letters_among given))

-- the letters of ls are among those given
abbrev Given : List ℕ → List ℕ → Type 0
Given ls given = (i : ℕ) → any (eqb i) ls ≡ true → any (eqb i) given ≡ true

allowed_by_more : (ls given : List ℕ) → Given ls given → (x : Tagged) → disallowed ls x ≡ false → disallowed given x ≡ false
allowed_by_more ls given g x = go (has_role Calculation x) (tree_of (text x))
  where
    more : (t : Tree) → letters_among ls t ≡ true → letters_among given t ≡ true
    more t e = every_all (λ i. any (eqb i) given) (every_implies g (all_every (λ i. any (eqb i) ls) (letters t) e))

    with_tree : (t : Tree) (b : Bool) → letters_among ls t ≡ b → not b ≡ false → not (letters_among given t) ≡ false
    with_tree t true e h = rw (more t e)
    with_tree t false e h = absurd (false≢true (sym h))

    go : (h : Bool) (o : Option Tree) → h && not (holds_of o (letters_among ls)) ≡ false → h && not (holds_of o (letters_among given)) ≡ false
    go false o e = refl
    go true none e = e
    go true (some t) e = with_tree t (letters_among ls t) refl e

-- ---- a calculation whose letters have an input before it

abbrev letters_before : List Tagged → List ℕ
letters_before b = map link_letter (texts Input (until AsgName b))

abbrev Allowed : List Tagged → Tagged → Type 0
Allowed b x = disallowed (letters_before b) x ≡ false

allowed_respects : Respects Allowed
allowed_respects =
    record {
      quiet = λ b x e. rw e;
      heard = λ b d x y s e t q. rw (e, t, texts_says Input refl (until_says AsgName refl s)) q;
    }

-- those behind it do not matter
allowed_not_bad : (c : Context) → Allowed c.backwards c.here → bad_calculation c ≡ false
allowed_not_bad c = allowed_by_more (letters_before c.backwards) (letters_given c) more c.here
  where
    behind : List Tagged
    behind = until AsgName c.onwards

    both : letters_given c ≡ letters_before c.backwards ++ map link_letter (texts Input behind)
    both =
        sym (map_map link_letter text (select (has_role Input) (until AsgName c.backwards ++ behind)))
        ∙ (ap (map link_letter) (texts_append Input (until AsgName c.backwards) behind)
        ∙ map_append link_letter (texts Input (until AsgName c.backwards)) (texts Input behind))

    more : Given (letters_before c.backwards) (letters_given c)
    more i e =
        ap (any (eqb i)) both
        ∙ (any_append (eqb i) (letters_before c.backwards) (map link_letter (texts Input behind)) ∙ rw e)

-- ---- the tokens of an ASG

-- what is before grows
given_on : (ls : List ℕ) (b : List Tagged) (x : Tagged) → has_role AsgName x ≡ false → Given ls (letters_before b) → Given ls (letters_before (x ∷ b))
given_on ls b x e g i h = rw e (go (has_role Input x))
  where
    go : (t : Bool) → any (eqb i) (map link_letter (map text (prepend_if t x (select (has_role Input) (until AsgName b))))) ≡ true
    go true = rw (g i h) (or-true (eqb i (link_letter (text x))))
    go false = g i h

-- the tokens behind the inputs
rules_onward :
    (ls : List ℕ) (b xs : List Tagged) → Given ls (letters_before b) → Without (is AsgName) xs → Every (λ x. disallowed ls x ≡ false) xs → Onward Allowed b xs
rules_onward ls b [] g w c = end
rules_onward ls b (x ∷ xs) g (cons e w) (cons h c) =
    next (allowed_by_more ls (letters_before b) g x h) (rules_onward ls (x ∷ b) xs (given_on ls b x e g) w c)

-- d has the letters ls besides those of b
abbrev Besides : List ℕ → List Tagged → List Tagged → Type 0
Besides ls b d = (i : ℕ) → any (eqb i) ls || any (eqb i) (letters_before b) ≡ true → any (eqb i) (letters_before d) ≡ true

-- the inputs, and what follows where their letters are given
links_onward :
    (is : List Link) (b ys : List Tagged) → ((d : List Tagged) → Besides (map (λ l. l.letter) is) b d → Onward Allowed d ys)
    → Onward Allowed b (joined (map link_sayings is) ++ ys)
links_onward [] b ys k = k b (λ i h. h)
links_onward (l ∷ is) b ys k =
    next refl
    (next refl
    (links_onward is (saying Pvname l.name ∷ saying Input (link_word l.letter) ∷ b) ys
    (λ d g. k d (λ i h. g i (rw (letter_back l.letter) (moved i ∙ h))))))
  where
    moved :
        (i : ℕ)
        → any (eqb i) (map (λ m. m.letter) is) || (eqb i l.letter || any (eqb i) (letters_before b))
        ≡ (eqb i l.letter || any (eqb i) (map (λ m. m.letter) is)) || any (eqb i) (letters_before b)
    moved i = sym (or_between (any (eqb i) (map (λ m. m.letter) is)) (eqb i l.letter) (any (eqb i) (letters_before b)))

rule_allowed : (f : File) (given : List ℕ) (r : RuleText) → RuleSound f given r → Every (λ x. disallowed given x ≡ false) (rule_sayings r)
rule_allowed f given r k =
    cons refl
    (cons refl
    (cons refl
    (cons refl
    (every_append (every_implies v (strings_without (is Calculation) UagNamed refl r.uags))
    (every_append (every_implies v (strings_without (is Calculation) HagNamed refl r.hags))
    (every_append (calculation r.calculation k.calculation) (every_implies v (unknown_without (is Calculation) refl (switched_off r)))))))))
  where
    v : (x : Tagged) → has_role Calculation x ≡ false → disallowed given x ≡ false
    v x e = rw e

    calculation : (o : Option (List ℕ)) → calculation_faulty given o ≡ false → Every (λ x. disallowed given x ≡ false) (calculation_sayings o)
    calculation none e = nil
    calculation (some s) e = cons refl (cons e nil)

asg_onward : (f : File) (a : Asg) → AsgSound f a → (b : List Tagged) → Onward Allowed b (asg_sayings a)
asg_onward f a k b =
    next refl
    (links_onward a.inputs (saying AsgName a.name ∷ b) (rules_sayings a)
    (λ d g.
    rules_onward (letters_of a) d (rules_sayings a) (λ i h. g i (rw h))
    (each_without (is AsgName) rule_sayings (rule_without (is AsgName) refl refl) a.rules)
    (every_joined (every_map rule_sayings (every_implies (rule_allowed f (letters_of a)) k.rules)))))

pub no_bad_calculation : (f : File) (p : ℕ) → Sound f → Every (λ c. bad_calculation c ≡ false) (contexts (said_at p (file_pieces f)))
no_bad_calculation f p k = every_implies allowed_not_bad (in_text allowed_respects f p all)
  where
    all : Onward Allowed [] (file_sayings f)
    all = file_onward Calculation (λ x e b. rw e) refl refl refl refl f (every_implies (asg_onward f) k.each)
