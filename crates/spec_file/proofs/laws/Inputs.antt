-- In an acceptable file each letter of a rule's calculation has an input in the rule's access group. 01: "Every letter used must have an INP in the ASG, before
-- or after the rule". Refusal.antt says it of the tokens around a calculation (letters_given); here it is said of what the file says.
use Rattle.std.specs.Prelude.{◌≡◌, refl, Bool, true, false, not, ◌&&◌, ◌||◌, List, [], ◌∷◌, ◌++◌, map, ℕ, eqb}
use Rattle.std.proofs.Common.{sym, ap, subst, ◌∙◌, eqb-true}
use Rattle.std.proofs.Math.Bool.{or-true}
use Rattle.std.proofs.lemmas.Bool.{false≢true}
use Rattle.std.proofs.Math.Option.{some}
use Rattle.spec_lists.specs.Select.{any, select, prepend_if, keep_if}
use Rattle.spec_lists.specs.Every.{Every, nil, cons}
use Rattle.spec_lists.proofs.laws.Any.{any_append, or_between}
use Rattle.spec_lists.proofs.laws.Every.{every_implies, every_map, all_every}
use Rattle.spec_token.specs.Word.{link_letter}
use Rattle.spec_calc.specs.Expression.{Tree, Parses}
use Rattle.spec_calc.specs.Value.{letters}
use Rattle.spec_calc.proofs.laws.Theorem.{parses_complete}
use Rattle.spec_rule.specs.Privilege.{Some, here, further}
use Rattle.spec_grammar.specs.declared.Role.TheVariants.{AsgName, Input, RuleWord, Calculation}
use Rattle.spec_grammar.specs.Sentence.{Tagged}
use Rattle.spec_file.specs.declared.Refusal.TheVariants.{BadCalculation}
use Rattle.spec_file.specs.Contents.{has_role, text, texts, until, Clause, clauses, Link, Asg, head_of, links, asg, file_of}
use Rattle.spec_file.specs.Refusal.{Context, contexts_after, contexts, letters_given, letters_among, Allowed, Applies, calculation}
use Rattle.spec_file.specs.Acceptance.{Nowhere, Acceptable}
use Rattle.spec_file.proofs.laws.Causes.{never}
use Rattle.spec_file.proofs.laws.Counted.{every_clauses, every_texts, clauses_after}
use Rattle.spec_file.proofs.laws.ItemClauses.{rule_of}

-- each letter of the calculation s is that of one of the inputs
abbrev pub HasInputs : List Link → List ℕ → Type 0
HasInputs ls s = (t : Tree) → Parses s t → Every (λ i. Some (λ l. l.letter ≡ i) ls) (letters t)

-- an access group has the inputs of the calculations of its rules
abbrev pub InputsGiven : Asg → Type 0
InputsGiven a = Every (λ r. (s : List ℕ) → r.calculation ≡ some s → HasInputs a.inputs s) a.rules

-- ---- the inputs among some tokens

-- the letter that an INP word has in it
abbrev letter_of : Tagged → ℕ
letter_of x = link_letter (text x)

-- a token is an input of the letter i
abbrev gives : ℕ → Tagged → Bool
gives i x = has_role Input x && eqb i (letter_of x)

module _ (i : ℕ) where
  -- a letter is among those of the inputs exactly if a token gives it
  given_is : (xs : List Tagged) → any (eqb i) (map letter_of (select (has_role Input) xs)) ≡ any (gives i) xs
  given_is [] = refl
  given_is (x ∷ xs) = go (has_role Input x) (given_is xs)
    where
      go :
          (b : Bool) → any (eqb i) (map letter_of (select (has_role Input) xs)) ≡ any (gives i) xs
          → any (eqb i) (map letter_of (prepend_if b x (select (has_role Input) xs))) ≡ (b && eqb i (letter_of x)) || any (gives i) xs
      go true e = ap (λ (d : Bool). eqb i (letter_of x) || d) e
      go false e = e

  -- and then an input has it
  input_given : (xs : List Tagged) → any (gives i) xs ≡ true → Some (λ l. l.letter ≡ i) (links xs)
  input_given [] e = absurd (false≢true e)
  input_given (x ∷ xs) e = go (has_role Input x) (eqb i (letter_of x)) refl refl e (input_given xs)
    where
      go :
          (h k : Bool) → has_role Input x ≡ h → eqb i (letter_of x) ≡ k → (h && k) || any (gives i) xs ≡ true
          → (any (gives i) xs ≡ true → Some (λ l. l.letter ≡ i) (links xs)) → Some (λ l. l.letter ≡ i) (links (x ∷ xs))
      go true true f g e ih = rw f (here (sym (eqb-true i (letter_of x) g)))
      go true false f g e ih = rw f (further (ih e))
      go false k f g e ih = rw f (ih e)

-- ---- a calculation among some tokens

-- if a token is a calculation, tokens of ys give each of its letters
abbrev Satisfied : List Tagged → Tagged → Type 0
Satisfied ys x = has_role Calculation x ≡ true → (t : Tree) → Parses (text x) t → Every (λ i. any (gives i) ys ≡ true) (letters t)

-- more tokens give no fewer letters
satisfied_by_more :
    (ys zs : List Tagged) → ((p : Tagged → Bool) → any p ys ≡ true → any p zs ≡ true) → (x : Tagged) → Satisfied ys x → Satisfied zs x
satisfied_by_more ys zs f x s h t p = every_implies (λ i e. f (gives i) e) (s h t p)

-- where 10 has no cause, the letters are among those given
letters_allowed :
    (c : Context) → (Applies c BadCalculation → ⊥) → has_role Calculation c.here ≡ true → (t : Tree) → Parses (text c.here) t
    → letters_among (letters_given c) t ≡ true
letters_allowed c n h t p = go (letters_among (letters_given c) t) refl
  where
    one_tree : (a : Allowed c) → a.tree ≡ t
    one_tree a = let e = sym (parses_complete (text c.here) a.tree a.says) ∙ parses_complete (text c.here) t p in cc

    go : (b : Bool) → letters_among (letters_given c) t ≡ b → b ≡ true
    go true e = refl
    go false e = absurd (n (calculation h (λ a. never e (rw (one_tree a) at a.given))))

-- so the tokens around a calculation, back to its group's name and on to the next, give its letters
satisfied_around :
    (c : Context) → (Applies c BadCalculation → ⊥) → Satisfied (until AsgName c.backwards ++ until AsgName c.onwards) c.here
satisfied_around c n h t p =
    every_implies
    (λ i e. sym (given_is i (until AsgName c.backwards ++ until AsgName c.onwards)) ∙ e)
    (all_every _ (letters t) (letters_allowed c n h t p))

-- ---- the tokens of an access group

-- a token that stands between two lists, or before both
any_between : (p : Tagged → Bool) (ys zs : List Tagged) (x : Tagged) → any p (ys ++ (x ∷ zs)) ≡ p x || any p (ys ++ zs)
any_between p ys zs x = any_append p ys (x ∷ zs) ∙ sym (or_between (any p ys) (p x) (any p zs)) ∙ sym (any_append p (x ∷ ys) zs)

-- b goes back to the group's name, xs on to the next: each calculation that is still to come has its letters from both
satisfied_after :
    (b xs : List Tagged) → Nowhere BadCalculation (contexts_after b xs) → Every (Satisfied (until AsgName b ++ until AsgName xs)) (until AsgName xs)
satisfied_after b [] n = nil
satisfied_after b (x ∷ xs) (cons h n) =
    go (has_role AsgName x) (satisfied_around (record { backwards = b; here = x; onwards = xs }) h) (satisfied_after (x ∷ b) xs n)
  where
    ys : List Tagged
    ys = until AsgName b

    zs : List Tagged
    zs = until AsgName xs

    go :
        (a : Bool) → Satisfied (ys ++ zs) x → Every (Satisfied (keep_if (not a) x ys ++ zs)) zs
        → Every (Satisfied (ys ++ keep_if (not a) x zs)) (keep_if (not a) x zs)
    go true s d = nil
    go false s d =
        cons
        (satisfied_by_more (ys ++ zs) (ys ++ (x ∷ zs)) (λ p e. any_between p ys zs x ∙ rw e (or-true (p x))) x s)
        (every_implies (satisfied_by_more (x ∷ (ys ++ zs)) (ys ++ (x ∷ zs)) (λ p e. any_between p ys zs x ∙ e)) d)

-- the tokens of a part give the letters of its calculations
abbrev Within : Clause → Type 0
Within p = Every (Satisfied p.body) p.body

-- so it is of each access group, by its own tokens
satisfied_within : (xs : List Tagged) → Nowhere BadCalculation (contexts xs) → Every Within (clauses AsgName xs)
satisfied_within = clauses_after AsgName (λ x b xs e n. rw e at (satisfied_after (x ∷ b) xs n)) []

-- ---- what the file says

-- what holds of all texts holds of the first
pub head_has : {Q : List ℕ → Type 0} {ts : List (List ℕ)} → Every Q ts → (s : List ℕ) → head_of ts ≡ some s → Q s
head_has nil s e = let z : false ≡ true = cc in absurd (false≢true z)
head_has {Q} (cons {x = x} q c) s e = let same : x ≡ s = cc in subst Q same q

-- a rule's calculation, among the tokens ys of its group
rule_given : (ys zs : List Tagged) → Every (Satisfied ys) zs → (s : List ℕ) → head_of (texts Calculation zs) ≡ some s → HasInputs (links ys) s
rule_given ys zs e = head_has (every_texts Calculation (λ x h w t p. every_implies (λ i g. input_given i ys g) (w h t p)) e)

-- where 10 has no cause, each letter of each rule's calculation has an input in the group
pub inputs_given : (xs : List Tagged) → Nowhere BadCalculation (contexts xs) → Every InputsGiven (file_of xs).asgs
inputs_given xs n =
    every_map asg
    (every_implies
    (λ p w. every_map rule_of (every_implies (λ r v. rule_given p.body r.body v.body) (every_clauses RuleWord w)))
    (satisfied_within xs n))

-- so in an acceptable file it has
pub letters_have_inputs : (s : List ℕ) (xs : List Tagged) → Acceptable s xs → Every InputsGiven (file_of xs).asgs
letters_have_inputs s xs a = inputs_given xs (a.uncaused BadCalculation)
