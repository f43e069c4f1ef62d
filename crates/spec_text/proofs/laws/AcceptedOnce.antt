-- Where 7 has no cause, no name of a group is given again, and no letter in an access group: of what the file says.
use Rattle.std.specs.Prelude.{◌≡◌, refl, Bool, true, false, not, ◌&&◌, ◌||◌, List, [], ◌∷◌, map, ℕ, eqb}
use Rattle.std.proofs.Common.{sym, ap, ◌∙◌}
use Rattle.std.proofs.Math.Bool.{or-true}
use Rattle.spec_lists.specs.Text.{same}
use Rattle.spec_lists.specs.Select.{any, run, keep_if}
use Rattle.spec_lists.specs.Every.{Every, cons}
use Rattle.spec_lists.proofs.laws.Both.{neither}
use Rattle.spec_lists.proofs.laws.Every.{map_fixed, every, every_all, every_implies, every_both, every_map}
use Rattle.spec_lists.proofs.laws.Front.{run_all}
use Rattle.spec_lists.proofs.laws.Joined.{map_map}
use Rattle.spec_token.specs.declared.Kind.TheVariants.{Inp}
use Rattle.spec_token.specs.Word.{link_letter}
use Rattle.spec_token.proofs.laws.Words.{InputWord}
use Rattle.spec_grammar.specs.declared.Role.{Role}
use Rattle.spec_grammar.specs.declared.Role.TheVariants.{UagName, User, HagName, Host, AsgName, Input}
use Rattle.spec_grammar.specs.Codes.{same_role}
use Rattle.spec_grammar.specs.Sentence.{Tagged}
use Rattle.spec_grammar.proofs.laws.Inputs.{may_say, reads_inputs}
use Rattle.spec_file.specs.Contents.{has_role, text, texts, Clause, clauses, asg, file_of}
use Rattle.spec_file.specs.Refusal.{Context, contexts_after, contexts, duplicates, given_again, name_again, letter_again, calc_again}
use Rattle.spec_file.specs.Acceptance.{TextReads}
use Rattle.spec_file.proofs.laws.Causes.{never}
use Rattle.spec_file.proofs.laws.Clauses.{heads_texts, named_by}
use Rattle.spec_file.proofs.laws.Counted.{Whole, every_clauses, every_texts, clauses_after, input_kind, role_is}
use Rattle.spec_file.proofs.laws.ItemClauses.{group, link}
use Rattle.spec_text.specs.Faults.{repeated, letters_of}
use Rattle.spec_text.specs.Lines.{link_word}
use Rattle.spec_text.proofs.laws.Words.{word_back, repeated_letters}
use Rattle.spec_text.proofs.laws.AcceptedTokens.{tokens_inputs}

-- ---- one law for names in a file and for letters in a group

-- the tokens up to the next that ends
abbrev reach : (Tagged → Bool) → List Tagged → List Tagged
reach ends = run (λ x. not (ends x))

-- a token's text is none of those of its role q that stand before it, back to one that ends
abbrev New : Role → (Tagged → Bool) → Context → Type 0
New q ends c = duplicates q (reach ends c.backwards) c ≡ false

-- x is one of those reached backwards
abbrev Reached : (Tagged → Bool) → Tagged → List Tagged → Type 0
Reached ends x b = (p : Tagged → Bool) → p x ≡ true → any p (reach ends b) ≡ true

module _ (q : Role) (ends : Tagged → Bool) where
  reached_more : (x y : Tagged) (b : List Tagged) → ends y ≡ false → Reached ends x b → Reached ends x (y ∷ b)
  reached_more x y b e r p h = rw (e, r p h) (or-true (p y))

  reached_self : (x : Tagged) (b : List Tagged) → ends x ≡ false → Reached ends x (x ∷ b)
  reached_self x b e p h = rw (e, h)

  -- two tokens of the role, the first reached from the second, differ
  differ :
      (x : Tagged) (c : Context) → has_role q x ≡ true → has_role q c.here ≡ true → Reached ends x c.backwards → New q ends c
      → same (text x) (text c.here) ≡ false
  differ x c hx h r n = go (same (text x) (text c.here)) refl
    where
      role : has_role x.role c.here ≡ true
      role = ap (same_role c.here.role) (role_is q x hx) ∙ h

      go : (b : Bool) → same (text x) (text c.here) ≡ b → b ≡ false
      go true e = absurd (never n (rw h (r (λ z. has_role z.role c.here && same (text z) (text c.here)) (rw (role, e)))))
      go false e = refl

  -- so it is with all of them
  unlike :
      (x : Tagged) → has_role q x ≡ true → (b xs : List Tagged) → Reached ends x b → Every (New q ends) (contexts_after b xs)
      → any (same (text x)) (texts q (reach ends xs)) ≡ false
  unlike x hx b [] r c = refl
  unlike x hx b (y ∷ ys) r (cons t c) = go (ends y) (has_role q y) refl refl (λ i. unlike x hx (y ∷ b) ys i c)
    where
      go :
          (s h : Bool) → ends y ≡ s → has_role q y ≡ h → (Reached ends x (y ∷ b) → any (same (text x)) (texts q (reach ends ys)) ≡ false)
          → any (same (text x)) (texts q (keep_if (not s) y (reach ends ys))) ≡ false
      go true h f g ih = refl
      go false true f g ih =
          rw (g, differ x (record { backwards = b; here = y; onwards = ys }) hx g r t) (ih (reached_more x y b f r))
      go false false f g ih = rw g (ih (reached_more x y b f r))

  once_each : (b xs : List Tagged) → Every (New q ends) (contexts_after b xs) → repeated same (texts q (reach ends xs)) ≡ false
  once_each b [] c = refl
  once_each b (y ∷ ys) (cons t c) = go (ends y) (has_role q y) refl refl (once_each (y ∷ b) ys c)
    where
      go :
          (s h : Bool) → ends y ≡ s → has_role q y ≡ h → repeated same (texts q (reach ends ys)) ≡ false
          → repeated same (texts q (keep_if (not s) y (reach ends ys))) ≡ false
      go true h f g ih = refl
      go false true f g ih = rw (g, unlike y g (y ∷ b) ys (reached_self y b f) c) ih
      go false false f g ih = rw g ih

-- ---- names

whole_run : (xs : List Tagged) → run (λ x. true) xs ≡ xs
whole_run xs = (run_all (λ x. true) xs (every_all (λ x. true) (every (λ x. refl) xs))).0

names_once : (q : Role) (xs : List Tagged) → Every (λ c. duplicates q c.backwards c ≡ false) (contexts xs) → repeated same (texts q xs) ≡ false
names_once q xs n =
    rw (whole_run xs) at (once_each q (λ x. false) [] xs (every_implies (λ c e. rw (whole_run c.backwards) e) n))

-- ---- letters

-- a token that is an input is INP and a letter
abbrev InputSpelled : Tagged → Type 0
InputSpelled x = has_role Input x ≡ true → InputWord (text x)

-- where no INP word is given again in a group, no letter is
no_letter_again :
    (p : Clause) → Whole InputSpelled AsgName p → repeated same (texts Input p.body) ≡ false → repeated eqb (letters_of (asg p)) ≡ false
no_letter_again p w e =
    ap (repeated eqb) read
    ∙ (sym (repeated_letters (map link_letter (texts Input p.body)))
    ∙ (ap (repeated same) (map_map link_word link_letter (texts Input p.body) ∙ map_fixed _ words) ∙ e))
  where
    read : letters_of (asg p) ≡ map link_letter (texts Input p.body)
    read =
        map_map (λ i. i.letter) link (clauses Input p.body)
        ∙ (sym (map_map link_letter (λ c. text c.head) (clauses Input p.body)) ∙ ap (map link_letter) (heads_texts Input p.body))

    words : Every (λ w. link_word (link_letter w) ≡ w) (texts Input p.body)
    words = every_texts Input (λ x h i. word_back (i h)) w.body

-- ---- of a text that reads

-- a token that is said to be an input is an INP word
inputs_spelled : {s : List ℕ} {xs : List Tagged} → TextReads s xs → Every InputSpelled xs
inputs_spelled {xs = xs} t = every_both input (reads_inputs t.spelled xs t.reading) (tokens_inputs t)
  where
    input : (x : Tagged) → may_say x.token.kind x.role ≡ true → (x.token.kind ≡ Inp → InputWord (text x)) → InputSpelled x
    input x m f h = f (input_kind x m h)

-- nothing is given again in a file
pub record Once (xs : List Tagged) : Type 0 where
  pub uags : repeated same (map (λ g. g.name) (file_of xs).uags) ≡ false
  pub hags : repeated same (map (λ g. g.name) (file_of xs).hags) ≡ false
  pub asgs : repeated same (map (λ a. a.name) (file_of xs).asgs) ≡ false
  pub letters : Every (λ a. repeated eqb (letters_of a) ≡ false) (file_of xs).asgs

pub given_once : {s : List ℕ} {xs : List Tagged} → TextReads s xs → Every (λ c. given_again c ≡ false) (contexts xs) → Once xs
given_once {xs = xs} t n =
    record {
      uags = rw (named_by UagName (group User) (λ g. g.name) (λ c. refl) xs) (names_once UagName xs (every_implies (λ c e. (names c e).0) n));
      hags = rw (named_by HagName (group Host) (λ g. g.name) (λ c. refl) xs) (names_once HagName xs (every_implies (λ c e. (names c e).1) n));
      asgs = rw (named_by AsgName asg (λ a. a.name) (λ c. refl) xs) (names_once AsgName xs (every_implies (λ c e. (names c e).2) n));
      letters = every_map asg (every_both no_letter_again (every_clauses AsgName (inputs_spelled t)) words_once);
    }
  where
    same_again : (q : Role) (c : Context) → Bool
    same_again q c = duplicates q c.backwards c

    names : (c : Context) → given_again c ≡ false → (same_again UagName c ≡ false) × (same_again HagName c ≡ false) × (same_again AsgName c ≡ false)
    names c e =
        let a = neither (same_again UagName c) (same_again HagName c || same_again AsgName c) (neither (name_again c) (letter_again c || calc_again c) e).0 in
        let b = neither (same_again HagName c) (same_again AsgName c) a.1 in
        (a.0, b.0, b.1)

    letter : (c : Context) → given_again c ≡ false → letter_again c ≡ false
    letter c e = (neither (letter_again c) (calc_again c) (neither (name_again c) (letter_again c || calc_again c) e).1).0

    words_once : Every (λ p. repeated same (texts Input p.body) ≡ false) (clauses AsgName xs)
    words_once = clauses_after AsgName (λ x b ys e c. once_each Input (has_role AsgName) (x ∷ b) ys c) [] xs (every_implies letter n)
