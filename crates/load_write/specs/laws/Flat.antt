-- What stands in the parts of a file, part by part, is what stands in the tokens one behind the other.
use Rattle.std.specs.Prelude.{cond, Bool, true, false, not, List, [], ◌∷◌, map, ◌++◌, ◌≡◌, refl, suc, ℕ, length}
use Rattle.std.proofs.Common.{ap, sym, ◌∙◌, eqb-true, ne_eqb}
use Rattle.std.proofs.lemmas.Bool.{eqb-false}
use Rattle.spec_lists.proofs.laws.Joined.{map_map, map_joined}
use Rattle.spec_lists.specs.Select.{select, prepend_if, joined, keep_if, skip_if}
use Rattle.spec_token.specs.Word.{link_letter}
use Rattle.spec_grammar.specs.declared.Role.{Role}
use Rattle.spec_grammar.specs.declared.Role.TheVariants.{AsgName, Pvname, Input, RuleWord}
use Rattle.spec_grammar.specs.Sentence.{Tagged}
use Rattle.spec_grammar.specs.Codes.{role_number, same_role}
use Rattle.spec_file.specs.Contents.{has_role, Clause, text, texts, clauses, until, Link, asg, file_of, rule_text}
use Rattle.spec_table.specs.Written.{all_links, all_rules}
use Rattle.load_flags.specs.Tokens.{cut, first_text, size}
use Rattle.load_sections.specs.Sections.{from}

-- each token that says q, with what follows it up to the next one or the next access group
abbrev pub cuts : Role → List Tagged → List Clause
cuts q [] = []
cuts q (x ∷ xs) = cond (has_role q x) (record { head = x; body = cut q xs } ∷ cuts q xs) (cuts q xs)

pub length_cuts : (q : Role) (xs : List Tagged) → length (cuts q xs) ≡ size q xs
length_cuts q [] = refl
length_cuts q (x ∷ xs) = go (has_role q x) (length_cuts q xs)
  where
    go :
        (b : Bool) → length (cuts q xs) ≡ size q xs
        → length (cond b (record { head = x; body = cut q xs } ∷ cuts q xs) (cuts q xs)) ≡ length (map text (prepend_if b x (select (has_role q) xs)))
    go true e = ap suc e
    go false e = e

-- a token says one thing
pub says_one : (q m : Role) → same_role m q ≡ false → (x : Tagged) → has_role q x ≡ true → has_role m x ≡ false
says_one q m d x h =
    let e = eqb-true (role_number x.role) (role_number q) h in
    ne_eqb (role_number x.role) (role_number m) (λ k. eqb-false (role_number m) (role_number q) d (sym k ∙ e))

-- ---- the texts of all parts
module _ (q m : Role) (d : same_role m q ≡ false) where
  abbrev bodies : List Tagged → List (List ℕ)
  bodies xs = joined (map (λ p. texts m p.body) (clauses q xs))

  -- those of a part that has begun, and of the parts behind it
  texts_on : (xs : List Tagged) → texts m (until q xs) ++ bodies xs ≡ texts m xs
  texts_on [] = refl
  texts_on (x ∷ xs) = go (has_role q x) refl (texts_on xs)
    where
      own :
          (b : Bool) → texts m (until q xs) ++ bodies xs ≡ texts m xs
          → map text (prepend_if b x (select (has_role m) (until q xs))) ++ bodies xs ≡ map text (prepend_if b x (select (has_role m) xs))
      own true e = ap (λ (l : List (List ℕ)). text x ∷ l) e
      own false e = e

      go :
          (b : Bool) → has_role q x ≡ b → texts m (until q xs) ++ bodies xs ≡ texts m xs
          → texts m (keep_if (not b) x (until q xs))
          ++ joined (map (λ p. texts m p.body) (cond b (record { head = x; body = until q xs } ∷ clauses q xs) (clauses q xs)))
          ≡ texts m (x ∷ xs)
      go true h e = rw (says_one q m d x h) e
      go false h e = own (has_role m x) e

  pub texts_joined : (xs : List Tagged) → joined (map (λ p. texts m p.body) (clauses q xs)) ≡ texts m (from q xs)
  texts_joined [] = refl
  texts_joined (x ∷ xs) = go (has_role q x) refl (texts_joined xs)
    where
      go :
          (b : Bool) → has_role q x ≡ b → bodies xs ≡ texts m (from q xs)
          → joined (map (λ p. texts m p.body) (cond b (record { head = x; body = until q xs } ∷ clauses q xs) (clauses q xs)))
          ≡ texts m (skip_if (not b) (from q xs) (x ∷ xs))
      go true h e = rw (says_one q m d x h) (texts_on xs)
      go false h e = e

-- ---- the parts of all access groups
module _ (q : Role) (d : same_role q AsgName ≡ false) where
  abbrev inner : List Tagged → List Clause
  inner xs = joined (map (λ p. clauses q p.body) (clauses AsgName xs))

  cuts_on : (xs : List Tagged) → clauses q (until AsgName xs) ++ inner xs ≡ cuts q xs
  cuts_on [] = refl
  cuts_on (x ∷ xs) = go (has_role AsgName x) refl (cuts_on xs)
    where
      own :
          (b : Bool) → clauses q (until AsgName xs) ++ inner xs ≡ cuts q xs
          → cond b (record { head = x; body = cut q xs } ∷ clauses q (until AsgName xs)) (clauses q (until AsgName xs)) ++ inner xs
          ≡ cond b (record { head = x; body = cut q xs } ∷ cuts q xs) (cuts q xs)
      own true e = ap (λ (l : List Clause). record { head = x; body = cut q xs } ∷ l) e
      own false e = e

      go :
          (b : Bool) → has_role AsgName x ≡ b → clauses q (until AsgName xs) ++ inner xs ≡ cuts q xs
          → clauses q (keep_if (not b) x (until AsgName xs))
          ++ joined (map (λ p. clauses q p.body) (cond b (record { head = x; body = until AsgName xs } ∷ clauses AsgName xs) (clauses AsgName xs)))
          ≡ cuts q (x ∷ xs)
      go true h e = rw (says_one AsgName q d x h) e
      go false h e = own (has_role q x) e

  pub cuts_joined : (xs : List Tagged) → joined (map (λ p. clauses q p.body) (clauses AsgName xs)) ≡ cuts q (from AsgName xs)
  cuts_joined [] = refl
  cuts_joined (x ∷ xs) = go (has_role AsgName x) refl (cuts_joined xs)
    where
      go :
          (b : Bool) → has_role AsgName x ≡ b → inner xs ≡ cuts q (from AsgName xs)
          → joined (map (λ p. clauses q p.body) (cond b (record { head = x; body = until AsgName xs } ∷ clauses AsgName xs) (clauses AsgName xs)))
          ≡ cuts q (skip_if (not b) (from AsgName xs) (x ∷ xs))
      go true h e = rw (says_one AsgName q d x h) (cuts_on xs)
      go false h e = e

  -- and what they are read as
  pub cuts_read :
      {A : Type 0} (f : Clause → A) (xs : List Tagged)
      → joined (map (λ p. map f (clauses q p.body)) (clauses AsgName xs)) ≡ map f (cuts q (from AsgName xs))
  cuts_read f xs =
      ap joined (sym (map_map (map f) (λ p. clauses q p.body) (clauses AsgName xs)))
      ∙ sym (map_joined f (map (λ p. clauses q p.body) (clauses AsgName xs)))
      ∙ ap (λ (l : List Clause). map f l) (cuts_joined xs)

-- ---- the inputs and the rules of a file

abbrev pub link_of : Clause → Link
link_of p = record { letter = link_letter (text p.head); name = first_text Pvname p.body }

pub flat_links : (xs : List Tagged) → all_links (file_of xs) ≡ map link_of (cuts Input (from AsgName xs))
flat_links xs = ap joined (map_map (λ a. a.inputs) asg (clauses AsgName xs)) ∙ cuts_read Input refl link_of xs

pub flat_rules : (xs : List Tagged) → all_rules (file_of xs) ≡ map (λ p. rule_text p.body) (cuts RuleWord (from AsgName xs))
flat_rules xs = ap joined (map_map (λ a. a.rules) asg (clauses AsgName xs)) ∙ cuts_read RuleWord refl (λ p. rule_text p.body) xs
