-- Cause 10: the letters that have an INP in the access group around a token.
use Rattle.std.specs.Prelude.{◌≡◌, refl, Bool, true, false, ◌&&◌, ◌||◌, List, [], ◌∷◌, ◌++◌, map, ℕ, ◌+◌, ◌≤◌, ◌<◌, eqb, length, get_or, set, replicate}
use Rattle.std.proofs.Common.{sym, ap, ◌∙◌, arith, length-set, get_or-set_same, get_or-set_other, eqb-true}
use Rattle.std.proofs.lemmas.List.{get_or-replicate}
use Rattle.std.proofs.lemmas.Bool.{eqb-false}
use Rattle.spec_lists.proofs.laws.Both.{or_false}
use Rattle.spec_lists.specs.Select.{any, select, prepend_if}
use Rattle.spec_token.specs.Word.{link_letter}
use Rattle.spec_grammar.specs.declared.Role.TheVariants.{AsgName, Input}
use Rattle.spec_grammar.specs.Sentence.{Tagged}
use Rattle.load_tokens.specs.Arrays.{Arrays, tagged_at}
use Rattle.spec_file.specs.Contents.{has_role, text, until}
use Rattle.spec_file.specs.Refusal.{letters_given}
use Rattle.load_spans.specs.laws.Roles.{tokens_none, tokens_step}
use Rattle.load_spans.specs.Seek.{earlier, context_at}
use Rattle.load_spans.specs.laws.Seek.{earlier_none, earlier_step}
use Rattle.load_spans.specs.laws.Codes.{role_same, role_other}
use Rattle.load_calcs.specs.Input.{is_input, Gives, ahead, around}

-- ---- laws of lists

letters_match : (l : ℕ) (xs : List Tagged) → any (is_input l) xs ≡ any (eqb l) (map (λ x. link_letter (text x)) (select (has_role Input) xs))
letters_match l [] = refl
letters_match l (x ∷ xs) = go (has_role Input x) (letters_match l xs)
  where
    go :
        (b : Bool) → any (is_input l) xs ≡ any (eqb l) (map (λ y. link_letter (text y)) (select (has_role Input) xs))
        → b && eqb l (link_letter (text x)) || any (is_input l) xs ≡ any (eqb l) (map (λ y. link_letter (text y)) (prepend_if b x (select (has_role Input) xs)))
    go true e = ap (λ (t : Bool). eqb l (link_letter (text x)) || t) e
    go false e = e

or_swap : (a b c : Bool) → a || (b || c) ≡ b || (a || c)
or_swap true true c = refl
or_swap true false c = refl
or_swap false b c = refl

any_middle : (p : Tagged → Bool) (xs : List Tagged) (y : Tagged) (ys : List Tagged) → any p (xs ++ (y ∷ ys)) ≡ p y || any p (xs ++ ys)
any_middle p [] y ys = refl
any_middle p (x ∷ xs) y ys = ap (λ (t : Bool). p x || t) (any_middle p xs y ys) ∙ or_swap (p x) (p y) (any p (xs ++ ys))

-- a letter more
set_given : (given : List Bool) (k l : ℕ) → length given ≡ 21 → l < 21 → get_or (set given k true) l false ≡ eqb l k || get_or given l false
set_given given k l e h = go (eqb l k) refl
  where
    go : (b : Bool) → eqb l k ≡ b → get_or (set given k true) l false ≡ b || get_or given l false
    go true f = let z : l ≡ k = eqb-true l k f in rw z (get_or-set_same given k true false (omega arith))
    go false f = get_or-set_other given k l true false (λ z. eqb-false l k f z)

-- ---- the access group around a token

module _ (s : List ℕ) (a : Arrays) (roles : List ℕ) (n : ℕ) where
  -- some of the 21 letters that have an INP ahead of a token are in given, the others ahead of the i-th
  pub record Gathers (from : ℕ) (given : List Bool) (i : ℕ) : Type 0 where
    pub each : (l : ℕ) → l < 21 → get_or given l false || any (is_input l) (ahead s a roles n i) ≡ any (is_input l) (ahead s a roles n from)
    pub long : length given ≡ 21

  pub gathers_first : (from : ℕ) → Gathers from (replicate 21 false) from
  gathers_first from = record { each = λ l h. rw (get_or-replicate 21 l false false h); long = refl }

  pub gathers_none : {from i : ℕ} {given : List Bool} → n ≤ i → Gathers from given i → Gives given (ahead s a roles n from)
  gathers_none {from} {i} {given} h g =
      record { each = λ l b. sym (or_false (get_or given l false)) ∙ rw (tokens_none s a roles i n h) at (g.each l b) }

  module _ (i : ℕ) where
    group_here : get_or roles i 0 ≡ 5 → has_role AsgName (tagged_at s a roles i) ≡ true
    group_here e = role_same 5 (record { some = omega arith; known = omega arith }) e

    no_group_here : (get_or roles i 0 ≡ 5 → ⊥) → has_role AsgName (tagged_at s a roles i) ≡ false
    no_group_here e = role_other 5 (record { some = omega arith; known = omega arith }) e

    input_here : get_or roles i 0 ≡ 6 → has_role Input (tagged_at s a roles i) ≡ true
    input_here e = role_same 6 (record { some = omega arith; known = omega arith }) e

    no_input_here : (get_or roles i 0 ≡ 6 → ⊥) → has_role Input (tagged_at s a roles i) ≡ false
    no_input_here e = role_other 6 (record { some = omega arith; known = omega arith }) e

    ahead_stop : i < n → get_or roles i 0 ≡ 5 → ahead s a roles n i ≡ []
    ahead_stop h e = rw (tokens_step s a roles i n h, group_here e)

    ahead_on : i < n → (get_or roles i 0 ≡ 5 → ⊥) → ahead s a roles n i ≡ tagged_at s a roles i ∷ ahead s a roles n (i + 1)
    ahead_on h e = rw (tokens_step s a roles i n h, no_group_here e)

    behind_stop : get_or roles i 0 ≡ 5 → until AsgName (earlier s a roles (i + 1)) ≡ []
    behind_stop e = rw (earlier_step s a roles i, group_here e)

    behind_on : (get_or roles i 0 ≡ 5 → ⊥) → until AsgName (earlier s a roles (i + 1)) ≡ tagged_at s a roles i ∷ until AsgName (earlier s a roles i)
    behind_on e = rw (earlier_step s a roles i, no_group_here e)

  module _ {from i : ℕ} {given : List Bool} where
    pub gathers_stop : i < n → get_or roles i 0 ≡ 5 → Gathers from given i → Gives given (ahead s a roles n from)
    gathers_stop h e g =
        record { each = λ l b. sym (or_false (get_or given l false)) ∙ rw (ahead_stop i h e) at (g.each l b) }

    pub gathers_input :
        {k : ℕ} → i < n → get_or roles i 0 ≡ 6 → k ≡ link_letter (text (tagged_at s a roles i)) → Gathers from given i
        → Gathers from (set given k true) (i + 1)
    gathers_input {k} h e f g =
        record {
          each = λ l b.
              rw (set_given given k l g.long b)
              (or_in (get_or given l false) (eqb l k) (any (is_input l) (ahead s a roles n (i + 1)))
              ∙ ap (λ (t : Bool). get_or given l false || (t || any (is_input l) (ahead s a roles n (i + 1)))) (here l)
              ∙ rw (ahead_on i h (λ z. omega arith)) at (g.each l b));
          long = length-set given k true ∙ g.long;
        }
      where
        or_in : (x y z : Bool) → (y || x) || z ≡ x || (y || z)
        or_in true true z = refl
        or_in true false z = refl
        or_in false y z = or_next y z
          where
            or_next : (y z : Bool) → (y || false) || z ≡ y || z
            or_next true z = refl
            or_next false z = refl

        here : (l : ℕ) → eqb l k ≡ is_input l (tagged_at s a roles i)
        here l = rw (f, input_here i e)

    pub gathers_on : i < n → (get_or roles i 0 ≡ 5 → ⊥) → (get_or roles i 0 ≡ 6 → ⊥) → Gathers from given i → Gathers from given (i + 1)
    gathers_on h e f g =
        record { each = λ l b. rw (ahead_on i h e, no_input_here i f) at (g.each l b); long = g.long }

  pub gives_first : {given : List Bool} → Gives given (ahead s a roles n 0) → Gives given (around s a roles n 0)
  gives_first g = rw (earlier_none s a roles) g

  module _ (i : ℕ) {given : List Bool} where
    pub gives_new : get_or roles i 0 ≡ 5 → Gives given (ahead s a roles n (i + 1)) → Gives given (around s a roles n (i + 1))
    gives_new e g = rw (behind_stop i e) g

    pub gives_on : i < n → (get_or roles i 0 ≡ 5 → ⊥) → Gives given (around s a roles n i) → Gives given (around s a roles n (i + 1))
    gives_on h e g =
        record {
          each = λ l b.
              rw (behind_on i e)
              (rw (ahead_on i h e) at (g.each l b)
              ∙ any_middle (is_input l) (until AsgName (earlier s a roles i)) (tagged_at s a roles i) (ahead s a roles n (i + 1)));
        }

    -- what stands at the token is no INP
    pub gives_here :
        i < n → (get_or roles i 0 ≡ 5 → ⊥) → (get_or roles i 0 ≡ 6 → ⊥) → Gives given (around s a roles n i) → (l : ℕ) → l < 21
        → get_or given l false ≡ any (eqb l) (letters_given (context_at s a roles n i))
    gives_here h e f g l b =
        rw (ahead_on i h e) at (g.each l b)
        ∙ any_middle (is_input l) (until AsgName (earlier s a roles i)) (tagged_at s a roles i) (ahead s a roles n (i + 1))
        ∙ rw (no_input_here i f) (letters_match l (until AsgName (earlier s a roles i) ++ ahead s a roles n (i + 1)))
