-- The tokens that belong to one, how many they are, and how long their texts.
use Rattle.std.specs.Prelude.{Bool, true, false, not, List, [], ◌∷◌, map, ◌≡◌, refl, ◌≤◌, ℕ, ◌-◌, zero, suc, ◌+◌, ◌<◌, length, get_or}
use Rattle.std.proofs.Math.Option
use Rattle.std.proofs.Math.Option.{some, none}
use Rattle.std.proofs.Common.{ap, ◌∙◌, sym, arith}
use Rattle.std.proofs.lemmas.List.{length-map}
use Rattle.spec_lists.specs.Every.{Every, nil, cons}
use Rattle.spec_lists.proofs.laws.Every.{every_select, every_run}
use Rattle.spec_lists.specs.Select.{run, keep_if, select, prepend_if}
use Rattle.spec_grammar.specs.declared.Role.{Role}
use Rattle.spec_grammar.specs.declared.Role.TheVariants.{AsgName}
use Rattle.spec_grammar.specs.Sentence.{Tagged}
use Rattle.spec_file.specs.Contents.{text, has_role, until, head_of, texts}
use Rattle.load_tokens.specs.Arrays.{between, Arrays, tagged_at, tagged_from, role_of_number}
use Rattle.load_tokens.specs.laws.Arrays.{between_within}
use Rattle.load_spans.specs.Roles.{RoleCode, tokens, gap, tally}
use Rattle.load_spans.specs.laws.Roles.{until_one, tally_is, until_two, first_some, first_none, gap_bound}
use Rattle.load_flags.specs.Tokens.{cut, first_text, size}

-- a text of a file is no longer than a file
abbrev pub Short : Tagged → Type 0
Short x = length (text x) ≤ 16384

-- a part of a text is no longer than it
pub between_short : (s : List ℕ) (a e : ℕ) → length (between s a e) ≤ length s
between_short = between_within

pub between_limit : (s : List ℕ) (a e : ℕ) → length s ≤ 16384 → length (between s a e) ≤ 16384
between_limit s a e h = omega (arith, between_short s a e)

pub tokens_short : (s : List ℕ) (ar : Arrays) (roles : List ℕ) (i k : ℕ) → length s ≤ 16384 → Every Short (tagged_from s ar roles i k)
unfolding tagged_from
tokens_short s ar roles i zero h = nil
tokens_short s ar roles i (suc k) h =
    cons {x = tagged_at s ar roles i} (between_limit s (get_or ar.starts i 0) (get_or ar.ends i 0) h) (tokens_short s ar roles (suc i) k h)

pub tokens_length : (s : List ℕ) (ar : Arrays) (roles : List ℕ) (i k : ℕ) → length (tagged_from s ar roles i k) ≡ k
unfolding tagged_from
tokens_length s ar roles i zero = refl
tokens_length s ar roles i (suc k) = ap suc (tokens_length s ar roles (suc i) k)

module _ {A : Type 0} (p : A → Bool) where
  pub run_length : (xs : List A) → length (run p xs) ≤ length xs
  run_length [] = omega arith
  run_length (x ∷ xs) = go (p x) (run_length xs)
    where
      go : (b : Bool) → length (run p xs) ≤ length xs → length (keep_if b x (run p xs)) ≤ suc (length xs)
      go true h = omega arith
      go false h = omega arith

  select_length : (xs : List A) → length (select p xs) ≤ length xs
  select_length [] = omega arith
  select_length (x ∷ xs) = go (p x) (select_length xs)
    where
      go : (b : Bool) → length (select p xs) ≤ length xs → length (prepend_if b x (select p xs)) ≤ suc (length xs)
      go true h = omega arith
      go false h = omega arith

pub size_bound : (m : Role) (xs : List Tagged) → size m xs ≤ length xs
size_bound m xs = omega (arith, length-map (select (has_role m) xs) text, select_length (has_role m) xs)

pub until_size : (m q : Role) (xs : List Tagged) → size m (until q xs) ≤ length xs
until_size m q xs = omega (arith, size_bound m (until q xs), run_length (λ x. not (has_role q x)) xs)

pub cut_size : (m q : Role) (xs : List Tagged) → size m (cut q xs) ≤ length xs
cut_size m q xs = omega (arith, until_size m q (until AsgName xs), run_length (λ x. not (has_role AsgName x)) xs)

first_of : (xs : List Tagged) → Every Short xs → length (Option.get_or (head_of (map text xs)) []) ≤ 16384
first_of [] e = omega arith
first_of (x ∷ xs) (cons h e) = h

pub first_short : (m : Role) {xs : List Tagged} → Every Short xs → length (first_text m xs) ≤ 16384
first_short m {xs} e = first_of (select (has_role m) xs) (every_select (has_role m) e)

pub cut_short_texts : (m q : Role) {xs : List Tagged} → Every Short xs → length (first_text m (cut q xs)) ≤ 16384
cut_short_texts m q e = first_short m (every_run (λ x. not (has_role q x)) (every_run (λ x. not (has_role AsgName x)) e))

-- ---- the tokens that belong to one
module _ (s : List ℕ) (ar : Arrays) (roles : List ℕ) (q m i to e : ℕ) (tq : RoleCode q) (tm : RoleCode m) where
  -- up to the next of its own role
  pub until_is : e ≡ i + gap q q roles i (to - i) → until (role_of_number q) (tokens s ar roles i to) ≡ tokens s ar roles i e
  until_is h =
      let g : gap q q roles i (to - i) ≡ e - i = omega arith in
      until_one s ar roles q i (to - i) tq ∙ ap (tagged_from s ar roles i) g

  pub counted_until :
      (k : ℕ) → e ≡ i + gap q q roles i (to - i) → k ≡ tally m roles i (e - i)
      → k ≡ size (role_of_number m) (until (role_of_number q) (tokens s ar roles i to))
  counted_until k h c = c ∙ sym (tally_is s ar roles m i (e - i) tm) ∙ ap (λ (l : List Tagged). size (role_of_number m) l) (sym (until_is h))

  -- up to the next of its own role or the next access group
  pub cut_is : e ≡ i + gap q 5 roles i (to - i) → cut (role_of_number q) (tokens s ar roles i to) ≡ tokens s ar roles i e
  cut_is h =
      let g : gap q 5 roles i (to - i) ≡ e - i = omega arith in
      until_two s ar roles q 5 i (to - i) tq (record { some = omega arith; known = omega arith }) ∙ ap (tagged_from s ar roles i) g

  pub counted_cut :
      (k : ℕ) → e ≡ i + gap q 5 roles i (to - i) → k ≡ tally m roles i (e - i)
      → k ≡ size (role_of_number m) (cut (role_of_number q) (tokens s ar roles i to))
  counted_cut k h c = c ∙ sym (tally_is s ar roles m i (e - i) tm) ∙ ap (λ (l : List Tagged). size (role_of_number m) l) (sym (cut_is h))

  -- its first text of another role, and none
  pub first_in :
      (j : ℕ) → e ≡ i + gap q 5 roles i (to - i) → j ≡ i + gap m m roles i (e - i) → j < e
      → head_of (texts (role_of_number m) (cut (role_of_number q) (tokens s ar roles i to))) ≡ some (text (tagged_at s ar roles j))
  first_in j h g l =
      ap (λ (x : List Tagged). head_of (texts (role_of_number m) x)) (cut_is h)
      ∙ first_some s ar roles m i (e - i) tm (omega arith)
      ∙ ap (λ (n : ℕ). some (text (tagged_at s ar roles n))) (sym g)

  pub none_in :
      (j : ℕ) → e ≡ i + gap q 5 roles i (to - i) → j ≡ i + gap m m roles i (e - i) → e ≤ j
      → head_of (texts (role_of_number m) (cut (role_of_number q) (tokens s ar roles i to))) ≡ none
  none_in j h g l =
      ap (λ (x : List Tagged). head_of (texts (role_of_number m) x)) (cut_is h) ∙ first_none s ar roles m i (e - i) tm (omega arith)

pub gap_end : (a b : ℕ) (roles : List ℕ) (i to e : ℕ) → i ≤ to → e ≡ i + gap a b roles i (to - i) → e ≤ to
gap_end a b roles i to e l h = omega (arith, gap_bound a b roles i (to - i))
