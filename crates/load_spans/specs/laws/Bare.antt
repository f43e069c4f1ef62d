-- A token without its kind and place: what the causes and the table look at are texts and roles alone.
use Rattle.std.specs.Prelude.{◌≡◌, refl, Bool, true, false, not, ◌&&◌, List, [], ◌∷◌, ◌++◌, map, ℕ, zero, suc, leb, length}
use Rattle.std.proofs.Common.{sym, ap, ◌∙◌}
use Rattle.std.proofs.Math.Option.{Option, none, some}
use Rattle.std.proofs.lemmas.List.{length-map}
use Rattle.spec_lists.specs.Text.{same}
use Rattle.spec_lists.specs.Select.{holds_of, any, select, prepend_if, run, keep_if, after, skip_if}
use Rattle.spec_lists.proofs.laws.Any.{any_map}
use Rattle.spec_lists.proofs.laws.Joined.{map_append, map_map}
use Rattle.spec_token.specs.Word.{link_letter}
use Rattle.spec_grammar.specs.declared.Role.{Role}
use Rattle.spec_grammar.specs.declared.Role.TheVariants.{UagName, HagName, AsgName, Input, RuleWord, UagNamed, HagNamed, CalcWord}
use Rattle.spec_grammar.specs.Sentence.{Tagged}
use Rattle.load_tokens.specs.Arrays.{Arrays, kind_of_number, tagged_at, tagged_from}
use Rattle.spec_file.specs.Limit.{Section, most, item_of}
use Rattle.spec_file.specs.Contents.{has_role, text, texts, until}
use Rattle.spec_file.specs.Refusal.{Context, too_long, item, too_many, duplicates, given_again, undefined, undefined_group, bad_level, unknown_word}
use Rattle.spec_file.specs.Refusal.{letters_given}
use Rattle.spec_file.specs.Load.{bad_calculation}
use Rattle.load_spans.specs.Roles.{arrays}
use Rattle.load_spans.specs.Seek.{seek}

abbrev pub bare : Tagged → Tagged
bare x = record { token = record { kind = kind_of_number 0; place = 0; text = text x }; role = x.role }

-- kept tokens whose kinds and places are not looked at
pub bare_from :
    (s : List ℕ) (a : Arrays) (roles : List ℕ) (i k : ℕ) → tagged_from s (arrays a.starts a.ends) roles i k ≡ map bare (tagged_from s a roles i k)
unfolding tagged_from
bare_from s a roles i zero = refl
bare_from s a roles i (suc k) = ap (λ (l : List Tagged). bare (tagged_at s a roles i) ∷ l) (bare_from s a roles (suc i) k)

-- ---- a test that does not look at them

module _ (p : Tagged → Bool) (e : (x : Tagged) → p (bare x) ≡ p x) where
  pub select_bare : (xs : List Tagged) → select p (map bare xs) ≡ map bare (select p xs)
  select_bare [] = refl
  select_bare (x ∷ xs) = rw (e x, select_bare xs) (go (p x))
    where
      go : (b : Bool) → prepend_if b (bare x) (map bare (select p xs)) ≡ map bare (prepend_if b x (select p xs))
      go true = refl
      go false = refl

  pub run_bare : (xs : List Tagged) → run p (map bare xs) ≡ map bare (run p xs)
  run_bare [] = refl
  run_bare (x ∷ xs) = rw (e x, run_bare xs) (go (p x))
    where
      go : (b : Bool) → keep_if b (bare x) (map bare (run p xs)) ≡ map bare (keep_if b x (run p xs))
      go true = refl
      go false = refl

  pub after_bare : (xs : List Tagged) → after p (map bare xs) ≡ map bare (after p xs)
  after_bare [] = refl
  after_bare (x ∷ xs) = rw (e x, after_bare xs) (go (p x))
    where
      go : (b : Bool) → skip_if b (map bare (after p xs)) (bare x ∷ map bare xs) ≡ map bare (skip_if b (after p xs) (x ∷ xs))
      go true = refl
      go false = refl

pub until_bare : (r : Role) (xs : List Tagged) → until r (map bare xs) ≡ map bare (until r xs)
until_bare r = run_bare (λ x. not (has_role r x)) (λ x. refl)

pub texts_bare : (r : Role) (xs : List Tagged) → texts r (map bare xs) ≡ texts r xs
texts_bare r xs = ap (map text) (select_bare (has_role r) (λ x. refl) xs) ∙ map_map text bare (select (has_role r) xs)

-- ---- the causes

abbrev pub bare_context : Context → Context
bare_context c = record { backwards = map bare c.backwards; here = bare c.here; onwards = map bare c.onwards }

pub seek_bare : (p : Context → Bool) → ((c : Context) → p (bare_context c) ≡ p c) → (b xs : List Tagged) → seek p (map bare b) (map bare xs) ≡ seek p b xs
unfolding seek
seek_bare p e b [] = refl
seek_bare p e b (x ∷ xs) = rw (e (record { backwards = b; here = x; onwards = xs }), seek_bare p e (x ∷ b) xs)

pub too_long_bare : (c : Context) → too_long (bare_context c) ≡ too_long c
too_long_bare c = refl

pub bad_level_bare : (c : Context) → bad_level (bare_context c) ≡ bad_level c
bad_level_bare c = refl

pub unknown_word_bare : (c : Context) → unknown_word (bare_context c) ≡ unknown_word c
unknown_word_bare c = refl

pub too_many_bare : (c : Context) → too_many (bare_context c) ≡ too_many c
too_many_bare c = go (item_of c.here.role)
  where
    go :
        (o : Option Section)
        → holds_of o (λ s. leb (most s) (length (select (item s) (map bare c.backwards))))
        ≡ holds_of o (λ s. leb (most s) (length (select (item s) c.backwards)))
    go none = refl
    go (some s) = rw (select_bare (item s) (λ x. refl) c.backwards, length-map (select (item s) c.backwards) bare)

again_bare : (q : Role) (xs ys : List Tagged) (c : Context) → xs ≡ map bare ys → duplicates q xs (bare_context c) ≡ duplicates q ys c
again_bare q xs ys c e =
    let f : Tagged → Bool = λ x. has_role x.role c.here && same (text x) (text c.here) in
    ap (λ (b : Bool). has_role q c.here && b) (ap (any f) e ∙ any_map f bare ys)

pub given_again_bare : (c : Context) → given_again (bare_context c) ≡ given_again c
given_again_bare c =
    rw (
      again_bare UagName (map bare c.backwards) c.backwards c refl,
      again_bare HagName (map bare c.backwards) c.backwards c refl,
      again_bare AsgName (map bare c.backwards) c.backwards c refl,
      again_bare Input (until AsgName (map bare c.backwards)) (until AsgName c.backwards) c (until_bare AsgName c.backwards),
      again_bare CalcWord (until RuleWord (map bare c.backwards)) (until RuleWord c.backwards) c (until_bare RuleWord c.backwards),
    )

undefined_bare : (named defining : Role) (c : Context) → undefined named defining (bare_context c) ≡ undefined named defining c
undefined_bare named defining c =
    let f : Tagged → Bool = λ x. has_role defining x && same (text x) (text c.here) in
    ap (λ (b : Bool). has_role named c.here && not b)
    (ap (any f) (sym (map_append bare c.backwards c.onwards)) ∙ any_map f bare (c.backwards ++ c.onwards))

pub undefined_group_bare : (c : Context) → undefined_group (bare_context c) ≡ undefined_group c
undefined_group_bare c = rw (undefined_bare UagNamed UagName c, undefined_bare HagNamed HagName c)

letters_bare : (c : Context) → letters_given (bare_context c) ≡ letters_given c
letters_bare c =
    rw (until_bare AsgName c.backwards, until_bare AsgName c.onwards, ← map_append bare (until AsgName c.backwards) (until AsgName c.onwards))
    (ap (map (λ (x : Tagged). link_letter (text x))) (select_bare (has_role Input) (λ x. refl) (until AsgName c.backwards ++ until AsgName c.onwards))
    ∙ map_map (λ x. link_letter (text x)) bare (select (has_role Input) (until AsgName c.backwards ++ until AsgName c.onwards)))

pub bad_calculation_bare : (c : Context) → bad_calculation (bare_context c) ≡ bad_calculation c
bad_calculation_bare c = rw (letters_bare c)
