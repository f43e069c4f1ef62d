-- The refusals 5 to 7, 12, 8 to 10, each from the first token to which its cause applies.
use Rattle.std.specs.Prelude.{◌≡◌, refl, Bool, true, false, cond, List, [], ◌∷◌, ℕ, zero, suc, ◌+◌, ◌-◌, ltb, length, get_or, Option, Some, None, Result, Ok, Err}
use Rattle.std.proofs.Common.{sym, ap, ◌∙◌, arith}
use Rattle.std.proofs.Math.Option as math
use Rattle.spec_lists.specs.Select as lists
use Rattle.spec_grammar.specs.Sentence.{Tagged}
use Rattle.spec_file.specs.declared.Refusal.{Refusal}
use Rattle.spec_file.specs.declared.Refusal.TheVariants.{StringTooLong, TooMany, GivenAgain, BadLevel, UndefinedGroup, UnknownWord, BadCalculation}
use Rattle.spec_file.specs.Refusal.{Context, contexts, too_long, too_many, given_again, undefined_group, bad_level, unknown_word}
use Rattle.spec_file.specs.Load.{RefusalAt, or_else, causes, refused_by, by_causes, bad_calculation}
use Rattle.load_tokens.specs.declared.Token.{Token}
use Rattle.load_tokens.specs.Arrays.{Arrays, tagged_from}
use Rattle.load_tokens.specs.Views.{starts, ends, roles, kept, blank}
use Rattle.load_tokens.specs.laws.Views.{place_at}
use Rattle.load_spans.specs.Roles.{arrays, tokens}
use Rattle.load_spans.specs.Seek.{seek}
use Rattle.load_spans.specs.laws.Seek.{refused_at}
use Rattle.load_spans.specs.laws.Bare.{bare_from, bare_context, seek_bare, too_long_bare, too_many_bare, given_again_bare, bad_level_bare, unknown_word_bare}
use Rattle.load_spans.specs.laws.Bare.{undefined_group_bare, bad_calculation_bare}
use Rattle.load_spans.specs.Search.{first_of, first_in}
use Rattle.load_causes.specs.Cause.{refusal_at, verdict_of, said, JudgedTokens}

-- ---- a cause that never applies

module _ (p : Context → Bool) (e : (c : Context) → p c ≡ false) where
  seek_never : (b xs : List Tagged) → seek p b xs ≡ length xs
  unfolding seek
  seek_never b [] = refl
  seek_never b (x ∷ xs) = rw (e (record { backwards = b; here = x; onwards = xs }), seek_never (x ∷ b) xs)

tagged_length : (s : List ℕ) (a : Arrays) (roles : List ℕ) (i k : ℕ) → length (tagged_from s a roles i k) ≡ k
unfolding tagged_from
tagged_length s a roles i zero = refl
tagged_length s a roles i (suc k) = ap suc (tagged_length s a roles (suc i) k)

pub first_never :
    (p : Context → Bool) → ((c : Context) → p c ≡ false) → (s starts ends roles : List ℕ) (n : ℕ)
    → n ≡ first_of p s starts ends roles n
first_never p e s starts ends roles n =
    let z : n - 0 ≡ n = omega arith in
    sym (seek_never p e [] (tokens s (arrays starts ends) roles 0 n) ∙ tagged_length s (arrays starts ends) roles 0 (n - 0) ∙ z)

-- ---- the answers

-- an answer of a cause
abbrev pub Answer : Type 0
Answer = Result (Unit {0}) (Refusal × ℕ)

-- the first of some answers that refuses
abbrev pub first_error : List Answer → Answer
first_error [] = Ok tt
first_error (Ok u ∷ rs) = first_error rs
first_error (Err e ∷ rs) = Err e

pub one_error : (a : Answer) → a ≡ first_error (a ∷ [])
one_error (Ok u) = refl
one_error (Err e) = refl

abbrev refused : List Answer → math.Option RefusalAt
refused [] = math.none
refused (Ok u ∷ rs) = refused rs
refused (Err e ∷ rs) = math.some (record { refusal = e.0; place = e.1 })

verdict_same : (xs : List Tagged) (rs : List Answer) → by_causes xs (refused rs) ≡ verdict_of xs (first_error rs)
verdict_same xs [] = refl
verdict_same xs (Ok u ∷ rs) = verdict_same xs rs
verdict_same xs (Err e ∷ rs) = refl

module _ (s : List ℕ) (ts : List Token) where
  -- the answer of a cause
  abbrev pub answer : Refusal → (Context → Bool) → Answer
  answer k p = refusal_at ts k (first_in p s ts)

  module _ (k : Refusal) (p : Context → Bool) (bare : (c : Context) → p (bare_context c) ≡ p c) where
    -- a search looks at no kinds or places
    seek_is : first_of p s (starts ts) (ends ts) (roles ts) (length ts) ≡ seek p [] (said s ts)
    seek_is =
        let z : length ts - 0 ≡ length ts = omega arith in
        ap (seek p []) (ap (tagged_from s (arrays (starts ts) (ends ts)) (roles ts) 0) z ∙ bare_from s (kept ts) (roles ts) 0 (length ts))
        ∙ seek_bare p bare [] (said s ts)

    one : (rs : List Answer) → or_else k (lists.first p (contexts (said s ts))) (refused rs) ≡ refused (answer k p ∷ rs)
    one rs =
        let j = first_of p s (starts ts) (ends ts) (roles ts) (length ts) in
        let z : 0 + j ≡ j = omega arith in
        refused_at s (kept ts) (roles ts) k p (refused rs) [] 0 (length ts)
        ∙ rw (← seek_is, z, place_at ts j) (go (ltb j (length ts)))
      where
        go :
            (b : Bool)
            → cond b
            (math.some
            (record { refusal = k; place = (get_or ts (first_of p s (starts ts) (ends ts) (roles ts) (length ts)) blank).place }))
            (refused rs)
            ≡ refused (refusal_at ts k (cond b (Some (first_of p s (starts ts) (ends ts) (roles ts) (length ts))) None) ∷ rs)
        go true = refl
        go false = refl

  -- the answers of all causes, in their order
  abbrev pub answers : List Answer
  answers =
      answer StringTooLong too_long ∷ answer TooMany too_many ∷ answer GivenAgain given_again ∷ answer UndefinedGroup undefined_group
      ∷ answer BadLevel bad_level ∷ answer UnknownWord unknown_word ∷ answer BadCalculation bad_calculation ∷ []

  all_causes : refused_by causes (contexts (said s ts)) ≡ refused answers
  all_causes =
      let c7 = one BadCalculation bad_calculation bad_calculation_bare [] in
      let c6 = ap (or_else UnknownWord (lists.first unknown_word (contexts (said s ts)))) c7 ∙ one UnknownWord unknown_word unknown_word_bare _ in
      let c5 = ap (or_else BadLevel (lists.first bad_level (contexts (said s ts)))) c6 ∙ one BadLevel bad_level bad_level_bare _ in
      let c4 = ap (or_else UndefinedGroup (lists.first undefined_group (contexts (said s ts)))) c5 ∙ one UndefinedGroup undefined_group undefined_group_bare _ in
      let c3 = ap (or_else GivenAgain (lists.first given_again (contexts (said s ts)))) c4 ∙ one GivenAgain given_again given_again_bare _ in
      let c2 = ap (or_else TooMany (lists.first too_many (contexts (said s ts)))) c3 ∙ one TooMany too_many too_many_bare _ in
      ap (or_else StringTooLong (lists.first too_long (contexts (said s ts)))) c2 ∙ one StringTooLong too_long too_long_bare _

  -- the first refusal is the verdict
  pub judged : {r : Answer} → r ≡ first_error answers → JudgedTokens s ts r
  judged e = record { same = ap (by_causes (said s ts)) all_causes ∙ verdict_same (said s ts) answers ∙ ap (verdict_of (said s ts)) (sym e) }

  -- what a cause answers, from what the search for it found
  pub answered : (k : Refusal) (p : Context → Bool) {o : Option ℕ} {r : Answer} → o ≡ first_in p s ts → r ≡ refusal_at ts k o → answer k p ≡ r
  answered k p e h = sym (h ∙ ap (refusal_at ts k) e)
