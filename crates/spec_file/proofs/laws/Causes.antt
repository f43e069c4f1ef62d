-- The machine's tests decide the causes, and stand in the order of their turns.
use Rattle.std.proofs.Math.Path.{◌≡◌, refl, subst}
use Rattle.std.proofs.Common.{sym, ap, ◌∙◌}
use Rattle.std.specs.Prelude.{Bool, not, ℕ, suc, ◌≤◌, ◌<◌, get_or}
use Rattle.std.proofs.Math.Bool.{true, false}
use Rattle.std.proofs.lemmas.Bool.{false≢true}
use mathlib.Core.List.{List, [], ◌∷◌, ◌++◌, Memᴰ}
use Rattle.std.proofs.Math.Option.{Option, none, some}
use native.Mathlib.Omega.{arith}
use Rattle.std.proofs.Math.Dec.{leb}
use borrow.Author.Tests.{leb-true, leb-false, not-true}
use Rattle.spec_lists.specs.Select.{holds_of, first}
use Rattle.spec_lists.specs.Every.{Every, nil, cons}
use Rattle.spec_lists.proofs.laws.Both.{both}
use Rattle.spec_lists.proofs.laws.Every.{every, every_implies, first_none, first_is, none_first}
use Rattle.spec_calc.specs.Expression.{Tree}
use Rattle.spec_calc.specs.Reader.{tree_of}
use Rattle.spec_calc.proofs.laws.Theorem.{parses_sound, parses_complete}
use Rattle.spec_grammar.specs.declared.Role.TheVariants.{Calculation}
use Rattle.spec_grammar.specs.Sentence.{Tagged}
use Rattle.spec_file.specs.declared.Refusal.{Refusal}
use Rattle.spec_file.specs.declared.Refusal.TheVariants.{FileTooLong, BadByte, TooDeep, Ungrammatical, StringTooLong, TooMany, GivenAgain, BadLevel}
use Rattle.spec_file.specs.declared.Refusal.TheVariants.{UndefinedGroup, UnknownWord, BadCalculation, NoRoom}
use Rattle.spec_file.specs.Contents.{has_role, text, place}
use Rattle.spec_file.specs.Refusal.{number, turns, turn, Context, contexts, too_long, too_many, given_again, undefined_group, bad_level}
use Rattle.spec_file.specs.Refusal.{unknown_word, letters_given, letters_among, Allowed, Applies, long, many, again, nowhere_defined, level, word, calculation}
use Rattle.spec_file.specs.Acceptance.{Nowhere, Caused, caused}
use Rattle.spec_file.specs.Load.{bad_calculation, Cause, causes, RefusalAt, or_else, refused_by}

-- ---- tests

record Decides (k : Cause) : Type 0 where
  yes : (c : Context) → k.applies c ≡ true → Applies c k.refusal
  no : (c : Context) → k.applies c ≡ false → Applies c k.refusal → ⊥

-- a test that says yes and no cannot be
pub never : {b : Bool} → b ≡ false → b ≡ true → ⊥
never e h = false≢true (sym e ∙ h)

module _ (c : Context) where
  disallowed : (o : Option Tree) → tree_of (text c.here) ≡ o → holds_of o (letters_among (letters_given c)) ≡ false → Allowed c → ⊥
  disallowed o e h a =
      let same : o ≡ some a.tree = sym e ∙ parses_complete (text c.here) a.tree a.says in
      never (subst (λ (x : Option Tree). holds_of x (letters_among (letters_given c)) ≡ false) same h) a.given

  allowed : (o : Option Tree) → tree_of (text c.here) ≡ o → holds_of o (letters_among (letters_given c)) ≡ true → Allowed c
  allowed none e h = absurd (false≢true h)
  allowed (some t) e h = record { tree = t; says = parses_sound (text c.here) t e; given = h }

  bad : bad_calculation c ≡ true → Applies c BadCalculation
  bad e =
      let h = both (has_role Calculation c.here) (not (holds_of (tree_of (text c.here)) (letters_among (letters_given c)))) e in
      calculation h.0 (disallowed (tree_of (text c.here)) refl (not-true (holds_of (tree_of (text c.here)) (letters_among (letters_given c))) h.1))

  good : bad_calculation c ≡ false → Applies c BadCalculation → ⊥
  good e (calculation h n) = go (holds_of (tree_of (text c.here)) (letters_among (letters_given c))) refl
    where
      go : (b : Bool) → holds_of (tree_of (text c.here)) (letters_among (letters_given c)) ≡ b → ⊥
      go true x = n (allowed (tree_of (text c.here)) refl x)
      go false x = never e (rw (h, x))

not_long : (c : Context) → too_long c ≡ false → Applies c StringTooLong → ⊥
not_long c e (long h) = never e h

not_many : (c : Context) → too_many c ≡ false → Applies c TooMany → ⊥
not_many c e (many h) = never e h

not_again : (c : Context) → given_again c ≡ false → Applies c GivenAgain → ⊥
not_again c e (again h) = never e h

pub not_defined : (c : Context) → undefined_group c ≡ false → Applies c UndefinedGroup → ⊥
not_defined c e (nowhere_defined h) = never e h

not_level : (c : Context) → bad_level c ≡ false → Applies c BadLevel → ⊥
not_level c e (level h) = never e h

not_word : (c : Context) → unknown_word c ≡ false → Applies c UnknownWord → ⊥
not_word c e (word h) = never e h

-- some causes, each decided by its test, whose turns go from n to 10
data Ordered : ℕ → List Cause → Type 0 where
  behind_all : Ordered 11 []
  in_order : {n : ℕ} {k : Cause} {ks : List Cause} → turn k.refusal ≡ n → Decides k → Ordered (suc n) ks → Ordered n (k ∷ ks)

ordered : Ordered 4 causes
ordered =
    in_order refl (record { yes = λ c h. long h; no = not_long })
    (in_order refl (record { yes = λ c h. many h; no = not_many })
    (in_order refl (record { yes = λ c h. again h; no = not_again })
    (in_order refl (record { yes = λ c h. nowhere_defined h; no = not_defined })
    (in_order refl (record { yes = λ c h. level h; no = not_level })
    (in_order refl (record { yes = λ c h. word h; no = not_word }) (in_order refl (record { yes = bad; no = good }) behind_all))))))

-- ---- turns

by_turn : List Refusal
by_turn =
    FileTooLong ∷ BadByte ∷ TooDeep ∷ Ungrammatical ∷ StringTooLong ∷ TooMany ∷ GivenAgain ∷ UndefinedGroup ∷ BadLevel ∷ UnknownWord ∷ BadCalculation ∷ NoRoom ∷ []

turned : (r : Refusal) → get_or by_turn (turn r) NoRoom ≡ r
unfolding by_turn
turned FileTooLong = refl
turned BadByte = refl
turned TooDeep = refl
turned Ungrammatical = refl
turned StringTooLong = refl
turned TooMany = refl
turned GivenAgain = refl
turned UndefinedGroup = refl
turned BadLevel = refl
turned UnknownWord = refl
turned BadCalculation = refl
turned NoRoom = refl

one_turn : (a b : Refusal) → turn a ≡ turn b → a ≡ b
one_turn a b e = sym (turned a) ∙ ap (λ (n : ℕ). get_or by_turn n NoRoom) e ∙ turned b

-- each number stands in the order at its turn
pub number_at_turn : (r : Refusal) → get_or turns (turn r) 0 ≡ number r
number_at_turn FileTooLong = refl
number_at_turn BadByte = refl
number_at_turn TooDeep = refl
number_at_turn Ungrammatical = refl
number_at_turn StringTooLong = refl
number_at_turn TooMany = refl
number_at_turn GivenAgain = refl
number_at_turn UndefinedGroup = refl
number_at_turn BadLevel = refl
number_at_turn UnknownWord = refl
number_at_turn BadCalculation = refl
number_at_turn NoRoom = refl

-- the refusals that have causes at tokens stand together
cause_turns : {c : Context} {r : Refusal} → Applies c r → (4 ≤ turn r) × (turn r ≤ 10)
cause_turns (long h) = omega arith
cause_turns (many h) = omega arith
cause_turns (again h) = omega arith
cause_turns (nowhere_defined h) = omega arith
cause_turns (level h) = omega arith
cause_turns (word h) = omega arith
cause_turns (calculation h n) = omega arith

-- these refusals, in the order of their turns
abbrev pub of_tokens : List Refusal
of_tokens = StringTooLong ∷ TooMany ∷ GivenAgain ∷ UndefinedGroup ∷ BadLevel ∷ UnknownWord ∷ BadCalculation ∷ []

pub cause_among : {c : Context} {r : Refusal} → Applies c r → Memᴰ r of_tokens
cause_among (long h) = Memᴰ.head refl
cause_among (many h) = Memᴰ.tail (Memᴰ.head refl)
cause_among (again h) = Memᴰ.tail (Memᴰ.tail (Memᴰ.head refl))
cause_among (nowhere_defined h) = Memᴰ.tail (Memᴰ.tail (Memᴰ.tail (Memᴰ.head refl)))
cause_among (level h) = Memᴰ.tail (Memᴰ.tail (Memᴰ.tail (Memᴰ.tail (Memᴰ.head refl))))
cause_among (word h) = Memᴰ.tail (Memᴰ.tail (Memᴰ.tail (Memᴰ.tail (Memᴰ.tail (Memᴰ.head refl)))))
cause_among (calculation h n) =
    Memᴰ.tail (Memᴰ.tail (Memᴰ.tail (Memᴰ.tail (Memᴰ.tail (Memᴰ.tail (Memᴰ.head refl))))))

-- ---- from the tests to the causes

module _ (cs : List Context) where
  -- no refusal whose turn is below n has a cause
  Below : ℕ → Type 0
  Below n = (r : Refusal) → turn r < n → Nowhere r cs

  below_four : Below 4
  unfolding Below
  below_four r l = every (λ c a. omega (arith, (cause_turns a).0)) cs

  below_next : {n : ℕ} (k : Cause) → turn k.refusal ≡ n → Below n → Nowhere k.refusal cs → Below (suc n)
  unfolding Below
  below_next {n} k e b w r l = go (leb n (turn r)) refl
    where
      go : (t : Bool) → leb n (turn r) ≡ t → Nowhere r cs
      go true h =
          let m = leb-true n (turn r) h in
          let same : turn k.refusal ≡ turn r = omega arith in
          subst (λ (x : Refusal). Nowhere x cs) (one_turn k.refusal r same) w
      go false h = b r (leb-false n (turn r) h)

  no_cause : {n : ℕ} {ks : List Cause} → Ordered n ks → Below n → refused_by ks cs ≡ none → Below 11
  no_cause behind_all b e = b
  no_cause {n} (in_order {k = k} {ks = ks} m d o) b e = go (first k.applies cs) refl e (λ c f. no_cause o c f)
    where
      go :
          (f : Option Context) → first k.applies cs ≡ f → or_else k.refusal f (refused_by ks cs) ≡ none
          → (Below (suc n) → refused_by ks cs ≡ none → Below 11) → Below 11
      go none h e ih = ih (below_next k m b (every_implies d.no (first_none k.applies cs h))) e
      go (some c) h e ih = let z : ◌≡◌ {A = ℕ} 0 1 = cc in absurd (omega arith)

  -- where the tests find nothing, no refusal has a cause
  pub nowhere : refused_by causes cs ≡ none → (r : Refusal) → Nowhere r cs
  unfolding Below
  nowhere e r = go (leb (turn r) 10) refl
    where
      go : (t : Bool) → leb (turn r) 10 ≡ t → Nowhere r cs
      go true h = no_cause ordered below_four e r (let m = leb-true (turn r) 10 h in omega arith)
      go false h = let m = leb-false (turn r) 10 h in every (λ c a. omega (arith, (cause_turns a).1)) cs

  -- ---- and back

  untrue : {k : Cause} → Decides k → (ds : List Context) → Nowhere k.refusal ds → Every (λ c. k.applies c ≡ false) ds
  untrue {k} d ds w = every_implies by_test w
    where
      by_test : (c : Context) → (Applies c k.refusal → ⊥) → k.applies c ≡ false
      by_test c n = go (k.applies c) refl
        where
          go : (b : Bool) → k.applies c ≡ b → b ≡ false
          go true h = absurd (n (d.yes c h))
          go false h = refl

  unanswered_by : {n : ℕ} {ks : List Cause} → Ordered n ks → ((r : Refusal) → Nowhere r cs) → refused_by ks cs ≡ none
  unanswered_by behind_all w = refl
  unanswered_by (in_order {k = k} m d o) w = rw (none_first k.applies (untrue d cs (w k.refusal)), unanswered_by o w)

  -- where no refusal has a cause, none is answered
  pub unanswered : ((r : Refusal) → Nowhere r cs) → refused_by causes cs ≡ none
  unanswered = unanswered_by ordered

-- ---- the cause that is answered

module _ (xs : List Tagged) where
  -- is the soonest, at its first token
  answered : {n : ℕ} {ks : List Cause} {x : RefusalAt} → Ordered n ks → Below (contexts xs) n → refused_by ks (contexts xs) ≡ some x → Caused xs x.refusal x.place
  unfolding Below
  answered behind_all b e = let z : ◌≡◌ {A = ℕ} 0 1 = cc in absurd (omega arith)
  answered {n} {x = x} (in_order {k = k} {ks = ks} m d o) b e = go (first k.applies (contexts xs)) refl e (λ c f. answered o c f)
    where
      go :
          (f : Option Context) → first k.applies (contexts xs) ≡ f → or_else k.refusal f (refused_by ks (contexts xs)) ≡ some x
          → (Below (contexts xs) (suc n) → refused_by ks (contexts xs) ≡ some x → Caused xs x.refusal x.place) → Caused xs x.refusal x.place
      go none h e ih = ih (below_next (contexts xs) k m b (every_implies d.no (first_none k.applies (contexts xs) h))) e
      go (some c) h e ih =
          let same : record { refusal = k.refusal; place = place c.here } ≡ x = cc in
          let f = first_is k.applies (contexts xs) c h in
          subst
          (λ (y : RefusalAt). Caused xs y.refusal y.place) same
          (caused
          f.earlier
          f.later
          f.among
          (d.yes c f.pass)
          (every_implies d.no f.fail)
          (λ r l. b r (rw m at l)))

  pub caused_by : {x : RefusalAt} → refused_by causes (contexts xs) ≡ some x → Caused xs x.refusal x.place
  caused_by e = answered ordered (below_four (contexts xs)) e

  -- and such a cause is answered
  module _
      {r : Refusal} {c : Context} (earlier later : List Context) (s : contexts xs ≡ earlier ++ (c ∷ later)) (a : Applies c r) (w : Nowhere r earlier)
      (soonest : (sooner : Refusal) → turn sooner < turn r → Nowhere sooner (contexts xs))
    where
      first_here : (k : Cause) → Decides k → k.refusal ≡ r → first k.applies (contexts xs) ≡ some c
      first_here k d e = ap (first k.applies) s ∙ go earlier (subst (λ (q : Refusal). Nowhere q earlier) (sym e) w)
        where
          pass : k.applies c ≡ true
          pass = by_test (k.applies c) refl
            where
              by_test : (b : Bool) → k.applies c ≡ b → b ≡ true
              by_test true h = refl
              by_test false h = absurd (d.no c h (subst (Applies c) (sym e) a))

          go : (early : List Context) → Nowhere k.refusal early → first k.applies (early ++ (c ∷ later)) ≡ some c
          go early n = over early (untrue (contexts xs) d early n)
            where
              over : (early : List Context) → Every (λ y. k.applies y ≡ false) early → first k.applies (early ++ (c ∷ later)) ≡ some c
              over [] nil = rw pass
              over (y ∷ early) (cons h n) = rw h (over early n)

      answers : {n : ℕ} {ks : List Cause} → Ordered n ks → n ≤ turn r → refused_by ks (contexts xs) ≡ some (record { refusal = r; place = place c.here })
      answers behind_all l = absurd (omega (arith, (cause_turns a).1))
      answers {n} (in_order {k = k} {ks = ks} m d o) l = go (leb (turn r) n) refl (λ h. answers o h)
        where
          go :
              (b : Bool) → leb (turn r) n ≡ b → (suc n ≤ turn r → refused_by ks (contexts xs) ≡ some (record { refusal = r; place = place c.here }))
              → or_else k.refusal (first k.applies (contexts xs)) (refused_by ks (contexts xs)) ≡ some (record { refusal = r; place = place c.here })
          go true h ih =
              let j = leb-true (turn r) n h in
              let same : k.refusal ≡ r = one_turn k.refusal r (omega arith) in
              rw (first_here k d same, same)
          go false h ih =
              let j = leb-false (turn r) n h in
              rw (none_first k.applies (untrue (contexts xs) d (contexts xs) (soonest k.refusal (omega arith)))) (ih (omega arith))

  pub caused_is : {r : Refusal} {p : ℕ} → Caused xs r p → refused_by causes (contexts xs) ≡ some (record { refusal = r; place = p })
  caused_is (caused earlier later s a w soonest) = answers earlier later s a w soonest ordered (cause_turns a).0
