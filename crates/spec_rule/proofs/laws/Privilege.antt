-- What our functions decide is what 001's steps say: the access and the trap of the rules that pass, the letter, the group that answers.
use Rattle.std.specs.Prelude.{◌≡◌, refl, Bool, true, false, ◌&&◌, List, [], ◌∷◌, map, ◌↔◌, ◌⊎◌, ℕ}
use Rattle.std.proofs.Common.{sym, ap₂, subst, ◌∙◌, inl, inr, arith, eqb-true}
use Rattle.std.proofs.Math.Path.{ap}
use Rattle.std.proofs.lemmas.Bool.{false≢true}
use Rattle.std.proofs.Math.Option.{Option, none, some}
use Rattle.spec_lists.specs.Text.{same}
use Rattle.spec_lists.specs.Select.{select, prepend_if, first, first_if}
use Rattle.spec_lists.proofs.laws.Both.{both}
use Rattle.spec_lists.proofs.laws.Same.{same_true, same_self}
use Rattle.spec_rule.specs.declared.Access.{Access}
use Rattle.spec_rule.specs.declared.Access.TheVariants as access
use Rattle.spec_rule.specs.declared.Decision.{Decision}
use Rattle.spec_rule.specs.declared.Stop.{Stop}
use Rattle.spec_rule.specs.declared.Stop.TheVariants.{Nothing, Letter}
use Rattle.spec_rule.specs.Question.{Question}
use Rattle.spec_rule.specs.Rule.{Rule, rank, passes, greater, greatest, gives_write, trap_of, access_by, trap_by}
use Rattle.spec_rule.specs.Decision.{with_letter, decision_by}
use Rattle.spec_rule.specs.Answering.{default_name, named, or_default, answering}
use Rattle.spec_rule.specs.Privilege.{Some, here, further, FirstSuch, NoneNamed, Answers, by_name, by_default, by_none, Passes}
use Rattle.spec_rule.specs.Privilege.{Gives, Greatest, Chosen, Determined, by_group, by_no_group}
use Rattle.spec_rule.proofs.laws.Asked.{passes_is}
use Rattle.spec_rule.proofs.laws.Stopped.{FirstStopped, letter_is}
use Rattle.spec_rule.proofs.laws.Such.{first_such, such_first, no_first, none_such}

-- ---- the access

write_read : access.Write ≡ access.Read → ⊥
write_read e = omega (arith, ap rank e)

none_write : access.None ≡ access.Write → ⊥
none_write e = omega (arith, ap rank e)

none_read : access.None ≡ access.Read → ⊥
none_read e = omega (arith, ap rank e)

not_nil : {A : Type 0} {P : A → Type 0} → Some P [] → ⊥
not_nil s = elim s [ ]

among_later : {A : Type 0} {P : A → Type 0} {x : A} {xs : List A} → (P x → ⊥) → Some P (x ∷ xs) → Some P xs
among_later n (here h) = absurd (n h)
among_later n (further s) = s

module _ {A : Type 0} (P : A → Type 0) (permission : A → Access) where
  abbrev Given : List A → Access → Type 0
  Given xs a = Some (λ x. P x × (permission x ≡ a)) xs

  -- the access that the best of those gives that have P
  data Best (xs : List A) : Access → Type 0 where
    a_write : Given xs access.Write → Best xs access.Write
    a_read : (Given xs access.Write → ⊥) → Given xs access.Read → Best xs access.Read
    nothing : (Given xs access.Write → ⊥) → (Given xs access.Read → ⊥) → Best xs access.None

  module _ (r : A) {rs : List A} where
    skipped : (P r → ⊥) → {a : Access} → Best rs a → Best (r ∷ rs) a
    skipped n (a_write w) = a_write (further w)
    skipped n (a_read w s) = a_read (λ t. w (among_later (λ g. n g.0) t)) (further s)
    skipped n (nothing w v) = nothing (λ t. w (among_later (λ g. n g.0) t)) (λ t. v (among_later (λ g. n g.0) t))

    -- r gives p, and so no other access
    other : {p a : Access} → permission r ≡ p → (p ≡ a → ⊥) → (Given rs a → ⊥) → Given (r ∷ rs) a → ⊥
    other e n w t = w (among_later (λ g. n (sym e ∙ g.1)) t)

    counted : (p : Access) → permission r ≡ p → P r → {a : Access} → Best rs a → Best (r ∷ rs) (greater p a)
    counted access.Write e h (a_write w) = a_write (further w)
    counted access.Write e h (a_read w s) = a_write (here (h, e))
    counted access.Write e h (nothing w v) = a_write (here (h, e))
    counted access.Read e h (a_write w) = a_write (further w)
    counted access.Read e h (a_read w s) = a_read (other e (λ z. write_read (sym z)) w) (further s)
    counted access.Read e h (nothing w v) = a_read (other e (λ z. write_read (sym z)) w) (here (h, e))
    counted access.None e h (a_write w) = a_write (further w)
    counted access.None e h (a_read w s) = a_read (other e none_write w) (further s)
    counted access.None e h (nothing w v) = nothing (other e none_write w) (other e none_read v)

  -- a test that decides P finds the greatest
  module _ (p : A → Bool) (decides : (x : A) → (p x ≡ true) ↔ P x) where
    best : (xs : List A) → Best xs (greatest (map permission (select p xs)))
    best [] = nothing not_nil not_nil
    best (r ∷ rs) = go (p r) refl (best rs)
      where
        go : (b : Bool) → p r ≡ b → Best rs (greatest (map permission (select p rs))) → Best (r ∷ rs) (greatest (map permission (prepend_if b r (select p rs))))
        go true e h = counted r (permission r) refl ((decides r).0 e) h
        go false e h = skipped r (λ y. false≢true (sym e ∙ (decides r).1 y)) h

    pub greatest_is : (xs : List A) → Greatest (Given xs) (greatest (map permission (select p xs)))
    greatest_is xs = go (best xs)
      where
        go : {a : Access} → Best xs a → Greatest (Given xs) a
        go (a_write w) =
            record {
              write = (λ e. w, λ s. refl);
              read = (λ e. absurd (write_read e), λ s. absurd (s.0 w));
              neither = (λ e. absurd (none_write (sym e)), λ s. absurd (s.0 w));
            }
        go (a_read w s) =
            record {
              write = (λ e. absurd (write_read (sym e)), λ t. absurd (w t));
              read = (λ e. (w, s), λ t. refl);
              neither = (λ e. absurd (none_read (sym e)), λ t. absurd (t.1 s));
            }
        go (nothing w v) =
            record {
              write = (λ e. absurd (none_write e), λ t. absurd (w t));
              read = (λ e. absurd (none_read e), λ t. absurd (v t.1));
              neither = (λ e. (w, v), λ t. refl);
            }

pub one_greatest : {G : Access → Type 0} {a b : Access} → Greatest G a → Greatest G b → a ≡ b
one_greatest {a = a} {b = b} c k = by a refl
  where
    by : (x : Access) → a ≡ x → a ≡ b
    by access.Write h = h ∙ sym (k.write.1 (c.write.0 h))
    by access.Read h = h ∙ sym (k.read.1 (c.read.0 h))
    by access.None h = h ∙ sym (k.neither.1 (c.neither.0 h))

-- ---- the trap

first_select : {A : Type 0} (p g : A → Bool) (xs : List A) → first g (select p xs) ≡ first (λ x. p x && g x) xs
first_select p g [] = refl
first_select p g (x ∷ xs) = go (p x) (first_select p g xs)
  where
    go :
        (b : Bool) → first g (select p xs) ≡ first (λ y. p y && g y) xs
        → first g (prepend_if b x (select p xs)) ≡ first_if (b && g x) x (first (λ y. p y && g y) xs)
    go true e = ap (first_if (g x) x) e
    go false e = e

rank_write : (a : Access) → rank a ≡ rank access.Write → a ≡ access.Write
rank_write access.None e = absurd (omega arith)
rank_write access.Read e = absurd (omega arith)
rank_write access.Write e = refl

module _ (q : Question) where
  gives : Rule → Bool
  gives r = passes q r && gives_write r

  gives_is : (r : Rule) → (gives r ≡ true) ↔ Gives q access.Write r
  unfolding gives
  gives_is r = (
    λ e.
        let h = both (passes q r) (gives_write r) e in
        ((passes_is q r).0 h.0, rank_write r.permission (eqb-true (rank r.permission) (rank access.Write) h.1)),
    λ g. rw ((passes_is q r).1 g.0, g.1),
  )

  abbrev FirstTraps : List Rule → Type 0
  FirstTraps rs = (r : Rule) × FirstSuch (Gives q access.Write) rs r × (r.trap ≡ true)

  trap_first : (rs : List Rule) → trap_by q rs ≡ trap_of (first gives rs)
  unfolding gives
  trap_first rs = ap trap_of (first_select (passes q) gives_write rs)

  trap_sound : (rs : List Rule) → trap_by q rs ≡ true → FirstTraps rs
  trap_sound rs e = go (first gives rs) refl (sym (trap_first rs) ∙ e)
    where
      go : (o : Option Rule) → first gives rs ≡ o → trap_of o ≡ true → FirstTraps rs
      go none f h = absurd (false≢true h)
      go (some r) f h = (r, first_such gives gives_is rs r f, h)

  trap_complete : (rs : List Rule) → FirstTraps rs → trap_by q rs ≡ true
  trap_complete rs t = trap_first rs ∙ ap trap_of (such_first gives gives_is t.1) ∙ t.2

  -- ---- the decision

  pub decision_chosen : (rs : List Rule) → Chosen q rs (decision_by q rs)
  decision_chosen rs =
      record {
        maximum = greatest_is (Passes q) (λ r. r.permission) (passes q) (passes_is q) rs;
        trap = (trap_sound rs, trap_complete rs);
        letter = letter_is q (access_by q rs) rs;
      }

  pub one_chosen : {rs : List Rule} {d e : Decision} → Chosen q rs d → Chosen q rs e → d ≡ e
  one_chosen {rs = rs} {d = d} {e = e} c k =
      ap₂ (λ (a : Access) (t : Bool). with_letter a t d.letter) same_access (by_trap d.trap e.trap refl refl)
      ∙ ap (with_letter e.access e.trap) (by_letter d.letter e.letter refl refl)
    where
      same_access : d.access ≡ e.access
      same_access = one_greatest c.maximum k.maximum

      by_trap : (t u : Bool) → d.trap ≡ t → e.trap ≡ u → d.trap ≡ e.trap
      by_trap true u f g = f ∙ sym (k.trap.1 (c.trap.0 f))
      by_trap false true f g = c.trap.1 (k.trap.0 g) ∙ sym g
      by_trap false false f g = f ∙ sym g

      by_letter : (s u : Stop) → d.letter ≡ s → e.letter ≡ u → d.letter ≡ e.letter
      by_letter (Letter i) u f g = f ∙ sym ((k.letter i).1 (subst (λ (a : Access). FirstStopped q a rs i) same_access ((c.letter i).0 f)))
      by_letter Nothing (Letter i) f g = (c.letter i).1 (subst (λ (a : Access). FirstStopped q a rs i) (sym same_access) ((k.letter i).0 g)) ∙ sym g
      by_letter Nothing Nothing f g = f ∙ sym g

-- ---- the group that answers

module _ {G : Type 0} (name : G → List ℕ) where
  pub named_is : (n : List ℕ) (g : G) → (same (name g) n ≡ true) ↔ (name g ≡ n)
  named_is n g = (same_true (name g) n, λ e. rw e (same_self n))

  module _ (gs : List G) where
    in_default : (n : List ℕ) → (n ≡ []) ⊎ NoneNamed name n gs → Answers name n gs (named name default_name gs)
    in_default n h = go (named name default_name gs) refl
      where
        go : (o : Option G) → named name default_name gs ≡ o → Answers name n gs o
        go none e = by_none h (no_first (λ g. same (name g) default_name) (named_is default_name) gs e)
        go (some g) e = by_default h (first_such (λ g. same (name g) default_name) (named_is default_name) gs g e)

    answering_sound : (n : List ℕ) → Answers name n gs (answering name n gs)
    answering_sound [] = in_default [] (inl refl)
    answering_sound (b ∷ n) = go (named name (b ∷ n) gs) refl
      where
        go : (o : Option G) → named name (b ∷ n) gs ≡ o → Answers name (b ∷ n) gs (or_default name o gs)
        go none e = in_default (b ∷ n) (inr (no_first (λ g. same (name g) (b ∷ n)) (named_is (b ∷ n)) gs e))
        go (some g) e =
            by_name (λ z. let w : ◌≡◌ {A = ℕ} 0 1 = cc in omega arith) (first_such (λ g. same (name g) (b ∷ n)) (named_is (b ∷ n)) gs g e)

    answering_complete : (n : List ℕ) {o : Option G} → Answers name n gs o → answering name n gs ≡ o
    answering_complete [] (by_name h f) = absurd (h refl)
    answering_complete [] (by_default h f) = such_first (λ g. same (name g) default_name) (named_is default_name) f
    answering_complete [] (by_none h f) = none_such (λ g. same (name g) default_name) (named_is default_name) f
    answering_complete (b ∷ n) (by_name h f) = rw (such_first (λ g. same (name g) (b ∷ n)) (named_is (b ∷ n)) f)
    answering_complete (b ∷ n) (by_default (inl e) f) = let w : ◌≡◌ {A = ℕ} 0 1 = cc in absurd (omega arith)
    answering_complete (b ∷ n) (by_default (inr e) f) =
        rw (none_such (λ g. same (name g) (b ∷ n)) (named_is (b ∷ n)) e) (such_first (λ g. same (name g) default_name) (named_is default_name) f)
    answering_complete (b ∷ n) (by_none (inl e) f) = let w : ◌≡◌ {A = ℕ} 0 1 = cc in absurd (omega arith)
    answering_complete (b ∷ n) (by_none (inr e) f) =
        rw (none_such (λ g. same (name g) (b ∷ n)) (named_is (b ∷ n)) e) (none_such (λ g. same (name g) default_name) (named_is default_name) f)

  pub answering_is : (n : List ℕ) (gs : List G) (o : Option G) → (answering name n gs ≡ o) ↔ Answers name n gs o
  answering_is n gs o = (λ e. subst (Answers name n gs) e (answering_sound gs n), answering_complete gs n)

  -- ---- all three steps

  -- rules_from: the rules of the group that answers, none where no group does
  pub determined_is :
      (rules : G → List Rule) (rules_from : Option G → List Rule) → rules_from none ≡ [] → ((g : G) → rules_from (some g) ≡ rules g)
      → (gs : List G) (q : Question) (d : Decision)
      → (decision_by q (rules_from (answering name q.group gs)) ≡ d) ↔ Determined name rules gs q d
  determined_is rules rules_from of_none of_group gs q d =
      (λ e. sound (answering name q.group gs) (answering_sound gs q.group) e, λ t. complete t)
    where
      sound : (o : Option G) → Answers name q.group gs o → decision_by q (rules_from o) ≡ d → Determined name rules gs q d
      sound none a e = subst (Determined name rules gs q) (ap (decision_by q) (sym of_none) ∙ e) (by_no_group a)
      sound (some g) a e = by_group a (subst (Chosen q (rules g)) (ap (decision_by q) (sym (of_group g)) ∙ e) (decision_chosen q (rules g)))

      complete : {v : Decision} → Determined name rules gs q v → decision_by q (rules_from (answering name q.group gs)) ≡ v
      complete (by_group {g = g} a c) =
          ap (λ (o : Option G). decision_by q (rules_from o)) (answering_complete gs q.group a)
          ∙ ap (decision_by q) (of_group g)
          ∙ one_chosen q (decision_chosen q (rules g)) c
      complete (by_no_group a) =
          ap (λ (o : Option G). decision_by q (rules_from o)) (answering_complete gs q.group a) ∙ ap (decision_by q) of_none
