-- A test that decides a property decides whether some element has it, and finds the first that does.
use Rattle.std.specs.Prelude.{◌≡◌, refl, Bool, true, false, ◌||◌, List, [], ◌∷◌, ◌++◌, ◌↔◌}
use Rattle.std.proofs.Common.{sym, ◌∙◌}
use Rattle.std.proofs.lemmas.Bool.{false≢true}
use Rattle.std.proofs.Math.Option.{none, some}
use Rattle.spec_lists.specs.Select.{any, first}
use Rattle.spec_lists.specs.Every.{Every, cons}
use Rattle.spec_lists.proofs.laws.Every.{every_implies, first_none, none_first, first_is}
use Rattle.spec_rule.specs.Privilege.{Some, here, further, FirstSuch}

module _ {A : Type 0} {P : A → Type 0} (p : A → Bool) (decides : (x : A) → (p x ≡ true) ↔ P x) where
  fails : (x : A) → p x ≡ false → P x → ⊥
  fails x e h = false≢true (sym e ∙ (decides x).1 h)

  refuted : (x : A) → (P x → ⊥) → p x ≡ false
  refuted x n = by (p x) refl
    where
      by : (b : Bool) → p x ≡ b → b ≡ false
      by true e = absurd (n ((decides x).0 e))
      by false e = refl

  pub any_some : (xs : List A) → any p xs ≡ true → Some P xs
  any_some [] e = absurd (false≢true e)
  any_some (x ∷ xs) e = by (p x) refl (any_some xs) e
    where
      by : (b : Bool) → p x ≡ b → (any p xs ≡ true → Some P xs) → b || any p xs ≡ true → Some P (x ∷ xs)
      by true h f g = here ((decides x).0 h)
      by false h f g = further (f g)

  pub some_any : {xs : List A} → Some P xs → any p xs ≡ true
  some_any (here {x = x} h) = rw ((decides x).1 h)
  some_any (further {x = x} {xs = xs} s) = by (p x) (some_any s)
    where
      by : (b : Bool) → any p xs ≡ true → b || any p xs ≡ true
      by true e = refl
      by false e = e

  pub first_such : (xs : List A) (x : A) → first p xs ≡ some x → FirstSuch P xs x
  first_such xs x e =
      let f = first_is p xs x e in
      record { earlier = f.earlier; later = f.later; among = f.among; before = every_implies fails f.fail; such = (decides x).0 f.pass }

  reached : (early late : List A) (x : A) → Every (λ y. P y → ⊥) early → P x → first p (early ++ (x ∷ late)) ≡ some x
  reached [] late x n h = rw ((decides x).1 h)
  reached (y ∷ early) late x (cons n ns) h = rw (refuted y n) (reached early late x ns h)

  pub such_first : {xs : List A} {x : A} → FirstSuch P xs x → first p xs ≡ some x
  such_first {x = x} f = rw f.among (reached f.earlier f.later x f.before f.such)

  pub no_first : (xs : List A) → first p xs ≡ none → Every (λ x. P x → ⊥) xs
  no_first xs e = every_implies fails (first_none p xs e)

  pub none_such : {xs : List A} → Every (λ x. P x → ⊥) xs → first p xs ≡ none
  none_such n = none_first p (every_implies refuted n)
