-- The warnings that are listed are those that the tokens of a file give.
use Rattle.std.specs.Prelude.{◌≡◌, refl, Bool, true, false, cond, ◌↔◌, ℕ}
use Rattle.std.proofs.Common.{sym, ap, subst, ◌∙◌}
use mathlib.Core.List.{List, [], ◌∷◌, Memᴰ}
use Rattle.std.proofs.Math.Option.{Option, none, some}
use Rattle.spec_grammar.specs.declared.Role.TheVariants as role
use Rattle.spec_grammar.specs.Sentence.{Tagged}
use Rattle.spec_file.specs.declared.Warning.{Warning}
use Rattle.spec_file.specs.declared.Warning.TheVariants.{UnknownItem, UnknownPredicate}
use Rattle.spec_file.specs.Contents.{has_role, place}
use Rattle.spec_file.specs.Warning.{Warned, Warns, item, predicate, Given, warning_of, with_place, warnings}
use Rattle.spec_file.proofs.laws.Counted.{role_is}

module _ (x : Tagged) where
  -- what a token's test says
  data Tested : Option Warning → Type 0 where
    warned : {w : Warning} → Warns x w → Tested (some w)
    unwarned : Tested none

  tested : Tested (warning_of x)
  tested = go (has_role role.UnknownItem x) (has_role role.UnknownPredicate x) refl refl
    where
      go :
          (a b : Bool) → has_role role.UnknownItem x ≡ a → has_role role.UnknownPredicate x ≡ b
          → Tested (cond a (some UnknownItem) (cond b (some UnknownPredicate) none))
      go true b e f = warned (item (role_is role.UnknownItem x e))
      go false true e f = warned (predicate (role_is role.UnknownPredicate x f))
      go false false e f = unwarned

  so : {w : Warning} → Tested (some w) → Warns x w
  so (warned h) = h

  warns_sound : (w : Warning) → warning_of x ≡ some w → Warns x w
  warns_sound w e = so (subst Tested e tested)

  warns_complete : {w : Warning} → Warns x w → warning_of x ≡ some w
  warns_complete (item e) = rw e
  warns_complete (predicate e) = rw e

given_later : {y : Tagged} {xs : List Tagged} {w : Warned} → Given xs w → Given (y ∷ xs) w
given_later g = record { token = g.token; among = Memᴰ.tail g.among; warns = g.warns; at = g.at }

listed_given : (xs : List Tagged) (w : Warned) → Memᴰ w (warnings xs) → Given xs w
listed_given [] w m = elim m [ ]
listed_given (x ∷ xs) w m = go (warning_of x) refl m (listed_given xs w)
  where
    go :
        (o : Option Warning) → warning_of x ≡ o → Memᴰ w (with_place o x (warnings xs)) → (Memᴰ w (warnings xs) → Given xs w)
        → Given (x ∷ xs) w
    go none e m ih = given_later (ih m)
    go (some v) e (Memᴰ.head h) ih =
        record {
          token = x;
          among = Memᴰ.head refl;
          warns = subst (λ (u : Warned). Warns x u.warning) (sym h) (warns_sound x v e);
          at = ap (λ (u : Warned). u.place) h;
        }
    go (some v) e (Memᴰ.tail m) ih = given_later (ih m)

given_listed : {w : Warned} (x : Tagged) {xs : List Tagged} → Memᴰ x xs → Warns x w.warning → w.place ≡ place x → Memᴰ w (warnings xs)
given_listed {w = w} x (Memᴰ.head {x = y} {xs = xs} e) g p =
    rw (warns_complete y (subst (λ (z : Tagged). Warns z w.warning) e g)) (Memᴰ.head (same (p ∙ ap place e)))
  where
    named : ℕ → Warned
    named n = record { warning = w.warning; place = n }

    same : w.place ≡ place y → w ≡ record { warning = w.warning; place = place y }
    same q = ap (λ (n : ℕ). named n) q
given_listed x (Memᴰ.tail {x = y} {xs = xs} m) g p = go (warning_of y) (given_listed x m g p)
  where
    go : {w : Warned} (o : Option Warning) → Memᴰ w (warnings xs) → Memᴰ w (with_place o y (warnings xs))
    go none m = m
    go (some v) m = Memᴰ.tail m

-- the warnings of a file are exactly those that its tokens give
pub warned_exactly : (xs : List Tagged) (w : Warned) → Memᴰ w (warnings xs) ↔ Given xs w
warned_exactly xs w = (listed_given xs w, λ g. given_listed g.token g.among g.warns g.at)
