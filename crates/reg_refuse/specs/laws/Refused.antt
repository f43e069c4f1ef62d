-- Causes of refusal, as code finds them.
use Rattle.std.specs.Prelude.{◌≡◌, refl, Bool, true, false, not, cond, List, ◌≢◌, ℕ, ◌≤◌, ◌<◌, leb, ltb, eqb, length, get_or}
use Rattle.std.proofs.Common.{sym, ap, ap₂, ◌∙◌, arith, leb-true, leb-false, lt-ltb, le-ltb}
use Rattle.std.proofs.Math.Option.{none, some}
use Rattle.std.proofs.lemmas.Bool.{eqb-false}
use Rattle.spec_lists.specs.Select.{missing}
use Rattle.spec_lists.proofs.laws.Both.{absurd_bool}
use Rattle.spec_rule.specs.Kept.{says_stands}
use Rattle.spec_register.specs.Register.{most_clients}
use Rattle.spec_register.specs.Refusal.{no_client, all_taken}
use Rattle.spec_register.proofs.laws.Lowest.{lowest_within}
use Rattle.spec_places.specs.Storage.{at_place, client_in, client_from, clients_in, standing_in}
use Rattle.spec_places.specs.Calls.{free_in}
use Rattle.spec_register.proofs.laws.From.{given_length, given_at, given_beyond}

-- a level that is none is too high
pub high : (n m : ℕ) → not (leb n m) ≡ ltb m n
high n m = go (leb n m) refl
  where
    go : (t : Bool) → leb n m ≡ t → not t ≡ ltb m n
    go true e = sym (le-ltb m n (leb-true n m e))
    go false e = sym (lt-ltb m n (leb-false n m e))

module _ (b : List ℕ) where
  pub client_absent : (p : ℕ) → p < most_clients → not (says_stands (get_or b (at_place p) 0)) ≡ no_client (standing_in b) p
  client_absent p h = go (says_stands (get_or b (at_place p) 0)) ∙ sym (ap missing (given_at (client_in b) most_clients p none h))
    where
      go : (t : Bool) → not t ≡ missing (cond t (some (client_from b (at_place p))) none)
      go true = refl
      go false = refl

  pub beyond_absent : (p : ℕ) → most_clients ≤ p → true ≡ no_client (standing_in b) p
  beyond_absent p h = sym (ap missing (given_beyond (client_in b) most_clients p none h))

  pub client_inside : (p : ℕ) → no_client (standing_in b) p ≡ false → p < most_clients
  client_inside p e = go (leb most_clients p) refl
    where
      go : (t : Bool) → leb most_clients p ≡ t → p < most_clients
      go true h = absurd_bool (beyond_absent p (leb-true most_clients p h) ∙ e)
      go false h = leb-false most_clients p h

  pub places_many : length (clients_in b) ≡ most_clients
  places_many = given_length (client_in b) most_clients

  -- none is free if the lowest free place would be one behind the last
  pub full : {p : ℕ} → p ≡ free_in b → all_taken (standing_in b) ≡ eqb p most_clients
  full e = ap₂ eqb (sym e) places_many

  pub free_inside : all_taken (standing_in b) ≡ false → free_in b < most_clients
  free_inside e =
      let n = eqb-false (free_in b) (length (clients_in b)) e in
      let m : free_in b ≢ most_clients = λ f. n (f ∙ sym places_many) in
      omega (arith, lowest_within (clients_in b), places_many, m)
