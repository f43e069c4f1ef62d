-- A register that is settled over one table is settled over another of the same content; and over no table, if it was over none.
use Rattle.std.specs.Prelude.{◌≡◌, refl, false, List, ℕ, Float, length}
use Rattle.std.proofs.Common.{subst}
use Rattle.std.proofs.Math.Option.{Option, none, some}
use Rattle.spec_lists.specs.Runs.{part}
use Rattle.spec_calc.specs.declared.Reading.{Reading}
use Rattle.spec_table.specs.Check.{is_table}
use Rattle.spec_register.specs.Register.{Client}
use Rattle.spec_places.specs.Storage.{lent, client_in}
use Rattle.spec_places.specs.Writing.{kept}
use Rattle.spec_places.proofs.laws.Records.{kept_run}
use Rattle.spec_places.proofs.laws.Settled.{kept_for, Settled}

pub kept_of_none :
    (t u : List ℕ) → is_table t ≡ false → is_table u ≡ false → (rs : ℕ → List Reading) (c : Client) → kept t rs c ≡ kept u rs c
kept_of_none t u no-t no-u rs c = rw (no-t, no-u) refl

module _ (t u : List ℕ) (same_kept : (rs : ℕ → List Reading) (c : Client) → kept t rs c ≡ kept u rs c) where
  same_for : (rs : ℕ → List Reading) (o : Option Client) → kept_for t rs o ≡ kept_for u rs o
  same_for rs none = refl
  same_for rs (some c) = same_kept rs c

  pub moved : (places states : List ℕ) (values : List Float) → Settled (lent t places states values) → Settled (lent u places states values)
  moved places states values h =
      record {
        room = h.room;
        places =
            λ p l.
            let k = h.places p l in
            record {
              fits = k.fits;
              keeps = subst (λ (x : List ℕ). part (kept_run p (length x)) places ≡ x) (same_for _ (client_in places p)) k.keeps;
            };
      }
