-- From the verdict on a text to the listing of its warnings.
use Rattle.std.specs.Prelude.{◌≡◌, List, map, ℕ, ◌<◌, length, take, drop, Result, Ok, Err}
use Rattle.load_tokens.specs.declared.Token.{Token}
use Rattle.load_tokens.specs.Views.{kept, places, roles}
use Rattle.spec_file.specs.Limit.{most_bytes}
use Rattle.spec_file.specs.declared.Refusal.{Refusal}
use Rattle.spec_file.specs.declared.Refusal.TheVariants.{FileTooLong}
use Rattle.spec_file.specs.Warning.{number, warnings}
use Rattle.spec_load.specs.declared.Listed.TheVariants.{Warnings, Refused}
use Rattle.spec_load.specs.Listing.{listing}
use Rattle.load_syntax.specs.Syntax.{tagged}
use Rattle.load_judge.specs.Judged.{Judged}
use Rattle.load_judge.specs.laws.Judged.{verdict_long}
use Rattle.load_judge.specs.laws.Bounded.{accepted_as, refused_as}
use Rattle.load_warnings.specs.Filled.{Filled, warnings_of}
use Rattle.load_warnings.specs.laws.Plain.{warnings_plain}
use Rattle.warnings.specs.laws.Over.{over}

module _ {s : List ℕ} {ts : List Token} {r : Result ℕ (Refusal × ℕ)} (f : Judged s ts r) (skip : ℕ) (numbers at : List ℕ) where
  pub listed_refused :
      {k : Refusal × ℕ} → r ≡ Err k → record { answer = Refused k.0 k.1; numbers = numbers; places = at } ≡ listing skip numbers at s
  unfolding listing
  listed_refused e = rw (refused_as f e)

  pub listed_warnings :
      {n count : ℕ} {c d : List ℕ} → r ≡ Ok n
      → Filled (warnings_of (places (take n ts)) (roles (take n ts)) (length (take n ts))) skip numbers c at d count
      → record { answer = Warnings count; numbers = c; places = d } ≡ listing skip numbers at s
  unfolding listing
  listed_warnings {n} {count} {c} {d} e t =
      let us = take n ts in
      let ws = warnings (tagged s us) in
      rw (
        accepted_as f e,
        t.count,
        t.numbers,
        t.places,
        warnings_plain s (kept us) (roles us) (length us),
        over (drop skip (map (λ x. number x.warning) ws)) numbers,
        over (drop skip (map (λ x. x.place) ws)) at,
      )

-- a text over 16,384 bytes
pub listed_long :
    (skip : ℕ) (numbers places s : List ℕ) → most_bytes < length s
    → record { answer = Refused FileTooLong 0; numbers = numbers; places = places } ≡ listing skip numbers places s
unfolding listing
listed_long skip numbers places s h = rw (verdict_long s h)
