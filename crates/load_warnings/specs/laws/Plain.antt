-- Warnings look at the roles and places of tokens alone.
use Rattle.std.specs.Prelude.{◌≡◌, refl, List, [], ℕ, zero, suc}
use Rattle.std.proofs.Math.Option.{Option, none, some}
use Rattle.load_tokens.specs.Arrays.{Arrays, tagged_at, tagged_from}
use Rattle.spec_file.specs.declared.Warning.{Warning}
use Rattle.spec_file.specs.Warning.{warning_of, with_place, warnings}
use Rattle.load_warnings.specs.Filled.{plain, warnings_of}

plain_from :
    (s : List ℕ) (a : Arrays) (roles : List ℕ) (i k : ℕ)
    → warnings (tagged_from [] (plain a.places) roles i k) ≡ warnings (tagged_from s a roles i k)
unfolding tagged_from
plain_from s a roles i zero = refl
plain_from s a roles i (suc k) = rw (plain_from s a roles (suc i) k) (go (warning_of (tagged_at s a roles i)))
  where
    go :
        (o : Option Warning)
        → with_place o (tagged_at [] (plain a.places) roles i) (warnings (tagged_from s a roles (suc i) k))
        ≡ with_place o (tagged_at s a roles i) (warnings (tagged_from s a roles (suc i) k))
    go none = refl
    go (some w) = refl

pub warnings_plain : (s : List ℕ) (a : Arrays) (roles : List ℕ) (n : ℕ) → warnings_of a.places roles n ≡ warnings (tagged_from s a roles 0 n)
warnings_plain s a roles n = plain_from s a roles 0 n
