-- The first tokens of a list, with the text that they lie in.
use Rattle.std.specs.Prelude.{◌≡◌, List, ℕ, ◌≤◌, ◌<◌, length, get_or, take}
use Rattle.std.proofs.Common.{arith}
use Rattle.std.proofs.Math.Seq.{length-take-le}
use Rattle.spec_file.specs.Limit.{most_bytes}
use Rattle.load_tokens.specs.declared.Token.{Token}
use Rattle.load_tokens.specs.Stores.{Good}
use Rattle.load_tokens.specs.Views.{kept, starts, ends}

-- what load_spans::Tokens says of them
pub record FitsAll (s : List ℕ) (ts : List Token) : Type 0 where
  pub short : length s ≤ 16384
  pub few : length ts ≤ 16384
  pub in_order : (i : ℕ) → i < length ts → get_or (starts ts) i 0 ≤ get_or (ends ts) i 0
  pub inside : (i : ℕ) → i < length ts → get_or (ends ts) i 0 ≤ length s

pub fits_taken :
    (s : List ℕ) (ts : List Token) (n : ℕ) → length s ≤ most_bytes → n ≤ length s → n ≤ length ts
    → ((i : ℕ) → i < n → Good (length s) (kept (take n ts)) i) → FitsAll s (take n ts)
fits_taken s ts n short few within good =
    let long : length (take n ts) ≡ n = length-take-le n ts within in
    record {
      short = short;
      few = omega arith;
      in_order = λ i h. (good i (omega arith)).start;
      inside = λ i h. (good i (omega arith)).end;
    }
