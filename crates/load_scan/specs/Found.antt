-- What stands at a place of a text: one step of the scan.
use Rattle.std.specs.Prelude.{◌≡◌, List, ℕ, ◌≤◌, ◌<◌, length, get_or, Result, Ok, Err}
use Rattle.spec_token.specs.Token as spec
use Rattle.spec_token.specs.Scanner.{Lexeme, lexeme_of, scan_from}
use Rattle.load_tokens.specs.Arrays.{between}
use Rattle.load_scan.specs.declared.Entry.{Entry}
use Rattle.load_scan.specs.declared.Step.{Step}
use Rattle.load_scan.specs.declared.Step.TheVariants as step

-- a text whose places fit 16 bits
pub record Short (s : List ℕ) : Type 0 where
  pub bytes : length s ≤ 16384

-- the byte at a place begins a token of this kind
pub record BeginsAt (s : List ℕ) (at : ℕ) (k : Lexeme) : Type 0 where
  pub short : length s ≤ 16384
  pub here : at < length s
  pub begun : lexeme_of (get_or s at 0) ≡ k

-- the token of a text s that an entry says
abbrev pub token_of : List ℕ → Entry → spec.Token
token_of s t = record { kind = t.kind; place = t.place; text = between s t.start t.end }

-- the scan goes from a place on to a later one
pub record Onward (s : List ℕ) (at to : ℕ) : Type 0 where
  pub more : at < to
  pub within : to ≤ length s

-- the text from a place on begins with an entry's token, which lies in the text
pub record TokenAt (s : List ℕ) (at : ℕ) (t : Entry) (to : ℕ) : Type 0 where
  pub onward : Onward s at to
  pub place : t.place < length s
  pub start : t.start ≤ t.end
  pub end : t.end ≤ length s
  pub same : scan_from s at ≡ spec.then (token_of s t) (scan_from s to)

-- no token stands between two places
pub record BlankTo (s : List ℕ) (at to : ℕ) : Type 0 where
  pub onward : Onward s at to
  pub same : scan_from s at ≡ scan_from s to

-- a step, or the place of a bad byte
abbrev pub Found : List ℕ → ℕ → Result Step ℕ → Type 0
Found s at (Ok (step.Token t to)) = TokenAt s at t to
Found s at (Ok (step.Skip to)) = BlankTo s at to
Found s at (Err p) = scan_from s at ≡ spec.bad p
