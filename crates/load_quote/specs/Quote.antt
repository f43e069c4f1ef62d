-- What a byte inside quotes does, and what reading a quoted text gives.
use Rattle.std.specs.Prelude.{◌≡◌, Bool, true, false, cond, List, ℕ, ◌+◌, ◌-◌, ◌≤◌, ◌<◌, length, take, drop, Option, Some, None, Result, Ok, Err}
use Rattle.spec_lists.specs.Text.{among}
use Rattle.spec_token.specs.Word.{newline}
use Rattle.spec_token.specs.Scanner.{Quoted, closed, broken, unclosed, quoted}
use Rattle.load_quote.specs.declared.Act.{Act}
use Rattle.load_quote.specs.declared.Act.TheVariants.{On, Close, Break}

-- of a byte that stands behind a backslash or not
abbrev pub act : Bool → ℕ → Act
act true b = On false
act false b = cond (among "\"" b) Close (cond (newline b) Break (On (among "\\" b)))

-- the text between the quotes ends at a place
pub record ClosedAt (s : List ℕ) (from e : ℕ) : Type 0 where
  pub low : from ≤ e
  pub high : e < length s
  pub text : quoted false from (drop from s) ≡ closed (take (e - from) (drop from s)) (drop (e + 1) s)

-- the place of the bad byte, if the quote stands at q
abbrev pub NoEnd : Quoted → ℕ → ℕ → Type 0
NoEnd (closed t r) q p = ⊥
NoEnd (broken b) q p = p ≡ b
NoEnd unclosed q p = p ≡ q

-- what was found of a quoted text that starts at a place
abbrev pub QuoteRead : List ℕ → ℕ → Result ℕ (Option ℕ) → Type 0
QuoteRead s from (Ok e) = ClosedAt s from e
QuoteRead s from (Err (Some p)) = quoted false from (drop from s) ≡ broken p
QuoteRead s from (Err None) = quoted false from (drop from s) ≡ unclosed

-- what was found of a quoted text whose quote stands at q
abbrev pub ReadBehind : List ℕ → ℕ → Result ℕ ℕ → Type 0
ReadBehind s q (Ok e) = ClosedAt s (q + 1) e
ReadBehind s q (Err p) = NoEnd (quoted false (q + 1) (drop (q + 1) s)) q p
