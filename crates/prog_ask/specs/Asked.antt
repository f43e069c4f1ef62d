-- All that the asker prints, for a text of rules and an input. 01, "Two programs".
use Rattle.std.specs.Prelude.{◌≡◌, true, List, ℕ, take, drop, Result, Ok, Err}
use Rattle.io.specs.Counts.{IsPrefixLen}
use Rattle.spec_table.specs.Check.{is_table}
use Rattle.spec_load.specs.declared.Loaded.{Loaded}
use Rattle.spec_load.specs.declared.Loaded.TheVariants as loaded
use Rattle.spec_load.specs.Load.{load}
use Rattle.prog_report.specs.Report.{refusal_line}
use Rattle.prog_replies.specs.Input.{Input, printed}

-- by what the load answered and the table that it left
abbrev pub asked_by : Loaded → List ℕ → Input → List ℕ
asked_by (loaded.Accepted n w) table input = printed table input
asked_by (loaded.Refused k p) table input = refusal_line k p

-- 01: "The asker reads `rules.acf` (if refused: the one refusal line, no more) .. then lines of standard input"
unfoldable pub asked : List ℕ → List ℕ → Input → List ℕ
asked lent rules input = asked_by (load lent rules).answer (load lent rules).bytes input

-- the rules are loaded into the lent bytes: either there is a table to answer any input by, or all that is printed is written
abbrev pub Begun : (rules lent lent' out out' : List ℕ) → Result (Unit {0}) ℕ → Type 0
Begun rules lent lent' out out' (Ok _) =
    (lent' ≡ (load lent rules).bytes) × (is_table lent' ≡ true) × ((input : Input) → asked lent rules input ≡ printed lent' input) × (out' ≡ out)
Begun rules lent lent' out out' (Err n) =
    (lent' ≡ (load lent rules).bytes) × IsPrefixLen n out' × ((input : Input) → asked lent rules input ≡ take n out') × (drop n out' ≡ drop n out)
