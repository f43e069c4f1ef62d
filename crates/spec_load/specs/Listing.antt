-- The warnings of a text, listed for a program. 01, "Load refusals, in their order", its last paragraph.
use Rattle.std.specs.Prelude.{List, ◌++◌, map, ℕ, length, take, drop}
use Rattle.spec_grammar.specs.Sentence.{Tagged}
use Rattle.spec_file.specs.Warning.{number, warnings}
use Rattle.spec_file.specs.Load.{Verdict, refuse, accept, verdict}
use Rattle.spec_load.specs.declared.Listed.{Listed}
use Rattle.spec_load.specs.declared.Listed.TheVariants.{Warnings, Refused}

-- the answer, and the two lent arrays afterwards
pub record Listing : Type 0 where
  pub answer : Listed
  pub numbers : List ℕ
  pub places : List ℕ

-- a list over the start of another, as far as that reaches
abbrev pub laid_over : List ℕ → List ℕ → List ℕ
laid_over new old = take (length old) new ++ drop (length new) old

-- how many warnings there are; the numbers and places of those behind the first `skip`, as many as there is room for
abbrev pub warnings_written : ℕ → List ℕ → List ℕ → List Tagged → Listing
warnings_written skip numbers places xs =
    record {
      answer = Warnings (length (warnings xs));
      numbers = laid_over (drop skip (map (λ w. number w.warning) (warnings xs))) numbers;
      places = laid_over (drop skip (map (λ w. w.place) (warnings xs))) places;
    }

-- a text that is refused has none, and nothing is written
abbrev pub listed_by : ℕ → List ℕ → List ℕ → Verdict → Listing
listed_by skip numbers places (refuse n p) = record { answer = Refused n p; numbers = numbers; places = places }
listed_by skip numbers places (accept xs) = warnings_written skip numbers places xs

-- the warnings of a text
unfoldable pub listing : ℕ → List ℕ → List ℕ → List ℕ → Listing
listing skip numbers places s = listed_by skip numbers places (verdict s)
