-- What the asker prints for a line of its input. 01, "Two programs".
use Rattle.std.specs.Prelude.{List, ℕ}
use Rattle.spec_decision.specs.Decision.{decide}
use Rattle.prog_line.specs.Line.{Line, refused, question, asks}
use Rattle.prog_text.specs.Text.{line}
use Rattle.prog_words.specs.Words.{answer_text, refused_line}

-- 01: "another form or a longer line prints `refused line`. A line is answered by access and log word, or `refused 21`."
abbrev pub answered : List ℕ → Line → List ℕ
answered table refused = refused_line
answered table (question q) = answer_text (decide table q)

-- what is printed for a line
unfoldable pub reply : List ℕ → List ℕ → List ℕ
reply table l = line (answered table (asks l))
