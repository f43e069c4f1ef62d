-- What a question in C answers.
use Rattle.std.specs.Prelude.{◌≡◌, List, ℕ, Float}
use Rattle.spec_calc.specs.States.{readings}
use Rattle.spec_rule.specs.Question.{lent_question}
use Rattle.spec_decision.specs.Decision.{decide}
use Rattle.api_numbers.specs.Numbers.{answer_number}

-- what a question answers, of a table, a group, a user, a host, roles and their lengths, a level, and the states and values of the readings
abbrev pub Answers : List ℕ → List ℕ → List ℕ → List ℕ → List ℕ → List ℕ → ℕ → List ℕ → List Float → ℕ → Type 0
Answers table group user host roles lengths level states values r =
    r ≡ answer_number (decide table (lent_question group user host roles lengths level (readings states values 0)))
