-- The answer to a question, and an input's name, by what a file says, with no table between.
use Rattle.std.specs.Prelude.{List, [], map, ℕ, eqb}
use Rattle.std.proofs.Math.Option
use Rattle.std.proofs.Math.Option.{Option, none, some}
use Rattle.spec_lists.specs.Select.{first}
use Rattle.spec_rule.specs.Question.{Question}
use Rattle.spec_rule.specs.Answering.{answering}
use Rattle.spec_file.specs.Contents.{Link, RuleText, Asg, File}
use Rattle.spec_file.specs.Meaning.{rule_in}
use Rattle.spec_decision.specs.declared.Answer.{Answer}
use Rattle.spec_decision.specs.declared.Found.{Found}
use Rattle.spec_decision.specs.declared.Found.TheVariants.{Part, NotTable, NoInput}
use Rattle.spec_decision.specs.Decision.{answer_by}
use Rattle.spec_decision.specs.LookUp.{part_in}
use Rattle.spec_edition.specs.Machine.{rules_later}

-- the rules of the file that answer for a group, as the file says them
abbrev pub rules_by_file : File → List ℕ → List RuleText
rules_by_file f g = rules_later (answering (λ a. a.name) g f.asgs)

-- the answer to a question by the rules of a file
abbrev pub answer_by_file : File → Question → Answer
answer_by_file f q = answer_by q (map (rule_in f) (rules_by_file f q.group))

-- the inputs of the group that answers, if one does
abbrev pub inputs_in : Option Asg → List Link
inputs_in none = []
inputs_in (some a) = a.inputs

-- the name that a file gives a letter's first input in the group that answers
abbrev pub input_by_file : File → List ℕ → ℕ → Option (List ℕ)
input_by_file f g letter = Option.map (λ l. l.name) (first (λ l. eqb l.letter letter) (inputs_in (answering (λ a. a.name) g f.asgs)))

-- the name that a look-up finds in some bytes
abbrev pub name_found : Found → List ℕ → Option (List ℕ)
name_found (Part at length) b = some (part_in (Part at length) b)
name_found NotTable b = none
name_found NoInput b = none
