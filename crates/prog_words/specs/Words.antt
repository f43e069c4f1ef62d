-- What the asker prints for an answer. 01, "Two programs".
use Rattle.std.specs.Prelude.{Bool, true, false, List, [], ◌∷◌, ◌++◌, ℕ, get_or}
use Rattle.std.proofs.Math.Option.{Option, none, some}
use Rattle.spec_lists.specs.Text.{bytes}
use Rattle.spec_rule.specs.declared.Access.{Access}
use Rattle.spec_rule.specs.declared.Access.TheVariants as access
use Rattle.spec_rule.specs.declared.Stop.{Stop}
use Rattle.spec_rule.specs.Number.{letter_number}
use Rattle.spec_decision.specs.declared.Answer.{Answer}
use Rattle.spec_decision.specs.declared.Answer.TheVariants.{Answered, NotTable, BadLevel, BadRoles}
use Rattle.spec_decision.specs.Decision as decision
use Rattle.prog_text.specs.Text.{decimal_digits}

abbrev pub access_word : Access → List ℕ
access_word access.None = bytes "NONE"
access_word access.Read = bytes "READ"
access_word access.Write = bytes "WRITE"

abbrev pub log_word : Bool → List ℕ
log_word true = bytes "TRAPWRITE"
log_word false = bytes "NOTRAPWRITE"

-- 02: "the letter or `-`"; none has number 0, A 1, U 21
abbrev pub letter_word : Stop → List ℕ
letter_word s = get_or (bytes "-ABCDEFGHIJKLMNOPQRSTU") (letter_number s) 0 ∷ []

-- a refusal of a question: `refused` and 01's number
abbrev pub refused_by : Option ℕ → List ℕ
refused_by none = []
refused_by (some n) = bytes "refused " ++ decimal_digits n

-- 01: "A line is answered by access and log word, or `refused 21`." 02: "The asker adds a third word to an answered line".
-- The asker's questions have no roles: it never prints `refused 26`.
unfoldable pub answer_text : Answer → List ℕ
answer_text (Answered d) = access_word d.access ++ (bytes " " ++ log_word d.trap ++ (bytes " " ++ letter_word d.letter))
answer_text NotTable = refused_by (decision.number NotTable)
answer_text BadLevel = refused_by (decision.number BadLevel)
answer_text BadRoles = refused_by (decision.number BadRoles)

-- 01: "prints `refused line`"
abbrev pub refused_line : List ℕ
refused_line = bytes "refused line"
