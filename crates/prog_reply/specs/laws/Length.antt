-- How long an answer is.
use Rattle.std.specs.Prelude.{Bool, true, false, List, [], ◌∷◌, ◌++◌, ℕ, ◌≤◌, length}
use Rattle.std.proofs.Common.{arith, length-append}
use Rattle.spec_lists.specs.Text.{bytes}
use Rattle.spec_rule.specs.declared.Access.{Access}
use Rattle.spec_rule.specs.declared.Access.TheVariants as access
use Rattle.spec_rule.specs.declared.Stop.{Stop}
use Rattle.spec_decision.specs.declared.Answer.{Answer}
use Rattle.spec_decision.specs.declared.Answer.TheVariants.{Answered, NotTable, BadLevel, BadRoles}
use Rattle.spec_decision.specs.Decision.{decide}
use Rattle.prog_line.specs.Line.{Line, refused, question, asks}
use Rattle.prog_text.specs.Text.{digits_in, decimal_digits}
use Rattle.prog_words.specs.Words.{access_word, log_word, letter_word, answer_text}
use Rattle.prog_reply.specs.Reply.{answered, reply}

short_words : (a : Access) (t : Bool) (s : Stop) → length (access_word a ++ (bytes " " ++ log_word t ++ (bytes " " ++ letter_word s))) ≤ 19
short_words access.None true s = omega arith
short_words access.None false s = omega arith
short_words access.Read true s = omega arith
short_words access.Read false s = omega arith
short_words access.Write true s = omega arith
short_words access.Write false s = omega arith

short_answer : (a : Answer) → length (answer_text a) ≤ 19
unfolding answer_text decimal_digits digits_in
short_answer (Answered d) = short_words d.access d.trap d.letter
short_answer NotTable = omega arith
short_answer BadLevel = omega arith
short_answer BadRoles = omega arith

short_line : (table : List ℕ) (l : Line) → length (answered table l) ≤ 19
short_line table refused = omega arith
short_line table (question q) = short_answer (decide table q)

pub short_reply : (table l : List ℕ) → length (reply table l) ≤ 20
unfolding reply
short_reply table l = let z = length-append (answered table (asks l)) (10 ∷ []) in let y = short_line table (asks l) in omega arith
