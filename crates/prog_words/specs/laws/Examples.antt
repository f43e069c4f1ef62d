-- 01's examples of what is printed for an answer, with the third word of 02, and the last letter.
use Rattle.std.specs.Prelude.{◌≡◌, refl, true, false}
use Rattle.spec_lists.specs.Text.{bytes}
use Rattle.spec_rule.specs.declared.Access.TheVariants as access
use Rattle.spec_rule.specs.declared.Stop.TheVariants.{Letter}
use Rattle.spec_rule.specs.Decision.{with_trap, with_letter}
use Rattle.spec_decision.specs.declared.Answer.TheVariants.{Answered, BadLevel}
use Rattle.prog_text.specs.Text.{digits_in, decimal_digits}
use Rattle.prog_words.specs.Words.{answer_text}

write_trap : answer_text (Answered (with_trap access.Write true)) ≡ bytes "WRITE TRAPWRITE -"
unfolding answer_text
write_trap = refl

read : answer_text (Answered (with_letter access.Read false (Letter 0))) ≡ bytes "READ NOTRAPWRITE A"
unfolding answer_text
read = refl

last_letter : answer_text (Answered (with_letter access.None false (Letter 20))) ≡ bytes "NONE NOTRAPWRITE U"
unfolding answer_text
last_letter = refl

refused_21 : answer_text BadLevel ≡ bytes "refused 21"
unfolding answer_text decimal_digits digits_in
refused_21 = refl
