-- 01's examples, and the readings of it that are easily got wrong.
use Rattle.std.specs.Prelude.{◌≡◌, refl, [], ◌∷◌, replicate}
use Rattle.spec_rule.specs.Question.{question_of}
use Rattle.spec_lists.specs.Text.{bytes}
use Rattle.spec_calc.specs.declared.Reading.TheVariants.{NeverHeard, Value}
use Rattle.spec_calc.specs.Symbol.{decimal}
use Rattle.prog_reading.specs.Reading.{reading, named}
use Rattle.prog_line.specs.Line.{split, all_named, distinct, readings, refused, question, of_parts, asks}

one_reading :
    asks (bytes "- ann pc1 1 A:0.25")
    ≡ question (question_of [] (bytes "ann") (bytes "pc1") 1 (Value (decimal 25 2) ∷ replicate 20 NeverHeard))
unfolding asks split of_parts all_named named reading distinct readings
one_reading = refl

no_reading : asks (bytes "g - h 2") ≡ question (question_of (bytes "g") (bytes "-") (bytes "h") 2 (replicate 21 NeverHeard))
unfolding asks split of_parts all_named named reading distinct readings
no_reading = refl

twice : asks (bytes "- ann pc1 1 A:1 B:2 A:1") ≡ refused
unfolding asks split of_parts all_named named reading distinct readings
twice = refl

two_spaces : asks (bytes "- ann  pc1 1") ≡ refused
unfolding asks split of_parts all_named named reading distinct readings
two_spaces = refl

space_at_end : asks (bytes "- ann pc1 1 ") ≡ refused
unfolding asks split of_parts all_named named reading distinct readings
space_at_end = refl

empty_line : asks [] ≡ refused
unfolding asks split of_parts
empty_line = refl

small_letter : asks (bytes "- ann pc1 1 a:1") ≡ refused
unfolding asks split of_parts all_named named reading distinct readings
small_letter = refl
