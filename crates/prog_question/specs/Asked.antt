-- What the code finds in a line, in the words of the definitions.
use Rattle.std.specs.Prelude.{Option, None, Some}
use Rattle.spec_rule.specs.Question.{question_of}
use Rattle.prog_line.specs.Line.{Line, refused, question}
use Rattle.prog_question.specs.declared.Question.{Question}

abbrev pub asked : Option Question → Line
asked None = refused
asked (Some q) = question (question_of q.group.now q.user.now q.host.now q.level q.readings)
