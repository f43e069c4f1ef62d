-- What a rule's flags say in a text.
use Rattle.std.specs.Prelude.{List, ◌++◌, ℕ}
use Rattle.spec_lists.specs.Text.{bytes}
use Rattle.spec_table.specs.Check.{level_bit, permission_bits, trap_bit, bits_from_4}
use Rattle.spec_table.specs.Policy.{permission, set_bit}
use Rattle.spec_text.specs.Lines.{called, level_word, permission_word, log_word, unknown_line, ended}

-- the head of a rule of these flags
abbrev pub head_text : ℕ → List ℕ
head_text f =
    called
    (bytes "RULE")
    (level_word (level_bit f) ++ ((bytes "," ++ permission_word (permission (permission_bits f))) ++ (bytes "," ++ log_word (set_bit (trap_bit f)))))

-- its last line, if it is switched off
abbrev pub unknown_text : ℕ → List ℕ
unknown_text f = ended (unknown_line (set_bit (bits_from_4 f)))
