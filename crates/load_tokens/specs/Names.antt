-- Kinds by their numbers: spec_grammar/specs/Codes, kind_number.
use Rattle.std.specs.Prelude.{Bool, true, cond, ℕ, eqb, leb}

-- generic_block_elem_name: a keyword or a STRING
abbrev pub is_name : ℕ → Bool
is_name x = cond (leb x 5) true (eqb x 8)
