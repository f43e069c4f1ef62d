-- The signs of a file's tokens, wherever these stand.
use Rattle.std.specs.Prelude.{◌≡◌, refl, List, [], ◌∷◌, ◌++◌, map, ℕ, ◌+◌, length}
use Rattle.std.proofs.Common.{ap}
use Rattle.spec_lists.proofs.laws.Joined.{each_append}
use Rattle.spec_token.specs.declared.Kind.TheVariants as kind
use Rattle.spec_grammar.specs.declared.Role.TheVariants.{NoRole}
use Rattle.spec_grammar.specs.Production.{Sign, ◌tagged◌}
use Rattle.spec_grammar.specs.Sentence.{sign}
use Rattle.spec_text.proofs.laws.Pieces.{Piece, mark, word, string, line_end, said_at, headed_pieces, ended_pieces}
use Rattle.spec_text.proofs.laws.Readings.{read, lines_read, body_read, headed_read, ended_read}

abbrev piece_signs : Piece → List Sign
piece_signs (mark b k) = k tagged NoRole ∷ []
piece_signs (word k r w) = k tagged r ∷ []
piece_signs (string r s) = kind.String tagged r ∷ []
piece_signs line_end = []

abbrev pub signs_of : List Piece → List Sign
signs_of = read piece_signs

pub said_signs : (p : ℕ) (ps : List Piece) → map sign (said_at p ps) ≡ signs_of ps
said_signs p [] = refl
said_signs p (mark b k ∷ ps) = ap (λ (l : List Sign). k tagged NoRole ∷ l) (said_signs (p + 1) ps)
said_signs p (word k r w ∷ ps) = ap (λ (l : List Sign). k tagged r ∷ l) (said_signs (p + length w) ps)
said_signs p (string r s ∷ ps) = ap (λ (l : List Sign). kind.String tagged r ∷ l) (said_signs (p + 2 + length s) ps)
said_signs p (line_end ∷ ps) = said_signs (p + 1) ps

pub signs_append : (xs ys : List Piece) → signs_of (xs ++ ys) ≡ signs_of xs ++ signs_of ys
signs_append = each_append piece_signs

-- of lines
abbrev pub line_signs : List (List Piece) → List Sign
line_signs = lines_read piece_signs

pub ended_signs : (ls : List (List Piece)) → signs_of (ended_pieces ls) ≡ line_signs ls
ended_signs = ended_read piece_signs refl

abbrev pub body_signs : List (List Piece) → List Sign
body_signs = body_read piece_signs

pub headed_signs : (head : List Piece) (ls : List (List Piece)) → line_signs (headed_pieces head ls) ≡ signs_of head ++ body_signs ls
headed_signs = headed_read piece_signs
