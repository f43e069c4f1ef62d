-- What is read of each piece, one behind the other: through lines, and through a head and its body.
use Rattle.std.specs.Prelude.{◌≡◌, refl, List, [], ◌∷◌, ◌++◌, map}
use Rattle.std.proofs.Common.{ap, ap₂, ◌∙◌, append_assoc, append-nil}
use Rattle.spec_lists.specs.Select.{joined}
use Rattle.spec_lists.proofs.laws.Alike.{map_same}
use Rattle.spec_lists.proofs.laws.Joined.{each_append, joined_each}
use Rattle.spec_text.proofs.laws.Pieces.{Piece, line_end, lb, rb, headed_pieces, ended_pieces}

module _ {B : Type 0} (h : Piece → List B) where
  -- of some pieces
  abbrev pub read : List Piece → List B
  read ps = joined (map h ps)

  -- of some lines, their ends aside
  abbrev pub lines_read : List (List Piece) → List B
  lines_read ls = joined (map read ls)

  -- of a body, between its braces
  abbrev pub body_read : List (List Piece) → List B
  body_read [] = []
  body_read (l ∷ ls) = read (lb ∷ []) ++ (lines_read (l ∷ ls) ++ lines_read ((rb ∷ []) ∷ []))

  pub headed_read : (head : List Piece) (ls : List (List Piece)) → lines_read (headed_pieces head ls) ≡ read head ++ body_read ls
  headed_read head [] = refl
  headed_read head (l ∷ ls) =
      ap₂ (λ (a b : List B). a ++ b) (each_append h head (lb ∷ [])) (each_append read (l ∷ ls) ((rb ∷ []) ∷ []))
      ∙ append_assoc (read head) (read (lb ∷ [])) (lines_read (l ∷ ls) ++ lines_read ((rb ∷ []) ∷ []))

  -- the end of a line says nothing
  pub ended_read : h line_end ≡ [] → (ls : List (List Piece)) → read (ended_pieces ls) ≡ lines_read ls
  ended_read e ls =
      joined_each h (λ l. l ++ (line_end ∷ [])) ls
      ∙ ap joined (map_same (λ l. each_append h l (line_end ∷ []) ∙ rw e (append-nil (read l))) ls)
