-- The text of lines, part by part.
use Rattle.std.specs.Prelude.{◌≡◌, refl, true, false, List, [], ◌∷◌, ◌++◌, map, ℕ}
use Rattle.std.proofs.Common.{sym, ap, ◌∙◌, append_assoc, append-nil}
use Rattle.std.proofs.lemmas.Bool.{false≢true}
use Rattle.spec_lists.specs.Text.{bytes}
use Rattle.spec_lists.specs.Select.{nonempty, joined}
use Rattle.spec_lists.proofs.laws.Joined.{joined_append, map_append, map_map}
use Rattle.spec_text.specs.Lines.{headed, ended}
use Rattle.text_marks.specs.Room.{Room}
use Rattle.text_marks.specs.laws.Left.{room_first}

pub ended_append : (ls ms : List (List ℕ)) → ended (ls ++ ms) ≡ ended ls ++ ended ms
ended_append ls ms =
    let f : List ℕ → List ℕ = λ l. l ++ bytes "\n" in ap joined (map_append f ls ms) ∙ joined_append (map f ls) (map f ms)

pub ended_one : (l : List ℕ) → ended (l ∷ []) ≡ l ++ bytes "\n"
ended_one l = append-nil (l ++ bytes "\n")

-- a head without a body
pub ended_bare : (head : List ℕ) (ls : List (List ℕ)) → nonempty ls ≡ false → ended (headed head ls) ≡ head ++ bytes "\n"
ended_bare head [] h = ended_one head
ended_bare head (l ∷ ls) h = absurd (false≢true (sym h))

-- and with one
pub ended_body :
    (head : List ℕ) (ls : List (List ℕ)) → nonempty ls ≡ true → ended (headed head ls) ≡ head ++ (bytes "{\n" ++ (ended ls ++ bytes "}\n"))
ended_body head [] h = absurd (false≢true h)
ended_body head (l ∷ ls) h =
    ap (λ (t : List ℕ). ((head ++ bytes "{") ++ bytes "\n") ++ t) (ended_append (l ∷ ls) (bytes "}" ∷ []))
    ∙ ap (λ (t : List ℕ). t ++ (ended (l ∷ ls) ++ bytes "}\n")) (append_assoc head (bytes "{") (bytes "\n"))
    ∙ append_assoc head (bytes "{\n") (ended (l ∷ ls) ++ bytes "}\n")

-- what is written first, whether there is a body or not
pub ended_head : {at : ℕ} (head : List ℕ) (ls : List (List ℕ)) → Room at (ended (headed head ls)) → Room at head
ended_head head [] h = room_first head (bytes "\n") (ended_one head) h
ended_head head (l ∷ ls) h = room_first head (bytes "{\n" ++ (ended (l ∷ ls) ++ bytes "}\n")) (ended_body head (l ∷ ls) refl) h

module _ {A : Type 0} where
  pub ended_joined : (f : A → List (List ℕ)) (xs : List A) → ended (joined (map f xs)) ≡ joined (map (λ x. ended (f x)) xs)
  ended_joined f [] = refl
  ended_joined f (x ∷ xs) = ended_append (f x) (joined (map f xs)) ∙ ap (λ (t : List ℕ). ended (f x) ++ t) (ended_joined f xs)

  pub ended_map : (f : A → List ℕ) (xs : List A) → ended (map f xs) ≡ joined (map (λ x. f x ++ bytes "\n") xs)
  ended_map f xs = ap joined (map_map (λ l. l ++ bytes "\n") f xs)
