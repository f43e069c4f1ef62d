-- Writing a text part by part: what is written already, and what is left of it.
use Rattle.std.specs.Prelude.{◌≡◌, refl, List, [], ◌∷◌, ◌++◌, map, ℕ, length}
use Rattle.std.proofs.Common.{sym, ap, ◌∙◌, append_assoc, append-nil, arith, length-append}
use Rattle.spec_lists.specs.Select.{joined}
use Rattle.byte_write.specs.laws.Puts.{put_put, put_none, put_as}
use Rattle.text_marks.specs.declared.Writer.{Writer}
use Rattle.text_marks.specs.Room.{Room}
use Rattle.text_marks.specs.Writes.{Writes}

pub wrote_none : (w : Writer) → Writes w w []
wrote_none w = record { same = refl; put = put_none w.lent.now w.at }

pub wrote_both : {u v w : Writer} {xs ys : List ℕ} → Writes u v xs → Writes v w ys → Writes u w (xs ++ ys)
wrote_both p q = record { same = q.same ∙ p.same; put = put_put p.put q.put }

pub wrote_as : {u v : Writer} {xs ys : List ℕ} → Writes u v xs → xs ≡ ys → Writes u v ys
wrote_as p e = record { same = p.same; put = put_as p.put e refl }

-- of the whole text, which the writer u began, the rest is left to be written
pub record Left (u v : Writer) (whole rest : List ℕ) : Type 0 where
  pub done : List ℕ
  pub wrote : Writes u v done
  pub is : done ++ rest ≡ whole

module _ {u v : Writer} {whole rest : List ℕ} (l : Left u v whole rest) where
  -- one part more
  pub left_on : {w : Writer} {ws later : List ℕ} → rest ≡ ws ++ later → Writes v w ws → Left u w whole later
  left_on {ws = ws} {later = later} e p =
      record {
        done = l.done ++ ws;
        wrote = wrote_both l.wrote p;
        is = append_assoc l.done ws later ∙ ap (λ (t : List ℕ). l.done ++ t) (sym e) ∙ l.is;
      }

  -- there is room for what is left, and for the next part of it
  pub left_room : Room u.at whole → Room v.at rest
  left_room h = record { fits = omega (arith, h.fits, l.wrote.put.end, ap length l.is, length-append l.done rest) }

  pub left_none : rest ≡ [] → Writes u v whole
  left_none e = wrote_as l.wrote (sym (append-nil l.done) ∙ ap (λ (t : List ℕ). l.done ++ t) (sym e) ∙ l.is)

-- there is room for a part where there is room for all
pub room_first : {at : ℕ} {whole : List ℕ} (ws later : List ℕ) → whole ≡ ws ++ later → Room at whole → Room at ws
room_first ws later e h = record { fits = omega (arith, h.fits, ap length e, length-append ws later) }

-- and behind it for what follows
pub room_next :
    {u v : Writer} {whole ws : List ℕ} (later : List ℕ) → whole ≡ ws ++ later → Room u.at whole → Writes u v ws → Room v.at later
room_next {ws = ws} later e h p = record { fits = omega (arith, h.fits, p.put.end, ap length e, length-append ws later) }

-- a list element by element
module _ {A : Type 0} (f : A → List ℕ) where
  pub texts_on : {x : A} {xs ys : List A} → xs ≡ x ∷ ys → joined (map f xs) ≡ f x ++ joined (map f ys)
  texts_on e = ap (λ (l : List A). joined (map f l)) e

  pub texts_end : {xs : List A} → xs ≡ [] → joined (map f xs) ≡ []
  texts_end e = ap (λ (l : List A). joined (map f l)) e
