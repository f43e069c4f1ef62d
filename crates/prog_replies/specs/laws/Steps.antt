-- From one newline of a piece to the next.
use Rattle.std.specs.Prelude.{◌≡◌, refl, Bool, true, false, eqb, length, drop, get_or}
use Rattle.std.proofs.Math.Path.{sym, ap, subst}
use Rattle.std.proofs.Common.{◌∙◌, length-drop, eqb-true}
use mathlib.Core.List.{List, [], ◌∷◌, ◌++◌, append-nil, append_assoc}
use Prim.Native.Nat.{ℕ, suc, ◌+◌, ◌-◌, ◌≤◌, ◌<◌}
use native.Mathlib.Omega.{arith}
use Rattle.std.proofs.Math.ListN.{take}
use lib.Seq.{take-add, take-suc, take_all, take-length, drop-length}
use Rattle.byte_find.specs.Find.{slice, index_of, index_after}
use Rattle.prog_text.specs.Put.{Put}
use Rattle.prog_text.specs.laws.Put.{reached_fits, put_put, put_as}
use Rattle.prog_reply.specs.Reply.{reply}
use Rattle.prog_replies.specs.Input.{Parted, parted, replies}
use Rattle.prog_replies.specs.Pieces.{plain, Begun, Answers, LineSpan}
use Rattle.prog_replies.specs.laws.Pieces.{plain_parted, plain_line, plain_append, rest_plain, parted_append, replies_append}
use Rattle.prog_replies.specs.laws.Begun.{begun_none}

-- ---- the next newline

index_plain : (m : List ℕ) → plain (take (index_of 10 m) m) ≡ true
index_plain [] = refl
index_plain (x ∷ m) = go (eqb x 10) refl (index_plain m)
  where
    go : (t : Bool) → eqb x 10 ≡ t → plain (take (index_of 10 m) m) ≡ true → plain (take (index_after t (index_of 10 m)) (x ∷ m)) ≡ true
    go true e i = refl
    go false e i = rw e i

index_newline : (m : List ℕ) → index_of 10 m < length m → get_or m (index_of 10 m) 0 ≡ 10
index_newline [] h = absurd (omega arith)
index_newline (x ∷ m) h = go (eqb x 10) refl h (index_newline m)
  where
    go :
        (t : Bool) → eqb x 10 ≡ t → index_after t (index_of 10 m) < suc (length m) → (index_of 10 m < length m → get_or m (index_of 10 m) 0 ≡ 10)
        → get_or (x ∷ m) (index_after t (index_of 10 m)) 0 ≡ 10
    go true e k i = eqb-true x 10 e
    go false e k i = i (omega arith)

pub line_span : (piece : List ℕ) (at e : ℕ) → at ≤ length piece → e ≡ at + index_of 10 (slice at (length piece) piece) → e ≤ length piece → LineSpan piece at e
line_span piece at e h k w =
    let m : drop at (take (length piece) piece) ≡ drop at piece = ap (drop at) (take-length piece) in
    let i : e ≡ at + index_of 10 (drop at piece) = k ∙ ap (λ (l : List ℕ). at + index_of 10 l) m in
    let d : e - at ≡ index_of 10 (drop at piece) = omega arith in
    let n = length-drop at piece in
    record {
      later = omega arith;
      within = w;
      line = rw d (index_plain (drop at piece));
      up_to = ap (λ (j : ℕ). take j piece) (let z : e ≡ at + (e - at) = omega arith in z) ∙ take-add at (e - at) piece;
      newline = λ l.
          ap (λ (j : ℕ). get_or piece j 0) i
          ∙ sym (lib.Seq.get_or-drop at piece (index_of 10 (drop at piece)) 0)
          ∙ index_newline (drop at piece) (omega arith);
    }

-- ---- what a line more makes of the answers

module _ (table h piece out : List ℕ) where
  pub at_start : (buffer : List ℕ) (n : ℕ) → Begun buffer n h → Answers table h (take 0 piece) out out 0 buffer n
  unfolding replies
  at_start buffer n a =
      let e : parted (h ++ []) ≡ record { lines = []; rest = h } = ap parted (append-nil h) ∙ plain_parted h a.line in
      record {
        answers = rw e (record { bytes = refl; end = sym (reached_fits (length out) 0 (omega arith)) });
        begun = rw e a;
      }

  -- the line that ends at e, behind the answers up to a place
  pub line_ends :
      (at e : ℕ) (out₁ out₂ buffer buffer₂ : List ℕ) (printed printed₂ count : ℕ) → LineSpan piece at e → e < length piece
      → Answers table h (take at piece) out out₁ printed buffer count
      → Put (reply table ((parted (h ++ take at piece)).rest ++ take (e - at) (drop at piece))) out₁ printed out₂ printed₂
      → Answers table h (take (e + 1) piece) out out₂ printed₂ buffer₂ 0
  unfolding replies
  line_ends at e out₁ out₂ buffer buffer₂ printed printed₂ count g k a p =
      let so_far = parted (h ++ take at piece) in
      let l = take (e - at) (drop at piece) in
      let upto : take (e + 1) piece ≡ take at piece ++ (l ++ (10 ∷ [])) =
      ap (λ (j : ℕ). take j piece) (let z : e + 1 ≡ suc e = omega arith in z)
      ∙ take-suc piece e 0 k
      ∙ ap (λ (b : ℕ). take e piece ++ (b ∷ [])) (g.newline k)
      ∙ ap (λ (s : List ℕ). s ++ (10 ∷ [])) g.up_to
      ∙ append_assoc (take at piece) l (10 ∷ []) in
      let new : parted (so_far.rest ++ (l ++ (10 ∷ []))) ≡ record { lines = (so_far.rest ++ l) ∷ []; rest = [] } =
      ap parted (sym (append_assoc so_far.rest l (10 ∷ [])))
      ∙ plain_line (so_far.rest ++ l) (plain_append so_far.rest l (rest_plain (h ++ take at piece)) g.line) in
      let whole : parted (h ++ take (e + 1) piece) ≡ record { lines = so_far.lines ++ ((so_far.rest ++ l) ∷ []); rest = [] } =
      ap (λ (s : List ℕ). parted (h ++ s)) upto
      ∙ ap parted (sym (append_assoc h (take at piece) (l ++ (10 ∷ []))))
      ∙ parted_append (h ++ take at piece) (l ++ (10 ∷ []))
      ∙ ap (λ (q : Parted). record { lines = so_far.lines ++ q.lines; rest = q.rest }) new in
      let more : replies table (so_far.lines ++ ((so_far.rest ++ l) ∷ [])) ≡ replies table so_far.lines ++ reply table (so_far.rest ++ l) =
      replies_append table so_far.lines ((so_far.rest ++ l) ∷ [])
      ∙ ap (λ (s : List ℕ). replies table so_far.lines ++ s) (append-nil (reply table (so_far.rest ++ l))) in
      record {
        answers = put_as (ap (λ (q : Parted). replies table q.lines) whole ∙ more) (put_put a.answers p);
        begun = subst (λ (q : Parted). Begun buffer₂ 0 q.rest) (sym whole) (begun_none buffer₂);
      }

  -- no newline up to the end of the piece: the line line_span on behind it
  pub line_goes_on :
      (at e : ℕ) (out₁ buffer buffer₂ : List ℕ) (printed count count₂ : ℕ) → LineSpan piece at e → e ≡ length piece
      → Answers table h (take at piece) out out₁ printed buffer count
      → Begun buffer₂ count₂ ((parted (h ++ take at piece)).rest ++ take (e - at) (drop at piece))
      → Answers table h (take (e + 1) piece) out out₁ printed buffer₂ count₂
  line_goes_on at e out₁ buffer buffer₂ printed count count₂ g k a p =
      let so_far = parted (h ++ take at piece) in
      let l = take (e - at) (drop at piece) in
      let upto : take (e + 1) piece ≡ take at piece ++ l =
      take_all (e + 1) piece (omega arith)
      ∙ sym (take_all e piece (omega arith))
      ∙ g.up_to in
      let new : parted (so_far.rest ++ l) ≡ record { lines = []; rest = so_far.rest ++ l } = plain_parted (so_far.rest ++ l) p.line in
      let whole : parted (h ++ take (e + 1) piece) ≡ record { lines = so_far.lines; rest = so_far.rest ++ l } =
      ap (λ (s : List ℕ). parted (h ++ s)) upto
      ∙ ap parted (sym (append_assoc h (take at piece) l))
      ∙ parted_append (h ++ take at piece) l
      ∙ ap (λ (q : Parted). record { lines = so_far.lines ++ q.lines; rest = q.rest }) new
      ∙ ap (λ (ls : List (List ℕ)). record { lines = ls; rest = so_far.rest ++ l }) (append-nil so_far.lines) in
      record {
        answers = put_as (ap (λ (q : Parted). replies table q.lines) whole) a.answers;
        begun = subst (λ (q : Parted). Begun buffer₂ count₂ q.rest) (sym whole) p;
      }

-- as much of what a writer holds is as much of the lent bytes
pub answers_in :
    {table h piece out out₁ out' out₂ buffer : List ℕ} {n count : ℕ} → Answers table h piece out₁ out₂ n buffer count → out₁ ≡ out → out₂ ≡ out'
    → Answers table h piece out out' n buffer count
answers_in a e f = rw (← e, ← f) a
