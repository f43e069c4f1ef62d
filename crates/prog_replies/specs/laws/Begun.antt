-- Laws of the line that has begun.
use Rattle.std.specs.Prelude.{◌≡◌, refl, Bool, true, false, ℕ, zero, suc, ◌+◌, ◌≤◌, ◌<◌, leb, length, take, set}
use Rattle.std.proofs.Common.{sym, ap, ◌∙◌, arith, length-take, length-set, take_all, take-suc-set, length-take-le, leb-true, leb-false}
use mathlib.Core.List.{List, [], ◌∷◌, ◌++◌, append-nil}
use Rattle.std.proofs.lemmas.List.Edits.{sets}
use Rattle.std.proofs.Math.Seq.{take-nil}
use Rattle.std.proofs.lemmas.List.{take-append-le}
use Rattle.prog_line.specs.Line.{asks, longest_line}
use Rattle.prog_text.specs.Put.{Put, reached}
use Rattle.prog_text.specs.laws.Put.{reached_fits, reached_full, reached_within, sets_out}
use Rattle.prog_reply.specs.Reply.{reply}
use Rattle.prog_replies.specs.Input.{last_line}
use Rattle.prog_replies.specs.Pieces.{plain, room, Begun}
use Rattle.prog_replies.specs.laws.Pieces.{plain_append}

pub begun_none : (buffer : List ℕ) → Begun buffer 0 []
begun_none buffer = record { within = omega arith; same = sym (take-nil room); line = refl }

take_front : (n : ℕ) (h p : List ℕ) → take n (take n h ++ p) ≡ take n (h ++ p)
take_front zero h p = refl
take_front (suc n) [] p = refl
take_front (suc n) (x ∷ h) p = ap (λ (l : List ℕ). x ∷ l) (take_front n h p)

-- a text written behind the first n of some bytes, as far as there is room
put_take :
    (part buffer : List ℕ) (n : ℕ) → n ≤ length buffer
    → take (reached (length buffer) (n + length part)) (sets buffer n part) ≡ take (length buffer) (take n buffer ++ part)
put_take [] buffer n h =
    let e : reached (length buffer) (n + 0) ≡ n = reached_fits (length buffer) (n + 0) (omega arith) ∙ (let z : n + 0 ≡ n = omega arith in z) in
    rw (e, append-nil (take n buffer)) (sym (take_all (length buffer) (take n buffer) (let z = length-take-le n buffer h in omega arith)))
put_take (v ∷ vs) buffer n h = go (leb (suc n) (length buffer)) refl (λ k. put_take vs (set buffer n v) (suc n) k)
  where
    size : length (set buffer n v) ≡ length buffer
    size = length-set buffer n v

    go :
        (t : Bool) → leb (suc n) (length buffer) ≡ t
        →
        (suc n ≤ length (set buffer n v)
        → take (reached (length (set buffer n v)) (suc n + length vs)) (sets (set buffer n v) (suc n) vs)
        ≡ take (length (set buffer n v)) (take (suc n) (set buffer n v) ++ vs))
        → take (reached (length buffer) (n + suc (length vs))) (sets (set buffer n v) (suc n) vs) ≡ take (length buffer) (take n buffer ++ (v ∷ vs))
    go true e next =
        let k : n < length buffer = leb-true (suc n) (length buffer) e in
        let i = next (let z = size in omega arith) in
        let one : take (suc n) (set buffer n v) ≡ take n buffer ++ (v ∷ []) = take-suc-set buffer n v k in
        let there : n + suc (length vs) ≡ suc n + length vs = omega arith in
        ap (λ (j : ℕ). take (reached (length buffer) j) (sets (set buffer n v) (suc n) vs)) there
        ∙ ap (λ (j : ℕ). take (reached j (suc n + length vs)) (sets (set buffer n v) (suc n) vs)) (sym size)
        ∙ i
        ∙ ap (λ (j : ℕ). take j (take (suc n) (set buffer n v) ++ vs)) size
        ∙ ap (λ (l : List ℕ). take (length buffer) (l ++ vs)) one
        ∙ ap (take (length buffer)) (mathlib.Core.List.append_assoc (take n buffer) (v ∷ []) vs)
    go false e next =
        let k : length buffer < suc n = leb-false (suc n) (length buffer) e in
        let full : n ≡ length buffer = omega arith in
        let out : sets buffer n (v ∷ vs) ≡ buffer = sets_out (v ∷ vs) buffer n (omega arith) in
        let far : reached (length buffer) (n + suc (length vs)) ≡ length buffer = reached_full (length buffer) (n + suc (length vs)) (omega arith) in
        let all : take n buffer ≡ buffer = take_all n buffer (omega arith) in
        ap (λ (j : ℕ). take j (sets buffer n (v ∷ vs))) far
        ∙ ap (take (length buffer)) (out ∙ sym all)
        ∙ sym (take-append-le (length buffer) (take n buffer) (v ∷ vs) (let z = ap length all in omega arith))

pub begun_more :
    {buffer buffer' part h : List ℕ} {n r : ℕ} → length buffer ≡ room → Begun buffer n h → plain part ≡ true → Put part buffer n buffer' r
    → Begun buffer' r (h ++ part)
begun_more {buffer} {buffer'} {part} {h} {n} {r} size a p q =
    record {
      within = let z = reached_within (length buffer) (n + length part) in let e = q.end in omega arith;
      same =
          ap (take r) q.bytes
          ∙ ap (λ (j : ℕ). take j (sets buffer n part)) q.end
          ∙ put_take part buffer n (let z = a.within in omega arith)
          ∙ ap (λ (j : ℕ). take j (take n buffer ++ part)) size
          ∙ ap (λ (l : List ℕ). take room (l ++ part)) a.same
          ∙ take_front room h part;
      line = plain_append h part a.line p;
    }

-- a line that is cut is too long as it was
asks_cut : (h : List ℕ) → asks (take room h) ≡ asks h
unfolding asks
asks_cut h = go (leb (length h) longest_line) refl
  where
    go : (t : Bool) → leb (length h) longest_line ≡ t → asks (take room h) ≡ asks h
    go true e = ap asks (take_all room h (let z = leb-true (length h) longest_line e in omega arith))
    go false e =
        let k = leb-false (length h) longest_line e in
        let n : length (take room h) ≡ room = length-take-le room h (omega arith) in
        rw (e, n) refl

pub reply_begun : (table : List ℕ) {buffer h : List ℕ} {n : ℕ} → Begun buffer n h → reply table (take n buffer) ≡ reply table h
unfolding reply
reply_begun table {buffer} {h} {n} a = rw (a.same, asks_cut h) refl

pub nothing_begun : (buffer h : List ℕ) (n : ℕ) → n ≡ 0 → Begun buffer n h → last_line h ≡ []
nothing_begun buffer [] n e a = refl
nothing_begun buffer (x ∷ h) n e a =
    let z : length (take n buffer) ≡ length (take room (x ∷ h)) = ap length a.same in
    let y : length (take n buffer) ≡ 0 = rw e refl in
    let w = length-take room (x ∷ h) in
    absurd (omega arith)

pub line_begun : (buffer h : List ℕ) (n : ℕ) → 0 < n → n ≤ length buffer → Begun buffer n h → last_line h ≡ h ∷ []
line_begun buffer [] n p q a =
    let z : length (take n buffer) ≡ length (take {A = ℕ} room []) = ap length a.same in
    let y = length-take-le n buffer q in
    let w : length (take {A = ℕ} room []) ≡ 0 = ap length (take-nil {A = ℕ} room) in
    absurd (omega arith)
line_begun buffer (x ∷ h) n p q a = refl
