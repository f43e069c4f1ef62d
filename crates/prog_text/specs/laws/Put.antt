-- Laws of writing from an offset on.
use Rattle.std.specs.Prelude.{◌≡◌, refl, Bool, true, false, cond, List, [], ◌∷◌, ◌++◌, ℕ, suc, ◌+◌, ◌-◌, ◌≤◌, ◌<◌, leb, min, length, set, take, drop}
use Rattle.std.proofs.Common.{sym, ap, ◌∙◌, arith, length-append, length-take-le, take_all, take_at, leb-true, leb-false, le-leb}
use Rattle.std.proofs.lemmas.List.{take-append-drop}
use Rattle.std.proofs.lemmas.List.Edits.{sets, sets-eq}
use Rattle.std.proofs.Math.Seq.{length-sets, set_out, drop-length}
use Rattle.std.proofs.lemmas.Slice.{put_mid-paste}
use borrow.Rule.Slice.PartMut.{put_mid}
use Rattle.prog_text.specs.Put.{reached, Put}

pub reached_fits : (room n : ℕ) → n ≤ room → reached room n ≡ n
reached_fits room n h = rw (le-leb n room h)

pub reached_full : (room n : ℕ) → room ≤ n → reached room n ≡ room
reached_full room n h = go (leb n room) refl
  where
    go : (t : Bool) → leb n room ≡ t → cond t n room ≡ room
    go true e = let z = leb-true n room e in omega arith
    go false e = refl

pub reached_within : (room n : ℕ) → reached room n ≤ room
reached_within room n = go (leb n room) refl
  where
    go : (t : Bool) → leb n room ≡ t → cond t n room ≤ room
    go true e = leb-true n room e
    go false e = omega arith

-- past the end nothing is written
pub sets_out : (vs b : List ℕ) (i : ℕ) → length b ≤ i → sets b i vs ≡ b
sets_out [] b i h = refl
sets_out (v ∷ vs) b i h = ap (λ (l : List ℕ). sets l (suc i) vs) (set_out b i v h) ∙ sets_out vs b (suc i) (omega arith)

sets_sets : (ws vs b : List ℕ) (at n : ℕ) → n ≡ at + length ws → sets (sets b at ws) n vs ≡ sets b at (ws ++ vs)
sets_sets [] vs b at n e = ap (λ (k : ℕ). sets b k vs) (let z : n ≡ at = omega arith in z)
sets_sets (w ∷ ws) vs b at n e = sets_sets ws vs (set b at w) (suc at) n (omega arith)

pub put_length : {ws b c : List ℕ} {at r : ℕ} → Put ws b at c r → length c ≡ length b
put_length {ws} {b} {c} {at} p = ap length p.bytes ∙ length-sets b at ws

pub put_within : {ws b c : List ℕ} {at r : ℕ} → Put ws b at c r → r ≤ length c
put_within {ws} {b} {c} {at} p =
    let l = put_length p in
    let e = p.end in
    let z = reached_within (length b) (at + length ws) in
    omega arith

-- one writing behind another
pub put_put : {ws vs b c d : List ℕ} {at r t : ℕ} → Put ws b at c r → Put vs c r d t → Put (ws ++ vs) b at d t
put_put {ws} {vs} {b} {c} {d} {at} {r} {t} p q = go (leb (at + length ws) (length b)) refl
  where
    n : length c ≡ length b
    n = put_length p

    both : length (ws ++ vs) ≡ length ws + length vs
    both = length-append ws vs

    fits : at + length ws ≤ length b → Put (ws ++ vs) b at d t
    fits h =
        let e : r ≡ at + length ws = p.end ∙ reached_fits (length b) (at + length ws) h in
        record {
          bytes = q.bytes ∙ ap (λ (l : List ℕ). sets l r vs) p.bytes ∙ sets_sets ws vs b at r e;
          end =
              q.end
              ∙ ap (λ (k : ℕ). reached k (r + length vs)) n
              ∙ ap (reached (length b)) (let z : r + length vs ≡ at + length (ws ++ vs) = omega (arith, both) in z);
        }

    full : length b < at + length ws → Put (ws ++ vs) b at d t
    full h =
        let e : r ≡ length b = p.end ∙ reached_full (length b) (at + length ws) (omega arith) in
        let out : sets c r vs ≡ c = sets_out vs c r (omega (arith, n)) in
        let far : sets (sets b at ws) (at + length ws) vs ≡ sets b at ws =
        sets_out vs (sets b at ws) (at + length ws) (let z = length-sets b at ws in omega arith) in
        record {
          bytes = q.bytes ∙ out ∙ p.bytes ∙ sym far ∙ sets_sets ws vs b at (at + length ws) refl;
          end =
              q.end
              ∙ reached_full (length c) (r + length vs) (omega (arith, n))
              ∙ n
              ∙ sym (reached_full (length b) (at + length (ws ++ vs)) (omega (arith, both)));
        }

    go : (x : Bool) → leb (at + length ws) (length b) ≡ x → Put (ws ++ vs) b at d t
    go true e = fits (leb-true (at + length ws) (length b) e)
    go false e = full (leb-false (at + length ws) (length b) e)

-- where there is room, the text stands there whole
pub put_whole : {ws b c : List ℕ} {r : ℕ} → Put ws b 0 c r → length ws ≤ length b → take r c ≡ ws
put_whole {ws} {b} {c} {r} p h =
    let z : r ≡ length ws = p.end ∙ reached_fits (length b) (0 + length ws) (omega arith) ∙ (let y : 0 + length ws ≡ length ws = omega arith in y) in
    ap (take r) (p.bytes ∙ sets-eq ws b 0 (omega arith)) ∙ take_at ws (drop (0 + length ws) b) r (sym z)

pub put_as : {ws vs b c : List ℕ} {at r : ℕ} → ws ≡ vs → Put vs b at c r → Put ws b at c r
put_as e p = rw e p

-- ---- what is copied

-- as many bytes of a text as have room
module _ (text b ys : List ℕ) (at n k : ℕ) (here : at ≤ length b) (few : n ≡ min (length text) (length b - at)) (whole : k ≡ n) (same : ys ≡ take n text) where
  rest_out : sets (sets b at ys) (at + n) (drop n text) ≡ sets b at ys
  rest_out = go (leb (length text) (length b - at)) refl
    where
      go : (t : Bool) → leb (length text) (length b - at) ≡ t → sets (sets b at ys) (at + n) (drop n text) ≡ sets b at ys
      go true e =
          let l = leb-true (length text) (length b - at) e in
          let z : n ≡ length text = omega arith in
          ap (λ (j : ℕ). sets (sets b at ys) (at + n) (drop j text)) z ∙ ap (sets (sets b at ys) (at + n)) (drop-length text)
      go false e =
          let l = leb-false (length text) (length b - at) e in
          sets_out (drop n text) (sets b at ys) (at + n) (let z = length-sets b at ys in omega arith)

  many : length ys ≡ n
  many = ap length same ∙ length-take-le n text (omega arith)

  pub copied : Put text b at (put_mid at k b ys) (at + n)
  copied =
      record {
        bytes =
            put_mid-paste at k b ys ys (length ys) refl (omega (arith, many)) refl
            ∙ ap (λ (l : List ℕ). take at b ++ l ++ drop (at + length ys) b) (take_all (length ys) ys (omega arith))
            ∙ sym (sets-eq ys b at (omega (arith, many)))
            ∙ sym rest_out
            ∙ sets_sets ys (drop n text) b at (at + n) (omega (arith, many))
            ∙ ap (sets b at) (ap (λ (l : List ℕ). l ++ drop n text) same ∙ take-append-drop n text);
        end = reaches;
      }
    where
      reaches : at + n ≡ reached (length b) (at + length text)
      reaches = go (leb (at + length text) (length b)) refl
        where
          go : (t : Bool) → leb (at + length text) (length b) ≡ t → at + n ≡ cond t (at + length text) (length b)
          go true e = let l = leb-true (at + length text) (length b) e in omega arith
          go false e = let l = leb-false (at + length text) (length b) e in omega arith

-- what a writer that began at the start of some bytes has written in them
pub from_start : {ws b b' c c' : List ℕ} {at r : ℕ} → Put ws b' at c' r → b' ≡ b → at ≡ 0 → c' ≡ c → Put ws b 0 c r
from_start p e z f = rw (← e, ← z, ← f) p
