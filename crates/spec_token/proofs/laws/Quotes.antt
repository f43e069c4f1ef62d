-- A quoted text as a loop reads it, byte by byte from a place on.
use Rattle.std.specs.Prelude.{◌≡◌, refl, Bool, false, List, [], ◌∷◌, ◌++◌, ℕ, suc, ◌+◌, ◌-◌, ◌≤◌, ◌<◌, length, get_or, take, drop}
use Rattle.std.proofs.Common.{sym, ◌∙◌, append_assoc, append-nil, arith, add-one, drop_of_length-le, length-drop, drop-cons, take-suc, get_or-drop}
use Rattle.spec_token.specs.Scanner.{Quoted, closed, broken, unclosed, also, quoted}

-- more text in front
abbrev pub front : List ℕ → Quoted → Quoted
front xs (closed s r) = closed (xs ++ s) r
front xs (broken p) = broken p
front xs unclosed = unclosed

front_none : (q : Quoted) → front [] q ≡ q
front_none (closed s r) = refl
front_none (broken p) = refl
front_none unclosed = refl

front_also : (xs : List ℕ) (b : ℕ) (q : Quoted) → front (xs ++ (b ∷ [])) q ≡ front xs (also b q)
front_also xs b (closed s r) = rw (append_assoc)
front_also xs b (broken p) = refl
front_also xs b unclosed = refl

module _ (s : List ℕ) (from : ℕ) where
  -- what a loop has read that stands at i, behind the backslash of an escape or not
  pub record Inside (i : ℕ) (escaped : Bool) : Type 0 where
    pub low : from ≤ i
    pub high : i ≤ length s
    pub same : quoted false from (drop from s) ≡ front (take (i - from) (drop from s)) (quoted escaped i (drop i s))

  pub start : from ≤ length s → Inside from false
  start h = record { low = omega arith; high = h; same = rw (none) (sym (front_none (quoted false from (drop from s)))) }
    where
      none : from - from ≡ 0
      none = omega arith

  module _ {i : ℕ} (h : i < length s) where
    here : drop i s ≡ get_or s i 0 ∷ drop (i + 1) s
    here = rw (add-one) (drop-cons s i 0 h)

    longer : from ≤ i → take ((i + 1) - from) (drop from s) ≡ take (i - from) (drop from s) ++ (get_or s i 0 ∷ [])
    longer l =
        let n : (i + 1) - from ≡ suc (i - from) = omega arith in
        let k : from + (i - from) ≡ i = omega arith in
        rw n (take-suc (drop from s) (i - from) 0 (rw length-drop (omega arith)) ∙ rw (get_or-drop, k))

    -- a byte that belongs to the text
    pub further :
        {e n : Bool} → Inside i e → quoted e i (get_or s i 0 ∷ drop (i + 1) s) ≡ also (get_or s i 0) (quoted n (i + 1) (drop (i + 1) s))
        → Inside (i + 1) n
    further {e} {n} g q =
        record {
          low = omega (arith, g.low);
          high = omega arith;
          same = g.same ∙ rw (here, q, longer g.low) (sym (front_also (take (i - from) (drop from s)) (get_or s i 0) (quoted n (i + 1) (drop (i + 1) s))));
        }

    pub closes :
        {e : Bool} → Inside i e → quoted e i (get_or s i 0 ∷ drop (i + 1) s) ≡ closed [] (drop (i + 1) s)
        → quoted false from (drop from s) ≡ closed (take (i - from) (drop from s)) (drop (i + 1) s)
    closes g q = g.same ∙ rw (here, q, append-nil)

    pub breaks : {e : Bool} → Inside i e → quoted e i (get_or s i 0 ∷ drop (i + 1) s) ≡ broken i → quoted false from (drop from s) ≡ broken i
    breaks g q = g.same ∙ rw (here, q)

  pub never_closes : {i : ℕ} {e : Bool} → Inside i e → length s ≤ i → quoted false from (drop from s) ≡ unclosed
  never_closes {i} {e} g h = g.same ∙ rw (drop_of_length-le s h)
