-- The tokens of a text are no longer than the text, and an input's word spells a letter from A to U.
use Rattle.std.specs.Prelude.{◌≡◌, List, [], ◌∷◌, map, ℕ, ◌+◌, ◌≤◌, ◌<◌, leb, length}
use Rattle.std.proofs.Common.{subst, ap, arith, length-append, leb-true}
use Prim.Native.Char.{code}
use Rattle.spec_lists.specs.Select.{total}
use Rattle.spec_lists.specs.Every.{Every}
use Rattle.spec_lists.proofs.laws.Both.{both}
use Rattle.spec_token.specs.declared.Kind.{Kind}
use Rattle.spec_token.specs.declared.Kind.TheVariants.{Inp}
use Rattle.spec_token.specs.Word.{greatest_letter, link_letter, inp, OfKind, formed}
use Rattle.spec_token.specs.Token as spelled
use Rattle.spec_token.specs.Token.{Token, Tokens, tokens, bad, then, Alone, open_paren, close_paren, open_brace, close_brace, comma, Spells, end, gap}
use Rattle.spec_token.specs.Token.{bare_newline, Spelled}
use Rattle.spec_token.proofs.laws.Each.{every_token}

-- an input's letter is one of A to U
abbrev pub InputSpelled : Token → Type 0
InputSpelled t = t.kind ≡ Inp → link_letter t.text ≤ greatest_letter

input_letter : {w : List ℕ} → OfKind w Inp → link_letter w ≤ 20
input_letter (formed (inp {letter = l} e r)) =
    let h = both (leb (code "A") l) (leb l (code "U")) r in
    let k = leb-true l (code "U") h.1 in
    rw e (omega arith)

pub no_input : {b : ℕ} {k : Kind} → Alone b k → k ≡ Inp → ⊥
no_input open_paren e = let z : ◌≡◌ {A = ℕ} 0 1 = cc in omega arith
no_input close_paren e = let z : ◌≡◌ {A = ℕ} 0 1 = cc in omega arith
no_input open_brace e = let z : ◌≡◌ {A = ℕ} 0 1 = cc in omega arith
no_input close_brace e = let z : ◌≡◌ {A = ℕ} 0 1 = cc in omega arith
no_input comma e = let z : ◌≡◌ {A = ℕ} 0 1 = cc in omega arith

abbrev text_bytes : List Token → ℕ
text_bytes ts = total (map (λ t. length t.text) ts)

-- what n bytes may spell
data Kept (n : ℕ) : Tokens → Type 0 where
  kept : {ts : List Token} → text_bytes ts ≤ n → length ts ≤ n → Kept n (tokens ts)
  refused : {p : ℕ} → Kept n (bad p)

kept_more : {m n : ℕ} {o : Tokens} → m ≤ n → Kept m o → Kept n o
kept_more l (kept {ts = ts} h c) = kept {ts = ts} (omega arith) (omega arith)
kept_more l refused = refused

kept_then : {m n : ℕ} (t : Token) {o : Tokens} → length t.text + m ≤ n → m < n → Kept m o → Kept n (then t o)
kept_then t l k (kept {ts = ts} h c) = kept {ts = t ∷ ts} (omega arith) (omega arith)
kept_then t l k refused = refused

keeps : {p : ℕ} {s : List ℕ} {o : Tokens} → Spells p s o → Kept (length s) o
keeps end = kept {ts = []} (omega arith) (omega arith)
keeps (gap h d) = kept_more (omega arith) (keeps d)
keeps (spelled.comment {w = w} {r = r} h d) = let m = length-append w r in kept_more (omega (arith, ap length h.parts)) (keeps d)
keeps {p = p} (spelled.word {b = b} {w = w} {r = r} {k = k} h f d) =
    let m = length-append w r in
    kept_then
    (record { kind = k; place = p; text = b ∷ w })
    (omega (arith, ap length h.parts))
    (omega (arith, ap length h.parts))
    (keeps d)
keeps {p = p} (spelled.quoted {w = w} {r = r} e t d) =
    let m = length-append w (code "\"" ∷ r) in
    kept_then
    (record { kind = _; place = p; text = w })
    (omega (arith, ap length e))
    (omega (arith, ap length e))
    (keeps d)
keeps {p = p} (spelled.alone {b = b} {k = k} h d) =
    kept_then (record { kind = k; place = p; text = b ∷ [] }) (omega arith) (omega arith) (keeps d)
keeps (bare_newline r e t) = refused
keeps (spelled.unclosed u) = refused
keeps (spelled.other h) = refused

kept_bytes : {n : ℕ} {ts : List Token} → Kept n (tokens ts) → text_bytes ts ≤ n
kept_bytes (kept h c) = h

kept_few : {n : ℕ} {ts : List Token} → Kept n (tokens ts) → length ts ≤ n
kept_few (kept h c) = c

pub spelled_bytes : {s : List ℕ} {ts : List Token} → Spelled s ts → total (map (λ t. length t.text) ts) ≤ length s
spelled_bytes d = kept_bytes (keeps d)

pub spelled_inputs : {s : List ℕ} {ts : List Token} → Spelled s ts → Every InputSpelled ts
spelled_inputs =
    every_token InputSpelled
    (λ b w k p h f e. input_letter (subst (OfKind (b ∷ w)) e f))
    (λ w p q e. let z : ◌≡◌ {A = ℕ} 0 1 = cc in absurd (omega arith))
    (λ b k p a e. absurd (no_input a e))

-- no more tokens than bytes
pub spelled_few : {s : List ℕ} {ts : List Token} → Spelled s ts → length ts ≤ length s
spelled_few d = kept_few (keeps d)
