-- A scan goes on from any place of a text: the bound on its steps does not matter.
use Rattle.std.specs.Prelude.{◌≡◌, refl, Bool, true, false, cond, List, [], ◌∷◌, ◌++◌, ℕ, zero, suc, ◌+◌, ◌-◌, ◌≤◌, ◌<◌, length, get_or, take, drop}
use Rattle.std.proofs.Common.{sym, ap, ◌∙◌, arith, add-one, drop_of_length-le, length-drop, drop-cons, length-take-le}
use Rattle.std.proofs.lemmas.Bool.{false≢true}
use Rattle.spec_lists.specs.Text.{among}
use Rattle.spec_lists.specs.Select.{run, after}
use Rattle.spec_token.specs.declared.Kind.TheVariants.{String}
use Rattle.spec_token.specs.Word.{blank, newline, name_byte}
use Rattle.spec_token.specs.Token.{Token, Tokens, tokens, bad, then}
use Rattle.spec_token.specs.Scanner.{word_kind, Quoted, closed, broken, unclosed, also, quoted, alone, punctuation, Lexeme}
use Rattle.spec_token.specs.Scanner.{nothing, comment, quote, stop, word, wrong, lexeme_of, other, scan, scan_from}
use Rattle.spec_token.specs.Spans.{Span}
use Rattle.spec_token.proofs.laws.Spans.{after_short, span_run, span_after}

-- ---- the bound

same_begun :
    (y : Tokens) (k : Lexeme) {t t' u u' v v' w w' x x' : Tokens} → t ≡ t' → u ≡ u' → v ≡ v' → w ≡ w' → (k ≡ word → x ≡ x')
    → ◌≡◌ {A = Tokens}
    (elim k [ nothing ↦ t | comment ↦ u | quote ↦ v | stop ↦ w | word ↦ x | wrong ↦ y ])
    (elim k [ nothing ↦ t' | comment ↦ u' | quote ↦ v' | stop ↦ w' | word ↦ x' | wrong ↦ y ])
same_begun y nothing a b c d e = a
same_begun y comment a b c d e = b
same_begun y quote a b c d e = c
same_begun y stop a b c d e = d
same_begun y word a b c d e = e refl
same_begun y wrong a b c d e = refl

-- what follows a closing quote is no longer than what is read
data Rest (n : ℕ) : Quoted → Type 0 where
  rest_of : {t r : List ℕ} → length r ≤ n → Rest n (closed t r)
  no_text : {p : ℕ} → Rest n (broken p)
  no_end : Rest n unclosed

rest_also : {n : ℕ} (b : ℕ) {q : Quoted} → Rest n q → Rest (suc n) (also b q)
rest_also b (rest_of {t = t} {r = r} h) = rest_of {t = b ∷ t} {r = r} (omega arith)
rest_also b no_text = no_text
rest_also b no_end = no_end

rest_quoted : (e : Bool) (p : ℕ) (s : List ℕ) → Rest (length s) (quoted e p s)
rest_quoted e p [] = no_end
rest_quoted true p (b ∷ s) = rest_also b (rest_quoted false (p + 1) s)
rest_quoted false p (b ∷ s) = go (among "\"" b) (newline b) (rest_quoted (among "\\" b) (p + 1) s)
  where
    go : (c d : Bool) {q : Quoted} → Rest (length s) q → Rest (suc (length s)) (cond c (closed [] s) (cond d (broken p) (also b q)))
    go true d w = rest_of {t = []} {r = s} (omega arith)
    go false true w = no_text
    go false false w = rest_also b w

same_quoted :
    (p : ℕ) {n : ℕ} {q : Quoted} {f g : List ℕ → List ℕ → Tokens} → Rest n q → ((t r : List ℕ) → length r ≤ n → f t r ≡ g t r)
    → ◌≡◌ {A = Tokens}
    (elim q [ closed t r ↦ f t r | broken z ↦ bad z | unclosed ↦ bad p ])
    (elim q [ closed t r ↦ g t r | broken z ↦ bad z | unclosed ↦ bad p ])
same_quoted p (rest_of {t = t} {r = r} h) k = k t r h
same_quoted p no_text k = refl
same_quoted p no_end k = refl

named_if :
    (a b c d e : Bool) → cond a nothing (cond b comment (cond c quote (cond d stop (cond e word wrong)))) ≡ word → e ≡ true
named_if true b c d e h = let z : false ≡ true = cc in absurd (false≢true z)
named_if false true c d e h = let z : false ≡ true = cc in absurd (false≢true z)
named_if false false true d e h = let z : false ≡ true = cc in absurd (false≢true z)
named_if false false false true e h = let z : false ≡ true = cc in absurd (false≢true z)
named_if false false false false true h = refl
named_if false false false false false h = let z : false ≡ true = cc in absurd (false≢true z)

pub word_named : (b : ℕ) → lexeme_of b ≡ word → name_byte b ≡ true
word_named b e = named_if (blank b) (among "#" b) (among "\"" b) (alone b) (name_byte b) e

after_shorter : (b : ℕ) (s : List ℕ) → name_byte b ≡ true → length (after name_byte (b ∷ s)) ≤ length s
after_shorter b s e =
    let z : after name_byte (b ∷ s) ≡ after name_byte s = rw e in
    rw z (after_short name_byte s)

pub steady : (n m p : ℕ) (s : List ℕ) → length s ≤ n → length s ≤ m → scan n p s ≡ scan m p s
unfolding scan
steady zero zero p s h l = refl
steady zero (suc m) p [] h l = refl
steady zero (suc m) p (b ∷ s) h l = absurd (omega arith)
steady (suc n) zero p [] h l = refl
steady (suc n) zero p (b ∷ s) h l = absurd (omega arith)
steady (suc n) (suc m) p [] h l = refl
steady (suc n) (suc m) p (b ∷ s) h l =
    let w : List ℕ = run name_byte (b ∷ s) in
    same_begun (bad p) (lexeme_of b)
    (steady n m (p + 1) s (omega arith) (omega arith))
    (let a = after_short other s in steady n m (p + 1 + length (run other s)) (after other s) (omega arith) (omega arith))
    (same_quoted p
    (rest_quoted false (p + 1) s)
    (λ t r k. ap (then (record { kind = String; place = p; text = t })) (steady n m (p + 2 + length t) r (omega arith) (omega arith))))
    (ap (then (record { kind = punctuation b; place = p; text = b ∷ [] })) (steady n m (p + 1) s (omega arith) (omega arith)))
    (λ e.
    let a = after_shorter b s (word_named b e) in
    ap (then (record { kind = word_kind w; place = p; text = w })) (steady n m (p + length w) (after name_byte (b ∷ s)) (omega arith) (omega arith)))

module _ (n p b : ℕ) (s : List ℕ) where
  pub step_nothing : lexeme_of b ≡ nothing → scan (suc n) p (b ∷ s) ≡ scan n (p + 1) s
  unfolding scan
  step_nothing e = rw (e, scan)

  pub step_comment : lexeme_of b ≡ comment → scan (suc n) p (b ∷ s) ≡ scan n (p + 1 + length (run other s)) (after other s)
  unfolding scan
  step_comment e = rw (e, scan)

  pub step_stop : lexeme_of b ≡ stop → scan (suc n) p (b ∷ s) ≡ then (record { kind = punctuation b; place = p; text = b ∷ [] }) (scan n (p + 1) s)
  unfolding scan
  step_stop e = rw (e, scan)

  pub step_word :
      lexeme_of b ≡ word
      → scan (suc n) p (b ∷ s)
      ≡ then
      (record { kind = word_kind (run name_byte (b ∷ s)); place = p; text = run name_byte (b ∷ s) })
      (scan n (p + length (run name_byte (b ∷ s))) (after name_byte (b ∷ s)))
  unfolding scan
  step_word e = rw (e, scan)

  pub step_wrong : lexeme_of b ≡ wrong → scan (suc n) p (b ∷ s) ≡ bad p
  unfolding scan
  step_wrong e = rw (e, scan)

  pub step_closed :
      (t r : List ℕ) → lexeme_of b ≡ quote → quoted false (p + 1) s ≡ closed t r
      → scan (suc n) p (b ∷ s) ≡ then (record { kind = String; place = p; text = t }) (scan n (p + 2 + length t) r)
  unfolding scan
  step_closed t r e q = rw (e, scan, q)

  pub step_broken : (z : ℕ) → lexeme_of b ≡ quote → quoted false (p + 1) s ≡ broken z → scan (suc n) p (b ∷ s) ≡ bad z
  unfolding scan
  step_broken z e q = rw (e, scan, q)

  pub step_unclosed : lexeme_of b ≡ quote → quoted false (p + 1) s ≡ unclosed → scan (suc n) p (b ∷ s) ≡ bad p
  unfolding scan
  step_unclosed e q = rw (e, scan, q)

pub none_left : (n p : ℕ) → scan n p [] ≡ tokens []
unfolding scan
none_left zero p = refl
none_left (suc n) p = refl

pub from_end : (s : List ℕ) (at : ℕ) → length s ≤ at → scan_from s at ≡ tokens []
from_end s at h = rw (drop_of_length-le s h) (none_left (length s) at)

module _ (s : List ℕ) (at : ℕ) (h : at < length s) where
  here : drop at s ≡ get_or s at 0 ∷ drop (at + 1) s
  here = rw (add-one) (drop-cons s at 0 h)

  -- one step more may be taken
  more : scan_from s at ≡ scan (suc (length s)) at (get_or s at 0 ∷ drop (at + 1) s)
  more =
      let l = length-drop at s in
      steady (length s) (suc (length s)) at (drop at s) (omega arith) (omega arith) ∙ ap (scan (suc (length s)) at) here

  pub from_nothing : lexeme_of (get_or s at 0) ≡ nothing → scan_from s at ≡ scan_from s (at + 1)
  from_nothing e = more ∙ step_nothing (length s) at (get_or s at 0) (drop (at + 1) s) e

  pub from_comment : {to : ℕ} → lexeme_of (get_or s at 0) ≡ comment → Span other s (at + 1) to → scan_from s at ≡ scan_from s to
  from_comment {to} e d = more ∙ step_comment (length s) at (get_or s at 0) (drop (at + 1) s) e ∙ rw (← d.ends, span_after d)

  pub from_stop :
      lexeme_of (get_or s at 0) ≡ stop
      → scan_from s at ≡ then (record { kind = punctuation (get_or s at 0); place = at; text = get_or s at 0 ∷ [] }) (scan_from s (at + 1))
  from_stop e = more ∙ step_stop (length s) at (get_or s at 0) (drop (at + 1) s) e

  pub from_word :
      {to : ℕ} → lexeme_of (get_or s at 0) ≡ word → Span name_byte s at to
      → scan_from s at ≡ then (record { kind = word_kind (take (to - at) (drop at s)); place = at; text = take (to - at) (drop at s) }) (scan_from s to)
  from_word {to} e d =
      more
      ∙ step_word (length s) at (get_or s at 0) (drop (at + 1) s) e
      ∙ ap
      (λ (l : List ℕ). then
      (record { kind = word_kind (run name_byte l); place = at; text = run name_byte l })
      (scan (length s) (at + length (run name_byte l)) (after name_byte l)))
      (sym here)
      ∙ rw (← d.ends, span_run d, span_after d)

  pub from_wrong : lexeme_of (get_or s at 0) ≡ wrong → scan_from s at ≡ bad at
  from_wrong e = more ∙ step_wrong (length s) at (get_or s at 0) (drop (at + 1) s) e

  module _ (e : lexeme_of (get_or s at 0) ≡ quote) where
    pub from_closed :
        (to : ℕ) → at + 1 ≤ to → to < length s
        → quoted false (at + 1) (drop (at + 1) s) ≡ closed (take (to - (at + 1)) (drop (at + 1) s)) (drop (to + 1) s)
        → scan_from s at ≡ then (record { kind = String; place = at; text = take (to - (at + 1)) (drop (at + 1) s) }) (scan_from s (to + 1))
    from_closed to l k q =
        let t : List ℕ = take (to - (at + 1)) (drop (at + 1) s) in
        let m : at + 2 + length t ≡ to + 1 = omega (arith, length-take-le (to - (at + 1)) (drop (at + 1) s) (rw length-drop (omega arith))) in
        more ∙ step_closed (length s) at (get_or s at 0) (drop (at + 1) s) t (drop (to + 1) s) e q ∙ rw m

    pub from_broken : (z : ℕ) → quoted false (at + 1) (drop (at + 1) s) ≡ broken z → scan_from s at ≡ bad z
    from_broken z q = more ∙ step_broken (length s) at (get_or s at 0) (drop (at + 1) s) z e q

    pub from_unclosed : quoted false (at + 1) (drop (at + 1) s) ≡ unclosed → scan_from s at ≡ bad at
    from_unclosed q = more ∙ step_unclosed (length s) at (get_or s at 0) (drop (at + 1) s) e q

-- ---- tokens in front of what comes

abbrev pub prefixed : List Token → Tokens → Tokens
prefixed [] o = o
prefixed (t ∷ ts) o = then t (prefixed ts o)

pub prefixed_more : (ts : List Token) (t : Token) (o : Tokens) → prefixed (ts ++ (t ∷ [])) o ≡ prefixed ts (then t o)
prefixed_more [] t o = refl
prefixed_more (u ∷ ts) t o = ap (then u) (prefixed_more ts t o)

pub prefixed_bad : (ts : List Token) (p : ℕ) → prefixed ts (bad p) ≡ bad p
prefixed_bad [] p = refl
prefixed_bad (t ∷ ts) p = ap (then t) (prefixed_bad ts p)

pub prefixed_none : (ts : List Token) → prefixed ts (tokens []) ≡ tokens ts
prefixed_none [] = refl
prefixed_none (t ∷ ts) = ap (then t) (prefixed_none ts)
