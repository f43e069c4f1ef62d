-- The scanner finds exactly the tokens that a text is spelled by, and exactly its first bad byte.
use Rattle.std.specs.Prelude.{◌≡◌, refl, Bool, true, false, ◌||◌, cond, List, [], ◌∷◌, ◌++◌, ℕ, zero, suc, ◌+◌, ◌≤◌, eqb, length}
use Rattle.std.proofs.Common.{sym, ap, subst, ◌∙◌, append-nil, arith, length-append}
use Rattle.std.proofs.lemmas.Bool.{false≢true}
use Prim.Native.Char.{code}
use Rattle.spec_lists.specs.Text.{bytes, one_of, among}
use Rattle.spec_lists.specs.Select.{all, run, after}
use Rattle.spec_lists.specs.Every.{Every, nil, cons}
use Rattle.spec_lists.proofs.laws.Both.{both, neither, or_false}
use Rattle.spec_token.specs.declared.Kind.{Kind}
use Rattle.spec_token.specs.declared.Kind.TheVariants.{String}
use Rattle.spec_token.specs.Word.{blank, newline, name_byte}
use Rattle.spec_token.specs.Token as spelled
use Rattle.spec_token.specs.Token.{Tokens, bad, then, Alone, open_paren, close_paren, open_brace, close_brace, comma}
use Rattle.spec_token.specs.Token.{BetweenQuotes, stringchar, escape, Spells, end, gap, bare_newline}
use Rattle.spec_token.specs.Scanner.{Quoted, closed, broken, unclosed, also, quoted, alone, punctuation, Lexeme, nothing, comment, quote}
use Rattle.spec_token.specs.Scanner.{stop, word, wrong, other, lexeme_of, scan, scanned}
use Rattle.spec_token.proofs.laws.Quotes.{front}
use Rattle.spec_token.proofs.laws.Runs.{longest_run, run_of, after_of}
use Rattle.spec_token.proofs.laws.Spans.{after_short}
use Rattle.spec_token.proofs.laws.Words.{one_of_each, kind_sound, kind_complete}
use Rattle.spec_token.proofs.laws.Steps.{none_left, step_nothing, step_comment, step_stop, step_word, step_wrong, step_closed, step_broken, step_unclosed}

-- ---- what a byte begins

data Begins (b : ℕ) : Lexeme → Type 0 where
  begins_gap : blank b ≡ true → Begins b nothing
  begins_comment : b ≡ code "#" → Begins b comment
  begins_quote : b ≡ code "\"" → Begins b quote
  begins_stop : alone b ≡ true → Begins b stop
  begins_word : name_byte b ≡ true → Begins b word
  begins_nothing : blank b || (name_byte b || among "#\"(){}," b) ≡ false → Begins b wrong

begins : (b : ℕ) → Begins b (lexeme_of b)
begins b = go (blank b) (among "#" b) (among "\"" b) (alone b) (name_byte b) refl refl refl refl refl
  where
    go :
        (g c q s w : Bool) → blank b ≡ g → among "#" b ≡ c → among "\"" b ≡ q → alone b ≡ s → name_byte b ≡ w
        → Begins b (cond g nothing (cond c comment (cond q quote (cond s stop (cond w word wrong)))))
    go true c q s w e f h i j = begins_gap e
    go false true q s w e f h i j = begins_comment (one_of_each {P = λ x. x ≡ code "#"} b (cons refl nil) f)
    go false false true s w e f h i j = begins_quote (one_of_each {P = λ x. x ≡ code "\""} b (cons refl nil) h)
    go false false false true w e f h i j = begins_stop i
    go false false false false true e f h i j = begins_word j
    go false false false false false e f h i j =
        let hash : eqb b (code "#") ≡ false = sym (or_false (eqb b (code "#"))) ∙ f in
        let mark : eqb b (code "\"") ≡ false = sym (or_false (eqb b (code "\""))) ∙ h in
        begins_nothing (rw (e, j, hash, mark, i))

stops : (b : ℕ) → alone b ≡ true → Alone b (punctuation b)
stops b e = one_of_each {P = λ c. Alone c (punctuation c)} b (cons open_paren (cons close_paren (cons open_brace (cons close_brace (cons comma nil))))) e

stops_so : {b : ℕ} {k : Kind} → Alone b k → (lexeme_of b ≡ stop) × (punctuation b ≡ k)
stops_so open_paren = (refl, refl)
stops_so close_paren = (refl, refl)
stops_so open_brace = (refl, refl)
stops_so close_brace = (refl, refl)
stops_so comma = (refl, refl)

pub unnamed : (b : ℕ) (cs : List ℕ) → Every (λ c. name_byte c ≡ false) cs → name_byte b ≡ true → one_of cs b ≡ false
unnamed b cs e h = go (one_of cs b) refl
  where
    go : (t : Bool) → one_of cs b ≡ t → t ≡ false
    go true o = absurd (false≢true (cc (one_of_each {P = λ c. name_byte c ≡ false} b e o)))
    go false o = refl

names : (b : ℕ) → name_byte b ≡ true → lexeme_of b ≡ word
names b h =
    rw (
      unnamed b (bytes " \t\r\n") (cons refl (cons refl (cons refl (cons refl nil)))) h,
      unnamed b (bytes "#") (cons refl nil) h,
      unnamed b (bytes "\"") (cons refl nil) h,
      unnamed b (bytes "(){},") (cons refl (cons refl (cons refl (cons refl (cons refl nil))))) h,
      h,
    )

wrongs : (b : ℕ) → blank b || (name_byte b || among "#\"(){}," b) ≡ false → lexeme_of b ≡ wrong
wrongs b e =
    let h = neither (blank b) (name_byte b || among "#\"(){}," b) e in
    let i = neither (name_byte b) (among "#\"(){}," b) h.1 in
    let j = neither (eqb b (code "#")) (among "\"(){}," b) i.1 in
    let k = neither (eqb b (code "\"")) (alone b) j.1 in
    rw (h.0, j.0, k.0, k.1, i.0)

-- ---- quoted texts

-- what the scanner finds behind an opening quote, or behind a backslash there
data Finds (escaped : Bool) (p : ℕ) (s : List ℕ) : Quoted → Type 0 where
  finds_end :
      {w r : List ℕ} → s ≡ w ++ (code "\"" ∷ r) → BetweenQuotes (cond escaped (code "\\" ∷ w) w) → Finds escaped p s (closed w r)
  finds_newline :
      (w r : List ℕ) (q : ℕ) → q ≡ p + length w → s ≡ w ++ (code "\n" ∷ r) → BetweenQuotes (cond escaped (code "\\" ∷ w) w)
      → Finds escaped p s (broken q)
  finds_none : Finds escaped p s unclosed

finds_also :
    (p b : ℕ) (s : List ℕ) (e n : Bool)
    → ((w : List ℕ) → BetweenQuotes (cond n (code "\\" ∷ w) w) → BetweenQuotes (cond e (code "\\" ∷ b ∷ w) (b ∷ w)))
    → {q : Quoted} → Finds n (p + 1) s q → Finds e p (b ∷ s) (also b q)
finds_also p b s e n more (finds_end {w = w} h t) = finds_end (ap (λ (l : List ℕ). b ∷ l) h) (more w t)
finds_also p b s e n more (finds_newline w r q x h t) = finds_newline (b ∷ w) r q (omega arith) (ap (λ (l : List ℕ). b ∷ l) h) (more w t)
finds_also p b s e n more finds_none = finds_none

finds : (e : Bool) (p : ℕ) (s : List ℕ) → Finds e p s (quoted e p s)
finds e p [] = finds_none
finds true p (b ∷ s) = finds_also p b s true false (λ w t. escape t) (finds false (p + 1) s)
finds false p (b ∷ s) = go (among "\"" b) (newline b) (among "\\" b) refl refl refl (λ n. finds n (p + 1) s)
  where
    plain : among "\"" b ≡ false → newline b ≡ false → among "\\" b ≡ false → among "\"\\\n" b ≡ false
    plain f g h =
        rw (
          sym (or_false (eqb b (code "\""))) ∙ f,
          sym (or_false (eqb b (code "\\"))) ∙ h,
          g,
        )

    go :
        (c d h : Bool) → among "\"" b ≡ c → newline b ≡ d → among "\\" b ≡ h → ((n : Bool) → Finds n (p + 1) s (quoted n (p + 1) s))
        → Finds false p (b ∷ s) (cond c (closed [] s) (cond d (broken p) (also b (quoted h (p + 1) s))))
    go true d h f g k ih =
        finds_end
        {w = []}
        (ap (λ (x : ℕ). x ∷ s) (one_of_each {P = λ x. x ≡ code "\""} b (cons refl nil) f)) spelled.nothing
    go false true h f g k ih =
        finds_newline
        [] s p (omega arith)
        (ap (λ (x : ℕ). x ∷ s) (one_of_each {P = λ x. x ≡ code "\n"} b (cons refl nil) g)) spelled.nothing
    go false false true f g k ih =
        let slash : b ≡ code "\\" = one_of_each {P = λ x. x ≡ code "\\"} b (cons refl nil) k in
        finds_also p b s false true (λ w t. rw slash t) (ih true)
    go false false false f g k ih = finds_also p b s false false (λ w t. stringchar (plain f g k) t) (ih false)

also_front : (b : ℕ) (w : List ℕ) (q : Quoted) → also b (front w q) ≡ front (b ∷ w) q
also_front b w (closed s r) = refl
also_front b w (broken p) = refl
also_front b w unclosed = refl

-- the scanner passes over what may stand between quotes
passes : {w : List ℕ} → BetweenQuotes w → (p : ℕ) (s : List ℕ) → quoted false p (w ++ s) ≡ front w (quoted false (p + length w) s)
passes spelled.nothing p s = bare (quoted false p s) ∙ rw (same p)
  where
    same : (n : ℕ) → n + 0 ≡ n
    same n = omega arith

    bare : (q : Quoted) → q ≡ front [] q
    bare (closed t r) = refl
    bare (broken z) = refl
    bare unclosed = refl
passes (stringchar {b = b} {s = w} h t) p s =
    let f = neither (eqb b (code "\"")) (among "\\\n" b) h in
    let g = neither (eqb b (code "\\")) (among "\n" b) f.1 in
    let n : p + 1 + length w ≡ p + suc (length w) = omega arith in
    rw (f.0, g.1, g.0, passes t (p + 1) s, n) (also_front b w (quoted false (p + suc (length w)) s))
passes (escape {b = b} {s = w} t) p s =
    let n : p + 1 + 1 + length w ≡ p + suc (suc (length w)) = omega arith in
    rw (passes t (p + 1 + 1) s, n, also_front b w, also_front (code "\\") (b ∷ w))

module _ (p : ℕ) {w : List ℕ} (t : BetweenQuotes w) (r : List ℕ) where
  closes : quoted false p (w ++ (code "\"" ∷ r)) ≡ closed w r
  closes = passes t p (code "\"" ∷ r) ∙ rw append-nil

  breaks : quoted false p (w ++ (code "\n" ∷ r)) ≡ broken (p + length w)
  breaks = passes t p (code "\n" ∷ r)

-- nothing ends an unclosed quote, and only such a one is unclosed
Endless : List ℕ → Type 0
Endless s = (w r : List ℕ) (b : ℕ) → s ≡ w ++ (b ∷ r) → BetweenQuotes w → among "\"\n" b ≡ false

endless : (p : ℕ) (s : List ℕ) → quoted false p s ≡ unclosed → Endless s
unfolding Endless
endless p s u w r b e t = go (among "\"\n" b) refl
  where
    Ends : ℕ → Type 0
    Ends c = quoted false p (w ++ (c ∷ r)) ≡ unclosed → ⊥

    at_quote : Ends (code "\"")
    at_quote q = let c = closes p t r in let z : ◌≡◌ {A = ℕ} 0 1 = cc in omega arith

    at_newline : Ends (code "\n")
    at_newline q = let c = breaks p t r in let z : ◌≡◌ {A = ℕ} 0 1 = cc in omega arith

    go : (d : Bool) → among "\"\n" b ≡ d → d ≡ false
    go true o = absurd (one_of_each {P = Ends} b (cons at_quote (cons at_newline nil)) o (ap (quoted false p) (sym e) ∙ u))
    go false o = refl

never_ends : (p : ℕ) (s : List ℕ) → Endless s → quoted false p s ≡ unclosed
unfolding Endless
never_ends p s n = go (finds false p s)
  where
    go : {q : Quoted} → Finds false p s q → q ≡ unclosed
    go (finds_end {w = w} {r = r} e t) = absurd (false≢true (sym (n w r (code "\"") e t)))
    go (finds_newline w r q x e t) = absurd (false≢true (sym (n w r (code "\n") e t)))
    go finds_none = refl

-- ---- a text

by_lexeme :
    (P : Tokens → Type 0) {b : ℕ} {k : Lexeme} {t u v w x y : Tokens} → Begins b k → (blank b ≡ true → P t) → (b ≡ code "#" → P u) → (b ≡ code "\"" → P v)
    → (alone b ≡ true → P w) → (name_byte b ≡ true → P x) → (blank b || (name_byte b || among "#\"(){}," b) ≡ false → P y)
    → P (elim k [ nothing ↦ t | comment ↦ u | quote ↦ v | stop ↦ w | word ↦ x | wrong ↦ y ])
by_lexeme P (begins_gap h) t u v w x y = t h
by_lexeme P (begins_comment h) t u v w x y = u h
by_lexeme P (begins_quote h) t u v w x y = v h
by_lexeme P (begins_stop h) t u v w x y = w h
by_lexeme P (begins_word h) t u v w x y = x h
by_lexeme P (begins_nothing h) t u v w x y = y h

by_quoted :
    (P : Tokens → Type 0) (p z : ℕ) {s : List ℕ} {q : Quoted} {f : List ℕ → List ℕ → Tokens} → Finds false p s q
    → ((w r : List ℕ) → s ≡ w ++ (code "\"" ∷ r) → BetweenQuotes w → P (f w r))
    → ((w r : List ℕ) → s ≡ w ++ (code "\n" ∷ r) → BetweenQuotes w → P (bad (p + length w)))
    → (q ≡ unclosed → P (bad z))
    → P (elim q [ closed t r ↦ f t r | broken y ↦ bad y | unclosed ↦ bad z ])
by_quoted P p z (finds_end {w = w} {r = r} e t) f g h = f w r e t
by_quoted P p z (finds_newline w r q x e t) f g h = rw x (g w r e t)
by_quoted P p z finds_none f g h = h refl

-- what the scanner finds is so
spelled_by : (n p : ℕ) (s : List ℕ) → length s ≤ n → Spells p s (scan n p s)
unfolding scan Endless
spelled_by zero p [] l = end
spelled_by zero p (b ∷ s) l = absurd (omega arith)
spelled_by (suc n) p [] l = end
spelled_by (suc n) p (b ∷ s) l =
    by_lexeme
    (Spells p (b ∷ s))
    (begins b)
    (λ h. gap h (spelled_by n (p + 1) s (omega arith)))
    (λ h.
    let a = after_short other s in
    rw h (spelled.comment (longest_run other s) (spelled_by n (p + 1 + length (run other s)) (after other s) (omega arith))))
    (λ h.
    rw h
    (by_quoted
    (Spells p (code "\"" ∷ s))
    (p + 1) p
    (finds false (p + 1) s)
    (λ w r e t. let m = length-append w (code "\"" ∷ r) in
    spelled.quoted e t (spelled_by n (p + 2 + length w) r (omega (arith, ap length e))))
    (λ w r e t. bare_newline r e t)
    (λ u. spelled.unclosed (endless (p + 1) s u))))
    (λ h. spelled.alone (stops b h) (spelled_by n (p + 1) s (omega arith)))
    (λ h.
    let a = after_short name_byte s in
    let x : run name_byte (b ∷ s) ≡ b ∷ run name_byte s = rw h in
    let y : after name_byte (b ∷ s) ≡ after name_byte s = rw h in
    let k = kind_sound (b ∷ run name_byte s) in
    let m = rw (x, y) at (longest_run name_byte (b ∷ s)) in
    rw (x, y) (spelled.word m k (spelled_by n (p + length (b ∷ run name_byte s)) (after name_byte s) (omega arith))))
    (λ h. spelled.other h)

-- and what is so it finds
scans_as : {p : ℕ} {s : List ℕ} {o : Tokens} → Spells p s o → (n : ℕ) → length s ≤ n → scan n p s ≡ o
unfolding Endless
scans_as {p} end n l = none_left n p
scans_as (gap h d) zero l = absurd (omega arith)
scans_as {p} (gap {b = b} {s = s} h d) (suc n) l = step_nothing n p b s (rw h) ∙ scans_as d n (omega arith)
scans_as (spelled.comment h d) zero l = absurd (omega arith)
scans_as {p} (spelled.comment {s = s} {w = w} {r = r} h d) (suc n) l =
    let m = length-append w r in
    step_comment n p (code "#") s refl
    ∙ rw (h.parts, run_of other w r h.pass h.ends, after_of other w r h.pass h.ends) (scans_as d n (omega (arith, ap length h.parts)))
scans_as {p} (spelled.word {b = b} {s = s} {w = w} {r = r} {k = k} {o = o} h f d) n l =
    ap (scan n p) h.parts ∙ go n (omega (arith, ap length h.parts)) (λ m k. scans_as d m k)
  where
    go :
        (n : ℕ) → suc (length (w ++ r)) ≤ n → ((n : ℕ) → length r ≤ n → scan n (p + length (b ∷ w)) r ≡ o)
        → scan n p (b ∷ (w ++ r)) ≡ then (record { kind = k; place = p; text = b ∷ w }) o
    go zero l ih = absurd (omega arith)
    go (suc n) l ih =
        let m = length-append w r in
        let named = both (name_byte b) (all name_byte w) h.pass in
        step_word n p b (w ++ r) (names b named.0)
        ∙ rw (
          run_of name_byte (b ∷ w) r h.pass h.ends,
          after_of name_byte (b ∷ w) r h.pass h.ends,
          kind_complete f,
          ih n (omega arith),
        )
scans_as (spelled.quoted e t d) zero l = absurd (omega arith)
scans_as {p} (spelled.quoted {s = s} {w = w} {r = r} e t d) (suc n) l =
    let m = length-append w (code "\"" ∷ r) in
    step_closed n p (code "\"") s w r refl (ap (quoted false (p + 1)) e ∙ closes (p + 1) t r)
    ∙ ap (then (record { kind = String; place = p; text = w })) (scans_as d n (omega (arith, ap length e)))
scans_as (spelled.alone h d) zero l = absurd (omega arith)
scans_as {p} (spelled.alone {b = b} {s = s} h d) (suc n) l =
    step_stop n p b s (stops_so h).0 ∙ rw ((stops_so h).1, scans_as d n (omega arith))
scans_as (bare_newline r e t) zero l = absurd (omega arith)
scans_as {p} (bare_newline {s = s} {w = w} r e t) (suc n) l =
    step_broken n p (code "\"") s (p + 1 + length w) refl (ap (quoted false (p + 1)) e ∙ breaks (p + 1) t r)
scans_as (spelled.unclosed u) zero l = absurd (omega arith)
scans_as {p} (spelled.unclosed {s = s} u) (suc n) l = step_unclosed n p (code "\"") s refl (never_ends (p + 1) s u)
scans_as (spelled.other h) zero l = absurd (omega arith)
scans_as {p} (spelled.other {b = b} {s = s} h) (suc n) l = step_wrong n p b s (wrongs b h)

-- the scanner's answer is what the text spells
pub scanned_sound : (s : List ℕ) (o : Tokens) → scanned s ≡ o → Spells 0 s o
scanned_sound s o e = subst (Spells 0 s) e (spelled_by (length s) 0 s (omega arith))

pub scanned_complete : (s : List ℕ) (o : Tokens) → Spells 0 s o → scanned s ≡ o
scanned_complete s o d = scans_as d (length s) (omega arith)
