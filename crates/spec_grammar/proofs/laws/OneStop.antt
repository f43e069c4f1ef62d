-- A text stops at one place.
use Rattle.std.specs.Prelude.{◌≡◌, refl, List, [], ◌∷◌, ◌++◌, map, ℕ}
use Rattle.std.proofs.Common.{sym, ap, subst, ◌∙◌, append_assoc}
use Rattle.spec_token.specs.declared.Kind.{Kind}
use Rattle.spec_token.specs.Token.{Token}
use Rattle.spec_grammar.specs.Sentence.{Tagged, Reads, Stops, at_token, at_end, Viable, Sentence, kinds, sign, kind_of}
use Rattle.spec_grammar.specs.Reader.{Parse, parsed, stopped, read}
use Rattle.spec_grammar.proofs.laws.Theorem.{read_sound, read_stops}

-- what begins a sentence, a shorter beginning of it does too
begins_shorter : (ks ls : List Kind) → Viable (ks ++ ls) → Viable ks
begins_shorter ks ls b = record { rest = ls ++ b.rest; sentence = subst Sentence (append_assoc ks ls b.rest) b.sentence }

kinds_append : (xs ys : List Token) → kinds (xs ++ ys) ≡ kinds xs ++ kinds ys
kinds_append [] ys = refl
kinds_append (x ∷ xs) ys = ap (λ (l : List Kind). x.kind ∷ l) (kinds_append xs ys)

-- one of two beginnings of a list, each with an element behind it, is within the other, or they are the same
pub data Within (b : List Token) (t : Token) (c : List Token) (u : Token) : Type 0 where
  alike : t ≡ u → Within b t c u
  earlier : (l : List Token) → c ≡ b ++ (t ∷ l) → Within b t c u
  later : (l : List Token) → b ≡ c ++ (u ∷ l) → Within b t c u

further : {b c : List Token} {t u x y : Token} → x ≡ y → Within b t c u → Within (x ∷ b) t (y ∷ c) u
further e (alike p) = alike p
further {b} {t = t} {y = y} e (earlier l p) = earlier l (ap (λ (z : List Token). y ∷ z) p ∙ ap (λ (z : Token). z ∷ (b ++ (t ∷ l))) (sym e))
further {c = c} {u = u} {x = x} e (later l p) = later l (ap (λ (z : List Token). x ∷ z) p ∙ ap (λ (z : Token). z ∷ (c ++ (u ∷ l))) e)

within : (b c : List Token) (t u : Token) (d e : List Token) → b ++ (t ∷ d) ≡ c ++ (u ∷ e) → Within b t c u
within [] [] t u d e p = alike (let z : t ≡ u = cc in z)
within [] (y ∷ c) t u d e p = earlier c (let z : y ≡ t = cc in ap (λ (w : Token). w ∷ c) z)
within (x ∷ b) [] t u d e p = later b (let z : x ≡ u = cc in ap (λ (w : Token). w ∷ b) z)
within (x ∷ b) (y ∷ c) t u d e p = further (let z : x ≡ y = cc in z) (within b c t u d e (let z : b ++ (t ∷ d) ≡ c ++ (u ∷ e) = cc in z))

-- what begins a sentence up to a place behind t begins one up to t
up_to : (b l : List Token) (t : Token) → Viable (kinds (b ++ (t ∷ l))) → Viable (kinds b ++ (t.kind ∷ []))
up_to b l t h =
    begins_shorter (kinds b ++ (t.kind ∷ [])) (kinds l) (subst Viable (kinds_append b (t ∷ l) ∙ sym (append_assoc (kinds b) (t.kind ∷ []) (kinds l))) h)

pub one_stop : (ts : List Token) (n p q : ℕ) → Stops ts n p → Stops ts n q → p ≡ q
one_stop ts n p q a b = go p q a b
  where
    tokens :
        (b c d e : List Token) (t u : Token) → Within b t c u → Viable (kinds b) → (Viable (kinds b ++ (t.kind ∷ [])) → ⊥) → Viable (kinds c)
        → (Viable (kinds c ++ (u.kind ∷ [])) → ⊥) → t.place ≡ u.place
    tokens b c d e t u (alike z) h i j k = ap (λ (w : Token). w.place) z
    tokens b c d e t u (earlier l z) h i j k = absurd (i (up_to b l t (subst (λ (w : List Token). Viable (kinds w)) z j)))
    tokens b c d e t u (later l z) h i j k = absurd (k (up_to c l u (subst (λ (w : List Token). Viable (kinds w)) z h)))

    go : (p q : ℕ) → Stops ts n p → Stops ts n q → p ≡ q
    go p q (at_token b t d e h i) (at_token c u f g j k) = tokens b c d f t u (within b c t u d f (sym e ∙ g)) h i j k
    go p q (at_token b t d e h i) (at_end j k) = absurd (i (up_to b d t (subst (λ (w : List Token). Viable (kinds w)) e j)))
    go p q (at_end h i) (at_token c u f g j k) = absurd (k (up_to c f u (subst (λ (w : List Token). Viable (kinds w)) g h)))
    go p q (at_end h i) (at_end j k) = refl

-- a file does not stop
kinds_signs : (xs : List Tagged) → map kind_of (map sign xs) ≡ kinds (map (λ x. x.token) xs)
kinds_signs [] = refl
kinds_signs (x ∷ xs) = ap (λ (l : List Kind). x.token.kind ∷ l) (kinds_signs xs)

sentence_of : (ts : List Token) (xs : List Tagged) → Reads ts xs → Sentence (kinds ts)
sentence_of ts xs r = record { signs = map sign xs; spelled = kinds_signs xs ∙ ap kinds r.tokens; derived = r.derived }

append_none : (ks : List Kind) → ks ++ [] ≡ ks
append_none [] = refl
append_none (k ∷ ks) = ap (λ (l : List Kind). k ∷ l) (append_none ks)

no_stop : (ts : List Token) (n p : ℕ) → Sentence (kinds ts) → Stops ts n p → ⊥
no_stop ts n p s (at_token b t d e h i) =
    i (up_to b d t (record { rest = []; sentence = subst Sentence (ap kinds e ∙ sym (append_none (kinds (b ++ (t ∷ d))))) s }))
no_stop ts n p s (at_end h i) = i s

pub stops_read : (ts : List Token) (n p : ℕ) → Stops ts n p → read ts n ≡ stopped p
stops_read ts n p s = go (read ts n) refl
  where
    go : (o : Parse) → read ts n ≡ o → o ≡ stopped p
    go (parsed xs) e = absurd (no_stop ts n p (sentence_of ts xs (read_sound ts n xs e)) s)
    go (stopped q) e = ap stopped (one_stop ts n q p (read_stops ts n q e) s)
