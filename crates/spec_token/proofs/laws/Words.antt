-- The scanner gives a word its kind.
use Rattle.std.specs.Prelude.{◌≡◌, refl, Bool, true, false, not, ◌&&◌, ◌||◌, cond, List, [], ◌∷◌, ◌++◌, ℕ, eqb, length, get_or, take}
use Rattle.std.proofs.Common.{sym, ap, subst, ◌∙◌, append-nil, arith, eqb-true}
use Rattle.std.proofs.lemmas.Bool.{false≢true}
use Prim.Native.Char.{code}
use Rattle.spec_lists.specs.Text.{bytes, same, one_of, among, within, digit}
use Rattle.spec_lists.specs.Select.{nonempty, all, any, run, after}
use Rattle.spec_lists.specs.Every.{Every, nil, cons}
use Rattle.spec_lists.proofs.laws.Both.{both}
use Rattle.spec_lists.proofs.laws.Same.{same_true}
use Rattle.spec_token.specs.declared.Kind.{Kind}
use Rattle.spec_token.specs.declared.Kind.TheVariants.{Uag, Hag, Asg, Rule, Calc, Inp, Int, Float, String}
use Rattle.spec_token.specs.Word as word
use Rattle.spec_token.specs.Word.{unsigned, Digits, Exponent, none, power, FloatForm, Form, uag, hag, asg, rule, calc, OfKind, formed, string}
use Rattle.spec_token.specs.Scanner.{digits, int, exponent, fraction, float, inp, word_kind}
use Rattle.spec_token.proofs.laws.Runs.{longest_run, run_of, after_of}

-- ---- bytes and words that are compared

-- what holds of each of some bytes holds of one of them
pub one_of_each : {P : ℕ → Type 0} {cs : List ℕ} (b : ℕ) → Every P cs → one_of cs b ≡ true → P b
one_of_each b nil o = absurd (false≢true o)
one_of_each {P} b (cons {x = c} {xs = cs} h e) o = go (eqb b c) refl o (one_of_each b e)
  where
    go : (t : Bool) → eqb b c ≡ t → t || one_of cs b ≡ true → (one_of cs b ≡ true → P b) → P b
    go true t o f = subst P (sym (eqb-true b c t)) h
    go false t o f = f o

-- ---- 001's forms

digits_are : (s : List ℕ) → digits s ≡ true → Digits s
digits_are s e = go (after digit s) refl
  where
    go : (r : List ℕ) → after digit s ≡ r → Digits s
    go [] a =
        let h = longest_run digit s in
        let same : s ≡ run digit s = h.parts ∙ (rw a (append-nil (run digit s))) in
        let k = (both (nonempty (run digit s)) (not (nonempty (after digit s))) e).0 in
        rw (ap nonempty same, ap (all digit) same, h.pass, k)
    go (x ∷ r) a = absurd (false≢true (rw a at (both (nonempty (run digit s)) (not (nonempty (after digit s))) e).1))

are_digits : (s : List ℕ) → Digits s → digits s ≡ true
are_digits s d =
    let h = both (nonempty s) (all digit s) d in
    let x : run digit s ≡ s = ap (run digit) (sym (append-nil s)) ∙ run_of digit s [] h.1 refl in
    let y : after digit s ≡ [] = ap (after digit) (sym (append-nil s)) ∙ after_of digit s [] h.1 refl in
    rw (x, y, h.0)

exponent_is : (s : List ℕ) → exponent s ≡ true → Exponent s
exponent_is [] e = none
exponent_is (b ∷ s) e = let h = both (among "eE" b) (digits (unsigned s)) e in power h.0 (digits_are (unsigned s) h.1)

is_exponent : {s : List ℕ} → Exponent s → exponent s ≡ true
is_exponent none = refl
is_exponent (power {s = s} h d) = rw (h, are_digits (unsigned s) d)

float_is : (w : List ℕ) → float w ≡ true → FloatForm w
float_is w e = go (after digit (unsigned w)) refl e
  where
    go : (a : List ℕ) → after digit (unsigned w) ≡ a → fraction a ≡ true → FloatForm w
    go [] a e = absurd (false≢true e)
    go (b ∷ s) a e =
        let h = both (among "." b) (nonempty (run digit s) && exponent (after digit s)) e in
        let k = both (nonempty (run digit s)) (exponent (after digit s)) h.1 in
        let point : b ≡ code "." = one_of_each {P = λ c. c ≡ code "."} b (cons refl nil) h.0 in
        let x = longest_run digit (unsigned w) in
        let y = longest_run digit s in
        record {
          before = run digit (unsigned w);
          behind = run digit s;
          last = after digit s;
          parts = x.parts ∙ ap (λ (l : List ℕ). run digit (unsigned w) ++ l) (a ∙ rw point (ap (λ (l : List ℕ). code "." ∷ l) y.parts));
          whole = x.pass;
          fraction = rw (k.0, y.pass);
          exponent = exponent_is (after digit s) k.1;
        }

no_digit : {s : List ℕ} → Exponent s → any digit (take 1 s) ≡ false
no_digit none = refl
no_digit (power {b = b} h d) = rw (one_of_each {P = λ c. digit c ≡ false} b (cons refl (cons refl nil)) h)

is_float : (w : List ℕ) → FloatForm w → float w ≡ true
is_float w f =
    let l = f.behind ++ f.last in
    let h = both (nonempty f.behind) (all digit f.behind) f.fraction in
    ap (λ (u : List ℕ). fraction (after digit u)) f.parts
    ∙ ap fraction (after_of digit f.before (code "." ∷ l) f.whole refl)
    ∙ rw (
      run_of digit f.behind f.last h.1 (no_digit f.exponent),
      after_of digit f.behind f.last h.1 (no_digit f.exponent),
      h.0,
      is_exponent f.exponent,
    )

-- INP and a letter
pub record InputWord (w : List ℕ) : Type 0 where
  pub letter : ℕ
  pub spelled : w ≡ bytes "INP" ++ (letter ∷ [])
  pub range : within (code "A") (code "U") letter ≡ true

four : (w : List ℕ) → length w ≡ 4 → same (take 3 w) (bytes "INP") ≡ true → within (code "A") (code "U") (get_or w 3 0) ≡ true → InputWord w
four [] l e h = absurd (omega arith)
four (a ∷ []) l e h = absurd (omega arith)
four (a ∷ b ∷ []) l e h = absurd (omega arith)
four (a ∷ b ∷ c ∷ []) l e h = absurd (omega arith)
four (a ∷ b ∷ c ∷ d ∷ []) l e h = record { letter = d; spelled = ap (λ (s : List ℕ). s ++ (d ∷ [])) (same_true (a ∷ b ∷ c ∷ []) (bytes "INP") e); range = h }
four (a ∷ b ∷ c ∷ d ∷ x ∷ s) l e h = absurd (omega arith)

input_word : (w : List ℕ) → inp w ≡ true → InputWord w
input_word w e =
    let h = both (same (take 3 w) (bytes "INP")) (eqb (length w) 4 && within (code "A") (code "U") (get_or w 3 0)) e in
    let k = both (eqb (length w) 4) (within (code "A") (code "U") (get_or w 3 0)) h.1 in
    four w (eqb-true (length w) 4 k.0) h.0 k.1

-- ---- kinds

passed : (b : Bool) (x y : Kind) → (b ≡ true → ⊥) → cond b x y ≡ y
passed true x y h = absurd (h refl)
passed false x y h = refl

-- a test that no keyword passes: a word that does is none
module _
    (f : List ℕ → Bool)
    (no_uag : f (bytes "UAG") ≡ false)
    (no_hag : f (bytes "HAG") ≡ false)
    (no_asg : f (bytes "ASG") ≡ false)
    (no_rule : f (bytes "RULE") ≡ false)
    (no_calc : f (bytes "CALC") ≡ false)
    (no_inp : (l : ℕ) → f (bytes "INP" ++ (l ∷ [])) ≡ false)
    (w : List ℕ)
    (t : f w ≡ true)
  where
    other_word : (v : List ℕ) → f v ≡ false → same w v ≡ true → ⊥
    other_word v n e = false≢true (cc (ap f (same_true w v e)))

    no_input : inp w ≡ true → ⊥
    no_input e = let i = input_word w e in false≢true (cc (ap f i.spelled, no_inp i.letter))

    no_keyword :
        (k : Kind)
        → cond (same w (bytes "UAG")) Uag
        (cond (same w (bytes "HAG")) Hag
        (cond (same w (bytes "ASG")) Asg
        (cond (same w (bytes "RULE")) Rule (cond (same w (bytes "CALC")) Calc (cond (inp w) Inp k)))))
        ≡ k
    no_keyword k =
        passed (same w (bytes "UAG")) Uag _ (other_word (bytes "UAG") no_uag)
        ∙ passed (same w (bytes "HAG")) Hag _ (other_word (bytes "HAG") no_hag)
        ∙ passed (same w (bytes "ASG")) Asg _ (other_word (bytes "ASG") no_asg)
        ∙ passed (same w (bytes "RULE")) Rule _ (other_word (bytes "RULE") no_rule)
        ∙ passed (same w (bytes "CALC")) Calc _ (other_word (bytes "CALC") no_calc)
        ∙ passed (inp w) Inp k no_input

-- no word is an INT and a FLOAT
apart : (s : List ℕ) → digits s ≡ true → fraction (after digit s) ≡ true → ⊥
apart s d f = go (after digit s) (both (nonempty (run digit s)) (not (nonempty (after digit s))) d).1 f
  where
    go : (r : List ℕ) → not (nonempty r) ≡ true → fraction r ≡ true → ⊥
    go [] a e = false≢true e
    go (x ∷ r) a e = false≢true a

form_kind : {w : List ℕ} {k : Kind} → Form w k → word_kind w ≡ k
form_kind (uag e) = rw e
form_kind (hag e) = rw e
form_kind (asg e) = rw e
form_kind (rule e) = rw e
form_kind (calc e) = rw e
form_kind (word.inp e r) = rw (e, r)
form_kind {w} (word.int d) =
    let t = are_digits (unsigned w) d in
    no_keyword int refl refl refl refl refl (λ l. refl) w t _ ∙ rw t
form_kind {w} (word.float f) =
    let t = is_float w f in
    no_keyword float refl refl refl refl refl (λ l. refl) w t _ ∙ passed (int w) Int _ (λ i. apart (unsigned w) i t) ∙ rw t

no_string : {w : List ℕ} {k : Kind} → Form w k → k ≡ String → ⊥
no_string (uag h) e = let z : ◌≡◌ {A = ℕ} 0 1 = cc in omega arith
no_string (hag h) e = let z : ◌≡◌ {A = ℕ} 0 1 = cc in omega arith
no_string (asg h) e = let z : ◌≡◌ {A = ℕ} 0 1 = cc in omega arith
no_string (rule h) e = let z : ◌≡◌ {A = ℕ} 0 1 = cc in omega arith
no_string (calc h) e = let z : ◌≡◌ {A = ℕ} 0 1 = cc in omega arith
no_string (word.inp h r) e = let z : ◌≡◌ {A = ℕ} 0 1 = cc in omega arith
no_string (word.int h) e = let z : ◌≡◌ {A = ℕ} 0 1 = cc in omega arith
no_string (word.float h) e = let z : ◌≡◌ {A = ℕ} 0 1 = cc in omega arith

-- the kind that the scanner gives a word is its kind
pub kind_sound : (w : List ℕ) → OfKind w (word_kind w)
kind_sound w =
    go
    (same w (bytes "UAG"))
    (same w (bytes "HAG"))
    (same w (bytes "ASG"))
    (same w (bytes "RULE"))
    (same w (bytes "CALC"))
    (inp w)
    (int w)
    (float w) refl refl refl refl refl refl refl refl
  where
    go :
        (a b c d e f g h : Bool) → same w (bytes "UAG") ≡ a → same w (bytes "HAG") ≡ b → same w (bytes "ASG") ≡ c → same w (bytes "RULE") ≡ d
        → same w (bytes "CALC") ≡ e → inp w ≡ f → int w ≡ g → float w ≡ h
        → OfKind w (cond a Uag (cond b Hag (cond c Asg (cond d Rule (cond e Calc (cond f Inp (cond g Int (cond h Float String))))))))
    go true b c d e f g h p q r s t u v x = formed (uag (same_true w (bytes "UAG") p))
    go false true c d e f g h p q r s t u v x = formed (hag (same_true w (bytes "HAG") q))
    go false false true d e f g h p q r s t u v x = formed (asg (same_true w (bytes "ASG") r))
    go false false false true e f g h p q r s t u v x = formed (rule (same_true w (bytes "RULE") s))
    go false false false false true f g h p q r s t u v x = formed (calc (same_true w (bytes "CALC") t))
    go false false false false false true g h p q r s t u v x = let i = input_word w u in formed (word.inp i.spelled i.range)
    go false false false false false false true h p q r s t u v x = formed (word.int (digits_are (unsigned w) v))
    go false false false false false false false true p q r s t u v x = formed (word.float (float_is w x))
    go false false false false false false false false p q r s t u v x =
        let plain : word_kind w ≡ String = rw (p, q, r, s, t, u, v, x) in
        string (λ k f. no_string f (sym (form_kind f) ∙ plain))

pub kind_complete : {w : List ℕ} {k : Kind} → OfKind w k → word_kind w ≡ k
kind_complete (formed f) = form_kind f
kind_complete {w} (string other) = go (kind_sound w)
  where
    go : {k : Kind} → OfKind w k → k ≡ String
    go (formed {k = k} f) = absurd (other k f)
    go (string h) = refl
