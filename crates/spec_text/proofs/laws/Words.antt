-- The words of a text say what they were made of, and letters are told apart by their words.
use Rattle.std.specs.Prelude.{◌≡◌, refl, Bool, true, false, ◌&&◌, ◌||◌, List, [], ◌∷◌, ◌++◌, map, ℕ, zero, suc, ◌+◌, ◌-◌, ◌≤◌, eqb}
use Rattle.std.proofs.Common.{ap, ap₂, ◌∙◌, arith, eqb-true, eq-eqb, ne_eqb}
use Rattle.std.proofs.Math.Option.{some}
use Prim.Native.Char.{code}
use Rattle.std.proofs.lemmas.Bool.{eqb-false}
use Rattle.spec_lists.specs.Text.{bytes, same}
use Rattle.spec_lists.proofs.laws.Any.{any_map, any_same}
use Rattle.spec_lists.proofs.laws.Range.{bounded}
use Rattle.spec_token.specs.Word.{link_letter}
use Rattle.spec_token.proofs.laws.Words.{InputWord}
use Rattle.spec_rule.specs.declared.Access.{Access}
use Rattle.spec_rule.specs.declared.Access.TheVariants as access
use Rattle.spec_rule.specs.Answering.{greatest_level}
use Rattle.spec_file.specs.Contents.{level_of, permission_of, log_of}
use Rattle.spec_text.specs.Faults.{repeated}
use Rattle.spec_text.specs.Lines.{link_word, level_word, permission_word, log_word}

pub letter_back : (n : ℕ) → link_letter (link_word n) ≡ n
letter_back n = omega arith

-- an INP word and its letter
pub word_back : {w : List ℕ} → InputWord w → link_word (link_letter w) ≡ w
word_back {w} i =
    let a = bounded (code "A") (code "U") i.letter i.range in
    let l : code "A" + (i.letter - code "A") ≡ i.letter = omega arith in
    rw i.spelled (ap (λ (n : ℕ). bytes "INP" ++ (n ∷ [])) l)

same_letter : (a b : ℕ) → same (link_word a) (link_word b) ≡ eqb a b
same_letter a b = go (eqb a b) refl
  where
    go : (t : Bool) → eqb a b ≡ t → eqb (code "A" + a) (code "A" + b) && true ≡ t
    go true e = let z = eqb-true a b e in rw (eq-eqb (code "A" + a) (code "A" + b) (omega arith))
    go false e = rw (ne_eqb (code "A" + a) (code "A" + b) (λ h. eqb-false a b e (omega arith)))

pub repeated_letters : (ls : List ℕ) → repeated same (map link_word ls) ≡ repeated eqb ls
repeated_letters [] = refl
repeated_letters (l ∷ ls) =
    ap₂ (λ (a b : Bool). a || b)
    (any_map (same (link_word l)) link_word ls ∙ any_same (λ m. same (link_word l) (link_word m)) (eqb l) (same_letter l) ls)
    (repeated_letters ls)

pub level_back : (n : ℕ) → n ≤ greatest_level → level_of (level_word n) ≡ some n
level_back zero l = refl
level_back (suc zero) l = refl
level_back (suc (suc n)) l = absurd (omega arith)

pub permission_back : (a : Access) → permission_of (permission_word a) ≡ some a
permission_back access.None = refl
permission_back access.Read = refl
permission_back access.Write = refl

pub log_back : (b : Bool) → log_of (log_word b) ≡ some b
log_back false = refl
log_back true = refl
