-- The lines of an input that comes in pieces.
use Rattle.std.specs.Prelude.{◌≡◌, refl, Bool, true, false, not, ◌&&◌, List, [], ◌∷◌, ◌++◌, ℕ, zero, suc, take}
use Rattle.std.proofs.Common.{sym, ap, subst, ◌∙◌, append_assoc}
use Rattle.std.proofs.lemmas.Bool.{false≢true}
use Rattle.prog_reply.specs.Reply.{reply}
use Rattle.prog_replies.specs.Input.{ends_line, Parted, in_first, parted, replies}
use Rattle.prog_replies.specs.Pieces.{plain}

-- ---- one line

-- what is known of a byte before others, where it is known whether it is a newline
pub by_first : (b : ℕ) (l : List ℕ) (t : Bool) → ends_line b ≡ t → plain (b ∷ l) ≡ true → (not t && plain l) ≡ true
by_first b l t e k = subst (λ (x : Bool). (not x && plain l) ≡ true) e k

pub plain_parted : (l : List ℕ) → plain l ≡ true → parted l ≡ record { lines = []; rest = l }
unfolding parted
plain_parted [] h = refl
plain_parted (b ∷ l) h = go (ends_line b) refl h (plain_parted l)
  where
    go :
        (t : Bool) → ends_line b ≡ t → plain (b ∷ l) ≡ true → (plain l ≡ true → parted l ≡ record { lines = []; rest = l })
        → parted (b ∷ l) ≡ record { lines = []; rest = b ∷ l }
    go true e k i = absurd (false≢true (by_first b l true e k))
    go false e k i = rw (e, i (by_first b l false e k)) refl

pub plain_line : (l : List ℕ) → plain l ≡ true → parted (l ++ (10 ∷ [])) ≡ record { lines = l ∷ []; rest = [] }
unfolding parted
plain_line [] h = refl
plain_line (b ∷ l) h = go (ends_line b) refl h (plain_line l)
  where
    go :
        (t : Bool) → ends_line b ≡ t → plain (b ∷ l) ≡ true → (plain l ≡ true → parted (l ++ (10 ∷ [])) ≡ record { lines = l ∷ []; rest = [] })
        → parted (b ∷ (l ++ (10 ∷ []))) ≡ record { lines = (b ∷ l) ∷ []; rest = [] }
    go true e k i = absurd (false≢true (by_first b l true e k))
    go false e k i = rw (e, i (by_first b l false e k)) refl

pub plain_append : (a b : List ℕ) → plain a ≡ true → plain b ≡ true → plain (a ++ b) ≡ true
plain_append [] b h k = k
plain_append (x ∷ a) b h k = go (ends_line x) refl h (λ z. plain_append a b z k)
  where
    go : (t : Bool) → ends_line x ≡ t → plain (x ∷ a) ≡ true → (plain a ≡ true → plain (a ++ b) ≡ true) → plain (x ∷ (a ++ b)) ≡ true
    go true e z i = absurd (false≢true (by_first x a true e z))
    go false e z i = rw e (i (by_first x a false e z))

pub plain_take : (n : ℕ) (l : List ℕ) → plain l ≡ true → plain (take n l) ≡ true
plain_take zero l h = refl
plain_take (suc n) [] h = refl
plain_take (suc n) (x ∷ l) h = go (ends_line x) refl h (plain_take n l)
  where
    go : (t : Bool) → ends_line x ≡ t → plain (x ∷ l) ≡ true → (plain l ≡ true → plain (take n l) ≡ true) → plain (x ∷ take n l) ≡ true
    go true e z i = absurd (false≢true (by_first x l true e z))
    go false e z i = rw e (i (by_first x l false e z))

pub rest_plain : (a : List ℕ) → plain (parted a).rest ≡ true
unfolding parted
rest_plain [] = refl
rest_plain (x ∷ a) = go (ends_line x) refl (rest_plain a)
  where
    first : (ls : List (List ℕ)) (r : List ℕ) → ends_line x ≡ false → plain r ≡ true → plain (in_first x ls r).rest ≡ true
    first [] r e k = rw e k
    first (l ∷ ls) r e k = k

    go : (t : Bool) → ends_line x ≡ t → plain (parted a).rest ≡ true → plain (parted (x ∷ a)).rest ≡ true
    go true e i = rw e i
    go false e i = rw e (first (parted a).lines (parted a).rest e i)

-- ---- one piece behind another

-- what a piece behind makes of what there was
abbrev pub then : Parted → List ℕ → Parted
then p b = record { lines = p.lines ++ (parted (p.rest ++ b)).lines; rest = (parted (p.rest ++ b)).rest }

pub parted_append : (a b : List ℕ) → parted (a ++ b) ≡ then (parted a) b
unfolding parted
parted_append [] b = refl
parted_append (x ∷ a) b = go (ends_line x) refl (parted_append a b)
  where
    first :
        (ls : List (List ℕ)) (r : List ℕ) → ends_line x ≡ false
        → in_first x (ls ++ (parted (r ++ b)).lines) (parted (r ++ b)).rest ≡ then (in_first x ls r) b
    first [] r e = rw e refl
    first (l ∷ ls) r e = refl

    go : (t : Bool) → ends_line x ≡ t → parted (a ++ b) ≡ then (parted a) b → parted (x ∷ (a ++ b)) ≡ then (parted (x ∷ a)) b
    go true e i = rw (e, i) refl
    go false e i = rw (e, i) (first (parted a).lines (parted a).rest e)

pub replies_append : (table : List ℕ) (a b : List (List ℕ)) → replies table (a ++ b) ≡ replies table a ++ replies table b
unfolding replies
replies_append table [] b = refl
replies_append table (l ∷ a) b =
    ap (λ (s : List ℕ). reply table l ++ s) (replies_append table a b) ∙ sym (append_assoc (reply table l) (replies table a) (replies table b))
