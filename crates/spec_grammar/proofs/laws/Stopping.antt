-- Where the reader stops: what it has read begins a file, and with the next token no file begins.
use Rattle.std.specs.Prelude.{◌≡◌, refl, List, [], ◌∷◌, ◌++◌, map, Bool, true, false, cond, ℕ}
use Rattle.std.proofs.Common.{ap, subst, append_assoc, arith}
use Rattle.spec_token.specs.declared.Kind.{Kind}
use Rattle.spec_token.specs.Token.{Token}
use Rattle.spec_grammar.specs.declared.Role.{Role}
use Rattle.spec_grammar.specs.Production.{◌tagged◌}
use Rattle.spec_grammar.specs.Sentence.{Tagged, kind_of, kinds, Viable, Sentence, Stops, at_token, at_end}
use Rattle.spec_grammar.specs.Reader.{Stack, Step, halt, go, step, may_end, Parse, parsed, stopped, joined_to, onward, read_from, start}
use Rattle.spec_grammar.proofs.laws.Sound.{Signs, Seq, words, step_sound, file, parsed_not_stopped}
use Rattle.spec_grammar.proofs.laws.Complete.{Follows, done, took, follows}

-- the kinds ks begin something that the stack k stands for
pub record Live (k : Stack) (ks : List Kind) : Type 0 where
  pub rest : List Kind
  pub signs : Signs
  pub spelled : map kind_of signs ≡ ks ++ rest
  pub means : Seq k signs []

-- the kinds ks are nothing that the reader follows from k
abbrev pub Unread : Stack → List Kind → Type 0
Unread k ks = (s : Signs) → map kind_of s ≡ ks → Follows k s → ⊥

-- every stack stands for something
live : (k : Stack) → Live k []
live k = let w = words k in record { rest = map kind_of w.0; signs = w.0; spelled = refl; means = w.1 }

-- one step earlier
module _ {k j : Stack} {t : Kind} {v : Role} (e : step k t ≡ go v j) where
  live_on : {ks : List Kind} → Live j ks → Live k (t ∷ ks)
  live_on l =
      record {
        rest = l.rest;
        signs = t tagged v ∷ l.signs;
        spelled = ap (λ us. t ∷ us) l.spelled;
        means = step_sound k j t v l.signs [] e l.means;
      }

  unread_on : {ks : List Kind} → Unread j ks → Unread k (t ∷ ks)
  unread_on u _ q (done c) = let z : ◌≡◌ {A = ℕ} 0 1 = cc in omega arith
  unread_on {ks} u _ q (took {j = i} {s = s} f g) =
      let same : i ≡ j = cc in
      let tail : map kind_of s ≡ ks = cc in
      u s tail (rw same at g)

-- Stops, from the stack k on
pub data Halts (k : Stack) (ts : List Token) (n : ℕ) : ℕ → Type 0 where
  halts_at :
      (before : List Token) (t : Token) (behind : List Token) → ts ≡ before ++ (t ∷ behind) → Live k (kinds before)
      → ((rest : List Kind) → Unread k (kinds before ++ (t.kind ∷ rest))) → Halts k ts n t.place
  halts_end : Live k (kinds ts) → Unread k (kinds ts) → Halts k ts n n

-- the same place, one step earlier
later : {k j : Stack} {v : Role} {ts : List Token} {n p : ℕ} (t : Token) → step k t.kind ≡ go v j → Halts j ts n p → Halts k (t ∷ ts) n p
later t e (halts_at before u behind q l d) = halts_at (t ∷ before) u behind (ap (λ us. t ∷ us) q) (live_on e l) (λ rest. unread_on e (d rest))
later t e (halts_end l d) = halts_end (live_on e l) (unread_on e d)

-- what stops behind a token stops
joined_stopped : (x : Tagged) (o : Parse) {p : ℕ} → joined_to x o ≡ stopped p → o ≡ stopped p
joined_stopped x (parsed xs) e = parsed_not_stopped e
joined_stopped x (stopped p) e = e

-- where something must come, nothing is no end
unfinished : {k : Stack} → may_end k ≡ false → Unread k []
unfinished c _ q (done d) = let z : ◌≡◌ {A = ℕ} 0 1 = cc in omega arith
unfinished c _ q (took f g) = let z : ◌≡◌ {A = ℕ} 0 1 = cc in omega arith

-- a token that may not come
refused : {k : Stack} {t : Kind} → step k t ≡ halt → (rest : List Kind) → Unread k (t ∷ rest)
refused h rest _ q (done c) = let z : ◌≡◌ {A = ℕ} 0 1 = cc in omega arith
refused h rest _ q (took f g) = let z : ◌≡◌ {A = ℕ} 0 1 = cc in omega arith

-- the place that the reader answers is that place
pub read_from_halts : (k : Stack) (ts : List Token) (n p : ℕ) → read_from k ts n ≡ stopped p → Halts k ts n p
read_from_halts k [] n p e = ends (may_end k) refl e
  where
    ends : (b : Bool) → may_end k ≡ b → cond b (parsed []) (stopped n) ≡ stopped p → Halts k [] n p
    ends true c h = parsed_not_stopped h
    ends false c h = let same : n ≡ p = cc in subst (Halts k [] n) same (halts_end (live k) (unfinished c))
read_from_halts k (t ∷ ts) n p e = steps (step k t.kind) refl (λ j. read_from_halts j ts n p) e
  where
    steps :
        (s : Step) → step k t.kind ≡ s → ((j : Stack) → read_from j ts n ≡ stopped p → Halts j ts n p) → onward s t (λ j. read_from j ts n) ≡ stopped p
        → Halts k (t ∷ ts) n p
    steps halt f ih h = let same : t.place ≡ p = cc in subst (Halts k (t ∷ ts) n) same (halts_at [] t ts refl (live k) (refused f))
    steps (go v j) f ih h = later t f (ih j (joined_stopped _ _ h))

-- what is live from the start begins a file
begins : {ks : List Kind} → Live start ks → Viable ks
begins l = record { rest = l.rest; sentence = record { signs = l.signs; spelled = l.spelled; derived = file l.means } }

-- what is unread from the start is no file
no_sentence : {ks : List Kind} → Unread start ks → Sentence ks → ⊥
no_sentence u z = u z.signs z.spelled (follows z.derived)

-- where it stops from the start is where no file could go on
pub stops : {ts : List Token} {n p : ℕ} → Halts start ts n p → Stops ts n p
stops (halts_at before t behind q l d) = at_token before t behind q (begins l) (λ b. no_sentence (d b.rest) (rw append_assoc at b.sentence))
stops (halts_end l d) = at_end (begins l) (no_sentence d)
