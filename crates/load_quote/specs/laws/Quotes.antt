-- Reading a quoted text byte by byte.
use Rattle.std.specs.Prelude.{◌≡◌, refl, Bool, true, false, cond, List, [], ◌∷◌, ℕ, ◌+◌, ◌≤◌, ◌<◌, length, get_or, drop, Some, None, Err}
use Rattle.std.proofs.Common.{ap, ◌∙◌}
use Rattle.spec_lists.specs.Text.{among}
use Rattle.spec_token.specs.Word.{newline}
use Rattle.spec_token.specs.Scanner.{Quoted, closed, broken, also, quoted}
use Rattle.spec_token.proofs.laws.Quotes.{Inside, further, closes, breaks, never_closes}
use Rattle.load_quote.specs.declared.Act.{Act}
use Rattle.load_quote.specs.declared.Act.TheVariants.{On, Close, Break}
use Rattle.load_quote.specs.Quote.{act, ClosedAt, QuoteRead, ReadBehind}

-- what an act makes of a text
abbrev acted : Act → ℕ → ℕ → List ℕ → Quoted
acted (On e) i b l = also b (quoted e (i + 1) l)
acted Close i b l = closed [] l
acted Break i b l = broken i

act_quoted : (e : Bool) (i b : ℕ) (l : List ℕ) → quoted e i (b ∷ l) ≡ acted (act e b) i b l
act_quoted true i b l = refl
act_quoted false i b l = go (among "\"" b) (newline b)
  where
    go :
        (c d : Bool)
        → cond c (closed [] l) (cond d (broken i) (also b (quoted (among "\\" b) (i + 1) l)))
        ≡ acted (cond c Close (cond d Break (On (among "\\" b)))) i b l
    go true d = refl
    go false true = refl
    go false false = refl

module _ {s : List ℕ} {from i : ℕ} {e : Bool} (g : Inside s from i e) (h : i < length s) where
  by_act : {a : Act} → act e (get_or s i 0) ≡ a → quoted e i (get_or s i 0 ∷ drop (i + 1) s) ≡ acted a i (get_or s i 0) (drop (i + 1) s)
  by_act {a} q = act_quoted e i (get_or s i 0) (drop (i + 1) s) ∙ ap (λ (x : Act). acted x i (get_or s i 0) (drop (i + 1) s)) q

  pub goes_on : {n : Bool} → act e (get_or s i 0) ≡ On n → Inside s from (i + 1) n
  goes_on q = further s from h g (by_act q)

  pub closes_at : act e (get_or s i 0) ≡ Close → ClosedAt s from i
  closes_at q = record { low = g.low; high = h; text = closes s from h g (by_act q) }

  pub breaks_at : act e (get_or s i 0) ≡ Break → QuoteRead s from (Err (Some i))
  breaks_at q = breaks s from h g (by_act q)

pub never_at : {s : List ℕ} {from i : ℕ} {e : Bool} → Inside s from i e → length s ≤ i → QuoteRead s from (Err None)
never_at {s} {from} g h = never_closes s from g h

-- the same of a text whose quote stands at q
pub broken_at : {s : List ℕ} (q : ℕ) {i : ℕ} {e : Bool} → Inside s (q + 1) i e → i < length s → act e (get_or s i 0) ≡ Break → ReadBehind s q (Err i)
broken_at q g h b = rw (breaks_at g h b) refl

pub never_behind : {s : List ℕ} (q : ℕ) {i : ℕ} {e : Bool} → Inside s (q + 1) i e → length s ≤ i → ReadBehind s q (Err q)
never_behind {s} q g h = rw (never_closes s (q + 1) g h) refl
