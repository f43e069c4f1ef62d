-- The tokens kept while a text is scanned.
use Rattle.std.specs.Prelude.{◌≡◌, refl, List, [], ◌∷◌, ◌++◌, ℕ, ◌+◌, ◌≤◌, ◌<◌, length, get_or, set, take}
use Rattle.std.proofs.Common.{sym, ap, ◌∙◌, arith, below_more, get_or-take, length-set}
use Rattle.std.proofs.Common.{length-take-le}
use Rattle.std.proofs.lemmas.List.{take-map}
use Rattle.spec_token.specs.declared.Kind.{Kind}
use Rattle.spec_token.specs.declared.Kind.TheVariants as kind
use Rattle.spec_token.specs.Token as spec
use Rattle.spec_token.specs.Scanner.{scanned, scan_from}
use Rattle.spec_token.proofs.laws.Steps.{from_end, prefixed, prefixed_more, prefixed_bad, prefixed_none}
use Rattle.spec_grammar.specs.Codes.{kind_number}
use Rattle.load_tokens.specs.declared.Token.{Token}
use Rattle.load_tokens.specs.Arrays.{kind_of_number, tokens_from, token_at}
use Rattle.load_tokens.specs.Stores.{stored, Room, Good}
use Rattle.load_tokens.specs.Views.{kinds, places, starts, ends, kept}
use Rattle.load_tokens.specs.laws.Arrays.{kind_back}
use Rattle.load_tokens.specs.laws.Stores.{good_stored, good_other, tokens_agree, tokens_stored}
use Rattle.load_tokens.specs.laws.Views.{numbers, kept_stored, kept_room}
use Rattle.load_scan.specs.declared.Entry.{Entry}
use Rattle.load_scan.specs.Found.{token_of, TokenAt, BlankTo}
use Rattle.load_scan.specs.Stored.{entry_of, Small}
use Rattle.load_scan.specs.Answer.{Whole}

-- n tokens are kept of the text before a place
pub record Filled (s : List ℕ) (ts : List Token) (at n : ℕ) : Type 0 where
  pub same : scanned s ≡ prefixed (tokens_from s (kept ts) 0 n) (scan_from s at)
  pub few : n ≤ at
  pub high : at ≤ length s
  pub room : length s ≤ length ts
  pub good : (i : ℕ) → i < n → Good (length s) (kept ts) i

pub filled_none : (s : List ℕ) (ts : List Token) → length s ≤ length ts → Filled s ts 0 0
unfolding tokens_from
filled_none s ts h = record { same = refl; few = omega arith; high = omega arith; room = h; good = λ i l. absurd (omega arith) }

small_kind : (k : Kind) → kind_number k < 14
small_kind kind.Uag = omega arith
small_kind kind.Hag = omega arith
small_kind kind.Asg = omega arith
small_kind kind.Rule = omega arith
small_kind kind.Calc = omega arith
small_kind kind.Inp = omega arith
small_kind kind.Int = omega arith
small_kind kind.Float = omega arith
small_kind kind.String = omega arith
small_kind kind.OpenParen = omega arith
small_kind kind.CloseParen = omega arith
small_kind kind.OpenBrace = omega arith
small_kind kind.CloseBrace = omega arith
small_kind kind.Comma = omega arith

-- the first n tokens are as the others
module _ (s : List ℕ) (ts : List Token) (n : ℕ) (h : n ≤ length ts) where
  taken_kind : (i : ℕ) → i < n → get_or (kinds (take n ts)) i 0 ≡ get_or (kinds ts) i 0
  taken_kind i l = ap (λ (x : List ℕ). get_or x i 0) (sym (take-map _ n ts)) ∙ get_or-take n (kinds ts) i 0 l

  taken_place : (i : ℕ) → i < n → get_or (places (take n ts)) i 0 ≡ get_or (places ts) i 0
  taken_place i l = ap (λ (x : List ℕ). get_or x i 0) (sym (take-map _ n ts)) ∙ get_or-take n (places ts) i 0 l

  taken_start : (i : ℕ) → i < n → get_or (starts (take n ts)) i 0 ≡ get_or (starts ts) i 0
  taken_start i l = ap (λ (x : List ℕ). get_or x i 0) (sym (take-map _ n ts)) ∙ get_or-take n (starts ts) i 0 l

  taken_end : (i : ℕ) → i < n → get_or (ends (take n ts)) i 0 ≡ get_or (ends ts) i 0
  taken_end i l = ap (λ (x : List ℕ). get_or x i 0) (sym (take-map _ n ts)) ∙ get_or-take n (ends ts) i 0 l

  taken_token : (i : ℕ) → i < n → token_at s (kept ts) i ≡ token_at s (kept (take n ts)) i
  taken_token i l = rw (taken_kind i l, taken_place i l, taken_start i l, taken_end i l) refl

  taken_good : {m i : ℕ} → i < n → Good m (kept ts) i → Good m (kept (take n ts)) i
  taken_good {m} {i} l g =
      record {
        kind = rw (taken_kind i l) g.kind;
        place = rw (taken_place i l) g.place;
        start = rw (taken_start i l, taken_end i l) g.start;
        end = rw (taken_end i l) g.end;
      }

module _ {s : List ℕ} {ts : List Token} {at n : ℕ} (f : Filled s ts at n) where
  pub filled_past : {to : ℕ} → BlankTo s at to → Filled s ts to n
  filled_past b =
      record {
        same = f.same ∙ ap (prefixed (tokens_from s (kept ts) 0 n)) b.same;
        few = omega (arith, f.few, b.onward.more);
        high = b.onward.within;
        room = f.room;
        good = f.good;
      }

  pub filled_room : at < length s → n < length ts
  filled_room h = omega (arith, f.few, f.room)

  -- a token stands between two places, and is put behind the others
  pub filled_more : (t : Token) {to : ℕ} → at < length s → TokenAt s at (entry_of t) to → Filled s (set ts n t) to (n + 1)
  filled_more t {to} here d =
      let few : n < length s = omega (arith, f.few) in
      let room : Room (length s) (kept ts) = kept_room ts f.room in
      let own : kind_of_number (numbers t).kind ≡ t.kind = kind_back t.kind in
      let more : tokens_from s (stored (kept ts) n (numbers t)) 0 (n + 1) ≡ tokens_from s (kept ts) 0 n ++ (token_of s (entry_of t) ∷ []) =
      tokens_stored s (kept ts) n (numbers t) room few ∙ rw own refl in
      let kept_more : tokens_from s (kept (set ts n t)) 0 (n + 1) ≡ tokens_from s (kept ts) 0 n ++ (token_of s (entry_of t) ∷ []) =
      rw (kept_stored ts n t) more in
      record {
        same =
            f.same
            ∙ ap (prefixed (tokens_from s (kept ts) 0 n)) d.same
            ∙ sym (prefixed_more (tokens_from s (kept ts) 0 n) (token_of s (entry_of t)) (scan_from s to))
            ∙ ap (λ (us : List spec.Token). prefixed us (scan_from s to)) (sym kept_more);
        few = omega (arith, f.few, d.onward.more);
        high = d.onward.within;
        room = rw length-set f.room;
        good =
            rw (kept_stored ts n t)
            (below_more (Good (length s) (stored (kept ts) n (numbers t))) n
            (λ i g. good_other (kept ts) n (numbers t) i g (f.good i g))
            (good_stored (kept ts) n (numbers t) room few (small_kind t.kind) d.place d.start d.end));
      }

  pub filled_whole : length s ≤ at → Whole s (take n ts)
  filled_whole h =
      let m : n ≤ length ts = omega (arith, f.few, f.high, f.room) in
      let l : length (take n ts) ≡ n = length-take-le n ts m in
      record {
        same =
            f.same ∙ ap (prefixed (tokens_from s (kept ts) 0 n)) (from_end s at h) ∙ prefixed_none (tokens_from s (kept ts) 0 n)
            ∙ ap spec.tokens (tokens_agree s (kept ts) (kept (take n ts)) 0 n (λ k g. taken_token s ts n m k (omega arith)))
            ∙ ap (λ (x : ℕ). spec.tokens (tokens_from s (kept (take n ts)) 0 x)) (sym l);
        few = omega (arith, f.few, f.high, l);
        good = λ i g. let k : i < n = omega arith in taken_good s ts n m k (f.good i k);
      }

  pub filled_bad : {p : ℕ} → scan_from s at ≡ spec.bad p → scanned s ≡ spec.bad p
  filled_bad {p} e = f.same ∙ ap (prefixed (tokens_from s (kept ts) 0 n)) e ∙ prefixed_bad (tokens_from s (kept ts) 0 n) p

-- an entry of a short text fits
pub small : {s : List ℕ} {at : ℕ} {t : Entry} {to : ℕ} → length s ≤ 16384 → TokenAt s at t to → Small t
small h d =
    let e = d.end in
    record { place = omega (arith, d.place); start = omega (arith, d.start); end = omega arith }
