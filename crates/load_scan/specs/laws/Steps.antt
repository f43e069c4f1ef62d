-- What stands at a place, by what its byte begins.
use Rattle.std.specs.Prelude.{◌≡◌, refl, false, List, [], ◌∷◌, ℕ, ◌+◌, ◌-◌, ◌<◌, length, get_or, take, drop, Result, Ok, Err, IsErrAnd}
use Rattle.std.proofs.Common.{sym, ap, ◌∙◌, arith, drop-cons}
use Rattle.spec_token.specs.declared.Kind.{Kind}
use Rattle.spec_token.specs.declared.Kind.TheVariants as kind
use Rattle.spec_token.specs.Word.{name_byte}
use Rattle.spec_token.specs.Token.{bad}
use Rattle.spec_token.specs.Scanner.{word_kind, punctuation, nothing, comment, quote, stop, word, wrong, other, Quoted, closed, broken, unclosed, quoted, scan_from}
use Rattle.spec_token.specs.Spans.{Span}
use Rattle.spec_token.proofs.laws.Spans.{span_more}
use Rattle.spec_token.proofs.laws.Steps.{word_named, from_nothing, from_comment, from_stop, from_word, from_wrong, from_closed, from_broken, from_unclosed}
use Rattle.load_tokens.specs.Arrays.{between}
use Rattle.load_quote.specs.Quote.{ClosedAt, NoEnd, ReadBehind}
use Rattle.load_scan.specs.declared.Step.{Step}
use Rattle.load_scan.specs.Found.{BeginsAt, TokenAt, BlankTo, Found}

one_byte : (s : List ℕ) (at : ℕ) → at < length s → between s at (at + 1) ≡ get_or s at 0 ∷ []
one_byte s at h =
    let n : (at + 1) - at ≡ 1 = omega arith in
    ap (λ (k : ℕ). take k (drop at s)) n ∙ ap (take 1) (drop-cons s at 0 h)

module _ {s : List ℕ} {at : ℕ} where
  pub blank_skipped : BeginsAt s at nothing → BlankTo s at (at + 1)
  blank_skipped b =
      record { onward = record { more = omega arith; within = omega (arith, b.here) }; same = from_nothing s at b.here b.begun }

  pub comment_skipped : {to : ℕ} → BeginsAt s at comment → Span other s (at + 1) to → BlankTo s at to
  comment_skipped b d =
      record { onward = record { more = omega (arith, d.onward); within = d.within }; same = from_comment s at b.here b.begun d }

  pub wrong_byte : BeginsAt s at wrong → scan_from s at ≡ bad at
  wrong_byte b = from_wrong s at b.here b.begun

  pub quote_bad : (p : ℕ) → BeginsAt s at quote → ReadBehind s at (Err p) → scan_from s at ≡ bad p
  quote_bad p b q = go (quoted false (at + 1) (drop (at + 1) s)) refl q
    where
      go : (x : Quoted) → quoted false (at + 1) (drop (at + 1) s) ≡ x → NoEnd x at p → scan_from s at ≡ bad p
      go (closed t r) e n = absurd n
      go (broken z) e n = from_broken s at b.here b.begun z e ∙ ap bad (sym n)
      go unclosed e n = from_unclosed s at b.here b.begun e ∙ ap bad (sym n)

  -- what the exit of a `?` returns
  pub quote_stops : (i : ℕ) (r : Result Step ℕ) → BeginsAt s at quote → ReadBehind s at (Err i) → IsErrAnd r (λ y. y ≡ i) → Found s at r
  quote_stops i (Ok t) b q e = absurd e
  quote_stops i (Err y) b q e = quote_bad i b q ∙ ap bad (sym e)

  pub stop_found :
      {k : Kind} → BeginsAt s at stop → k ≡ punctuation (get_or s at 0)
      → TokenAt s at (record { kind = k; place = at; start = at; end = at + 1 }) (at + 1)
  stop_found {k} b e =
      record {
        onward = record { more = omega arith; within = omega (arith, b.here) };
        place = b.here;
        start = omega arith;
        end = omega (arith, b.here);
        same = from_stop s at b.here b.begun ∙ rw (e, one_byte s at b.here);
      }

  pub word_found :
      {k : Kind} {to : ℕ} → BeginsAt s at word → Span name_byte s at to → k ≡ word_kind (between s at to)
      → TokenAt s at (record { kind = k; place = at; start = at; end = to }) to
  word_found {k} {to} b d e =
      record {
        onward = record { more = span_more d b.here (word_named (get_or s at 0) b.begun); within = d.within };
        place = b.here;
        start = d.onward;
        end = d.within;
        same = from_word s at b.here b.begun d ∙ rw e;
      }

  pub quote_found :
      {e : ℕ} → BeginsAt s at quote → ClosedAt s (at + 1) e
      → TokenAt s at (record { kind = kind.String; place = at; start = at + 1; end = e }) (e + 1)
  quote_found {e} b d =
      record {
        onward = record { more = omega (arith, d.low); within = omega (arith, d.high) };
        place = b.here;
        start = d.low;
        end = omega (arith, d.high);
        same = from_closed s at b.here b.begun e d.low d.high d.text;
      }
