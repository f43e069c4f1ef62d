-- From what the passes over the text answer to the refusals 2 to 4.
use Rattle.std.specs.Prelude.{◌≡◌, refl, cond, List, ℕ, ltb, length, get_or, Some, None, Ok, Err}
use Rattle.std.proofs.Common.{sym, ap, ◌∙◌, arith}
use Rattle.std.proofs.Math.Option as maybe
use Rattle.spec_token.specs.Token.{bad}
use Rattle.spec_token.specs.Scanner.{scanned}
use Rattle.load_tokens.specs.declared.Token.{Token}
use Rattle.load_tokens.specs.Arrays.{Arrays, tokens_from}
use Rattle.load_tokens.specs.Views.{places, kept}
use Rattle.load_tokens.specs.laws.Views.{many_kinds}
use Rattle.spec_file.specs.declared.Refusal.TheVariants.{BadByte, TooDeep, Ungrammatical}
use Rattle.spec_file.specs.Depth.{too_deep}
use Rattle.load_depth.specs.Deep.{answer, Finds}
use Rattle.load_parse.specs.Reads.{Answers}
use Rattle.load_parse.specs.laws.Theorem.{read_is}
use Rattle.load_syntax.specs.Syntax.{Parsed, Read}

-- what the pass over the braces answers
deep_of : {p : ℕ} (o : maybe.Option ℕ) → Some p ≡ answer o → o ≡ maybe.some p
deep_of maybe.none e = absurd (cc e)
deep_of (maybe.some q) e = cc

flat_of : (o : maybe.Option ℕ) → None ≡ answer o → o ≡ maybe.none
flat_of maybe.none e = refl
flat_of (maybe.some q) e = absurd (cc e)

as_many : (ts ts' : List Token) → kept ts' ≡ kept ts → length ts' ≡ length ts
as_many ts ts' e = sym (many_kinds ts') ∙ ap (λ (a : Arrays). length a.kinds) e ∙ many_kinds ts

module _ (s : List ℕ) (ts : List Token) (m : ℕ) where
  pub deep_parsed : {p : ℕ} → Finds s ts (Some p) → Parsed s ts ts m (Err (TooDeep, p))
  deep_parsed e = record { same = rw (deep_of (too_deep 0 (tokens_from s (kept ts) 0 (length ts))) e) refl; others = refl }

  module _ (us : List Token) (e : Finds s ts None) where
    pub whole_parsed : Answers ts us (Ok tt) → Parsed s ts us m (Ok tt)
    whole_parsed v =
        record {
          same =
              rw (flat_of (too_deep 0 (tokens_from s (kept ts) 0 (length ts))) e, read_is s ts m us (Ok tt) v, as_many ts us v.others, v.others) refl;
          others = v.others;
        }

    pub stop_parsed :
        {i q : ℕ} → Answers ts us (Err i) → q ≡ cond (ltb i (length us)) (get_or (places us) i 0) m → Parsed s ts us m (Err (Ungrammatical, q))
    stop_parsed {i} v k =
        let p : places us ≡ places ts = ap (λ (a : Arrays). a.places) v.others in
        record {
          same =
              rw (flat_of (too_deep 0 (tokens_from s (kept ts) 0 (length ts))) e, read_is s ts m us (Err i) v, k, as_many ts us v.others, p) refl;
          others = v.others;
        }

-- a bad byte
module _ (s : List ℕ) (ts : List Token) where
  pub bad_read : {p : ℕ} → scanned s ≡ bad p → Read s ts (Err (BadByte, p))
  bad_read e = record { same = rw e refl; few = omega arith; within = omega arith; good = λ i h. absurd (omega arith) }
