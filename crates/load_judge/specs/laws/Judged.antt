-- From the syntax and the causes to the verdict on a text.
use Rattle.std.specs.Prelude.{◌≡◌, List, ℕ, ◌≤◌, ◌<◌, length, take, Result, Ok, Err}
use Rattle.std.specs.Result.{IsErrAnd}
use Rattle.std.proofs.Common.{ap, ◌∙◌, arith, le-leb}
use Rattle.std.proofs.lemmas.Bool.{lt-leb}
use Rattle.spec_token.specs.Scanner.{scanned}
use Rattle.std.proofs.Math.Seq.{length-take-le}
use Rattle.load_tokens.specs.declared.Token.{Token}
use Rattle.spec_file.specs.declared.Refusal.{Refusal}
use Rattle.spec_file.specs.declared.Refusal.TheVariants.{FileTooLong}
use Rattle.spec_file.specs.Limit.{most_bytes}
use Rattle.spec_file.specs.Load.{refuse, by_tokens, verdict}
use Rattle.load_syntax.specs.Syntax.{count, open_verdict, Read}
use Rattle.load_causes.specs.Cause.{JudgedTokens, said, verdict_of}
use Rattle.load_judge.specs.Judged.{Judged}
use Rattle.load_judge.specs.laws.Taken.{FitsAll, fits_taken}

verdict_short : (s : List ℕ) → length s ≤ most_bytes → verdict s ≡ by_tokens (length s) (scanned s)
unfolding verdict
verdict_short s h = rw (le-leb (length s) most_bytes h)

-- a file over 16,384 bytes
pub verdict_long : (s : List ℕ) → most_bytes < length s → verdict s ≡ refuse FileTooLong 0
unfolding verdict
verdict_long s h = rw (lt-leb (length s) most_bytes h)

module _ {s : List ℕ} {ts : List Token} {r : Result ℕ (Refusal × ℕ)} (short : length s ≤ most_bytes) (l : Read s ts r) where
  refused : {k : Refusal × ℕ} → verdict s ≡ refuse k.0 k.1 → Judged s ts (Err k)
  refused e = record { same = e; short = short; few = omega arith; within = omega arith; good = λ i h. absurd (omega arith) }

  -- by 2 to 4
  pub refused_early : {k : Refusal × ℕ} → r ≡ Err k → Judged s ts (Err k)
  refused_early e = refused (verdict_short s short ∙ l.same ∙ ap (open_verdict s ts) e)

  module _ {n : ℕ} (e : r ≡ Ok n) where
    pub found_room : n ≤ length ts
    found_room = omega (arith, ap count e, l.within)

    -- the tokens are a list of their own, no longer than the text
    pub found_fit : FitsAll s (take n ts)
    found_fit =
        let k : count r ≡ n = ap count e in
        fits_taken s ts n short (omega (arith, l.few)) found_room (rw k at l.good)

    pub found_few : length (take n ts) ≤ length s
    found_few = omega (arith, ap count e, l.few, length-take-le n ts found_room)

    -- by the causes
    by_cause : {t : Result (Unit {0}) (Refusal × ℕ)} → JudgedTokens s (take n ts) t → verdict s ≡ verdict_of (said s (take n ts)) t
    by_cause j = verdict_short s short ∙ l.same ∙ ap (open_verdict s ts) e ∙ j.same

    pub judged_accepted : {u : Unit {0}} → JudgedTokens s (take n ts) (Ok u) → Judged s ts (Ok n)
    judged_accepted j =
        let k : count r ≡ n = ap count e in
        record { same = by_cause j; short = short; few = omega (arith, l.few); within = found_room; good = rw k at l.good }

    pub judged_refused : {k : Refusal × ℕ} → JudgedTokens s (take n ts) (Err k) → Judged s ts (Err k)
    judged_refused j = refused (by_cause j)

-- a refusal that is handed on
pub handed_on :
    {s : List ℕ} {ts : List Token} {k : Refusal × ℕ} {r : Result ℕ (Refusal × ℕ)} → Judged s ts (Err k) → IsErrAnd r (λ y. y ≡ k) → Judged s ts r
handed_on {r = Ok n} j e = absurd e
handed_on {r = Err y} j e = rw e j
