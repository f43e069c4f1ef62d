-- Braces counted token by token.
use Rattle.std.specs.Prelude.{◌≡◌, cond, List, ℕ, ◌+◌, ◌-◌, ◌≤◌, ◌<◌, length, leb, get_or, Some, None}
use Rattle.std.proofs.Common.{sym, ap, ◌∙◌, arith, le-leb}
use Rattle.std.proofs.Math.Option.{some}
use Rattle.std.proofs.lemmas.Bool.{lt-leb}
use Rattle.spec_file.specs.Depth.{opened, too_deep}
use Rattle.spec_file.specs.Limit.{most_braces}
use Rattle.load_tokens.specs.declared.Token.{Token}
use Rattle.load_tokens.specs.Arrays.{kind_of_number, tokens_from}
use Rattle.load_tokens.specs.Views.{kinds, kept, blank}
use Rattle.load_tokens.specs.laws.Arrays.{kind_back, tokens_step}
use Rattle.load_tokens.specs.laws.Views.{kind_at, place_at}
use Rattle.load_depth.specs.Deep.{answer, Finds}

-- how many braces are open before the i-th token
pub record Counted (ts : List Token) (i count : ℕ) : Type 0 where
  pub few : count ≤ most_braces
  pub same :
      (s : List ℕ) → too_deep 0 (tokens_from s (kept ts) 0 (length ts)) ≡ too_deep count (tokens_from s (kept ts) i (length ts - i))

pub counted_none : (ts : List Token) → Counted ts 0 0
counted_none ts = record { few = omega arith; same = λ s. ap (λ (k : ℕ). too_deep 0 (tokens_from s (kept ts) 0 k)) (omega arith) }

kind_there : (ts : List Token) (i : ℕ) → kind_of_number (get_or (kinds ts) i 0) ≡ (get_or ts i blank).kind
kind_there ts i = ap kind_of_number (kind_at ts i) ∙ kind_back (get_or ts i blank).kind

module _ {ts : List Token} {i count next : ℕ} (v : Counted ts i count) (h : i < length ts) (e : next ≡ opened (get_or ts i blank).kind count) where
  step :
      (s : List ℕ) → too_deep 0 (tokens_from s (kept ts) 0 (length ts))
      ≡ cond (leb next most_braces) (too_deep next (tokens_from s (kept ts) (i + 1) (length ts - (i + 1)))) (some (get_or ts i blank).place)
  step s = v.same s ∙ ap (too_deep count) (tokens_step s (kept ts) i (length ts) h) ∙ rw (kind_there ts i, e, place_at ts i)

  pub counted_more : next ≤ most_braces → Counted ts (i + 1) next
  counted_more l = record { few = l; same = λ s. step s ∙ rw (le-leb next most_braces l) }

  pub found : {p : ℕ} → most_braces < next → p ≡ (get_or ts i blank).place → (s : List ℕ) → Finds s ts (Some p)
  found {p} l g s =
      let f : too_deep 0 (tokens_from s (kept ts) 0 (length ts)) ≡ some (get_or ts i blank).place = step s ∙ rw (lt-leb next most_braces l) in
      ap (λ (x : ℕ). Some x) g ∙ sym (ap answer f)

pub not_found : {ts : List Token} {i count : ℕ} → Counted ts i count → length ts ≤ i → (s : List ℕ) → Finds s ts None
unfolding tokens_from
not_found {ts} {i} {count} v h s =
    let e : length ts - i ≡ 0 = omega arith in
    sym (ap answer (v.same s ∙ ap (λ (k : ℕ). too_deep count (tokens_from s (kept ts) i k)) e))
