-- From the verdict on a text to what a load answers and leaves.
use Rattle.std.specs.Prelude.{◌≡◌, refl, List, ℕ, ◌≤◌, ◌<◌, length, take, Ok, Err}
use Rattle.std.proofs.Math.Path.{sym}
use Rattle.std.proofs.Common.{ap, subst, ◌∙◌}
use Rattle.load_tokens.specs.declared.Token.{Token}
use Rattle.load_tokens.specs.Views.{kept, starts, ends, roles}
use Rattle.load_spans.specs.Listed.{indices}
use Rattle.spec_file.specs.Limit.{most_bytes}
use Rattle.spec_file.specs.Contents.{file_of}
use Rattle.spec_file.specs.Load.{accept}
use Rattle.spec_file.specs.declared.Refusal.{Refusal}
use Rattle.spec_file.specs.declared.Refusal.TheVariants.{FileTooLong}
use Rattle.spec_table.specs.Layout.{greatest_table}
use Rattle.spec_table.proofs.laws.Accepted.{fits}
use Rattle.spec_table.proofs.laws.Theorem.{table_length}
use Rattle.spec_load.specs.declared.Loaded.{Loaded}
use Rattle.spec_load.specs.declared.Loaded.TheVariants.{Refused}
use Rattle.spec_load.specs.Load.{by_verdict, load}
use Rattle.load_syntax.specs.Syntax.{tagged}
use Rattle.load_judge.specs.Judged.{Judged}
use Rattle.load_judge.specs.laws.Judged.{verdict_long}
use Rattle.load_judge.specs.laws.Bounded.{accepted_as, refused_as}
use Rattle.load_write.specs.Table.{stored_table}
use Rattle.load_store.specs.laws.Stored.{is_table_of}

module _ {s : List ℕ} {ts : List Token} {n : ℕ} (f : Judged s ts (Ok n)) where
  abbrev us : List Token
  us = take n ts

  -- no accepted file's table is too long
  pub table_fits :
      length (stored_table s (starts us) (ends us) (roles us) (length us) (indices 1 (roles us) 0 (length us)) (indices 3 (roles us) 0 (length us)))
      ≤ greatest_table
  table_fits =
      let xs = tagged s us in
      subst (λ (b : List ℕ). length b ≤ greatest_table) (sym (is_table_of s (kept us) (roles us) (length us) refl refl))
      (table_length (file_of xs) (fits s xs (accepted_as f refl)))

  pub load_stored :
      (lent : List ℕ) {c : List ℕ} {o : Loaded} → record { answer = o; bytes = c } ≡ by_verdict lent (accept (tagged s us))
      → record { answer = o; bytes = c } ≡ load lent s
  unfolding load
  load_stored lent g = g ∙ sym (ap (by_verdict lent) (accepted_as f refl))

pub load_refused :
    {s : List ℕ} {ts : List Token} {k : Refusal × ℕ} (lent : List ℕ) → Judged s ts (Err k) → record { answer = Refused k.0 k.1; bytes = lent } ≡ load lent s
unfolding load
load_refused lent f = rw (refused_as f refl)

-- a text over 16,384 bytes
pub load_long : (lent s : List ℕ) → most_bytes < length s → record { answer = Refused FileTooLong 0; bytes = lent } ≡ load lent s
unfolding load
load_long lent s h = rw (verdict_long s h)
