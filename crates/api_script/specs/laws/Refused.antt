-- 01: "A refused call changes no lent byte and no state": of every call, and of all that is lent for writing.
use Rattle.std.specs.Prelude.{◌≡◌, refl, false, true, List, [], ℕ}
use Rattle.std.proofs.Common.{ap}
use Rattle.std.proofs.lemmas.Bool.{false≢true}
use Rattle.std.proofs.Math.Option.{some}
use Rattle.spec_file.specs.Load.{Verdict, refuse, accept, verdict}
use Rattle.spec_load.specs.Listing.{listed_by, listing}
use Rattle.spec_export.specs.declared.Exported.{Exported}
use Rattle.spec_export.specs.declared.Exported.TheVariants as exports
use Rattle.spec_export.specs.Export.{exported, left}
use Rattle.spec_demand.specs.Calls.{Call, load_text, list_warnings, check_table, ask, ask_checked, find_input, find_input_checked, look_up_name, find_group}
use Rattle.spec_demand.specs.Calls.{export_text, allow, calculate, hold, Told, listing_told, exported_told, refusal_of}
use Rattle.spec_demand.proofs.laws.Loaded.{refused_call_leaves}
use Rattle.api_script.specs.Replies.{Lent, lent_of, with_list, left_by}

list_leaves : (l : Lent) (s : List ℕ) (skip : ℕ) (r : Told) → listing_told (listing skip [] [] s).answer ≡ some r → with_list l (listing skip l.numbers l.places s) ≡ l
unfolding listing
list_leaves l s skip r e = by (verdict s) e
  where
    by : (v : Verdict) → listing_told (listed_by skip [] [] v).answer ≡ some r → with_list l (listed_by skip l.numbers l.places v) ≡ l
    by (refuse n p) h = refl
    by (accept xs) h = let z : false ≡ true = cc in absurd (false≢true z)

export_leaves : (lent text : List ℕ) (x : Exported) (r : Told) → exported_told x ≡ some r → left lent text x ≡ lent
export_leaves lent text (exports.Written n) r e = let z : false ≡ true = cc in absurd (false≢true z)
export_leaves lent text exports.NotTable r e = refl
export_leaves lent text exports.Unwritable r e = refl
export_leaves lent text (exports.NoRoom n) r e = refl

pub refused_leaves_all : (l : Lent) (c : Call) (r : Told) → refusal_of l.table c ≡ some r → left_by l c ≡ l
refused_leaves_all l (load_text s) r e = ap (λ (b : List ℕ). lent_of b l.numbers l.places l.text) (refused_call_leaves l.table (load_text s) r e)
refused_leaves_all l (list_warnings s skip) r e = list_leaves l s skip r e
refused_leaves_all l check_table r e = refl
refused_leaves_all l (ask q) r e = refl
refused_leaves_all l (ask_checked q) r e = refl
refused_leaves_all l (find_input g letter) r e = refl
refused_leaves_all l (find_input_checked g letter) r e = refl
refused_leaves_all l (look_up_name g letter) r e = refl
refused_leaves_all l (find_group n) r e = refl
refused_leaves_all l (export_text n) r e = ap (lent_of l.table l.numbers l.places) (export_leaves l.text _ (exported n l.table) r e)
refused_leaves_all l (allow s) r e = refl
refused_leaves_all l (calculate s rs) r e = refl
refused_leaves_all l (hold s rs) r e = refl
