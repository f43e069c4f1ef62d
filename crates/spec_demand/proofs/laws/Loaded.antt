-- What an accepted load leaves: the table of what its text says, which answers by the rules of the text.
use Rattle.std.specs.Prelude.{◌≡◌, refl, Bool, true, false, cond, List, [], ◌∷◌, ◌++◌, map, ℕ, leb, length, drop}
use Rattle.std.proofs.Common.{sym, ap, ◌∙◌}
use Rattle.std.proofs.lemmas.Bool.{false≢true}
use Rattle.std.proofs.Math.Option
use Rattle.std.proofs.Math.Option.{Option, none, some, get_or}
use Rattle.spec_grammar.specs.Sentence.{Tagged}
use Rattle.spec_calc.proofs.laws.Theorem.{no_empty}
use Rattle.spec_rule.specs.Question.{Question}
use Rattle.spec_rule.specs.Rule.{Rule}
use Rattle.spec_rule.specs.Answering.{answering}
use Rattle.spec_file.specs.Contents.{Asg, File, file_of}
use Rattle.spec_file.specs.Meaning.{rule_in}
use Rattle.spec_file.specs.Limit.{access_groups}
use Rattle.spec_file.specs.Load.{Verdict, refuse, accept, verdict}
use Rattle.spec_table.specs.Layout.{Content}
use Rattle.spec_table.specs.Policy.{name, rules_of}
use Rattle.spec_table.specs.Written.{content, records, table_of}
use Rattle.spec_table.proofs.laws.Fits.{Fits}
use Rattle.spec_table.proofs.laws.Preserved.{answering_rules}
use Rattle.spec_table.proofs.laws.Theorem.{viewed, is_a_table}
use Rattle.spec_load.specs.declared.Loaded.{Loaded}
use Rattle.spec_load.specs.declared.Loaded.TheVariants.{Accepted, Refused}
use Rattle.spec_load.specs.Load.{written, without_room, by_verdict, load}
use Rattle.spec_load.proofs.laws.Load.{refused_leaves}
use Rattle.spec_decision.specs.Decision.{rules_in, rules_for, decide}
use Rattle.spec_edition.specs.Machine.{rules_later}
use Rattle.spec_demand.specs.ByFile.{rules_by_file, answer_by_file}
use Rattle.spec_demand.specs.Calls.{Call, load_text, list_warnings, check_table, ask, ask_checked, find_input, find_input_checked, look_up_name, find_group, export_text}
use Rattle.spec_demand.specs.Calls.{allow, calculate, hold, Told, load_told, refusal_of}
use Rattle.spec_demand.specs.Calls.{text_loaded, after_load, after_call, after_calls, is_accepted, NoNewTable, NoAcceptedLoad}

-- ---- a load that is accepted, and one that is not

-- what an accepted load has accepted and written
pub record Stored (lent s : List ℕ) : Type 0 where
  pub said : List Tagged
  pub accepted : verdict s ≡ accept said
  pub bytes : (load lent s).bytes ≡ table_of (file_of said) ++ drop (length (table_of (file_of said))) lent

pub stored : (lent s : List ℕ) → is_accepted (load lent s).answer ≡ true → Stored lent s
unfolding load
stored lent s e = by (verdict s) refl e
  where
    room :
        (xs : List Tagged) (b : Bool) → verdict s ≡ accept xs → leb (length (table_of (file_of xs))) (length lent) ≡ b
        → is_accepted (cond b (written lent xs) (without_room lent xs)).answer ≡ true → Stored lent s
    room xs true v l h = record { said = xs; accepted = v; bytes = rw (v, l) }
    room xs false v l h = absurd (false≢true h)

    by : (v : Verdict) → verdict s ≡ v → is_accepted (by_verdict lent v).answer ≡ true → Stored lent s
    by (refuse n p) v h = absurd (false≢true h)
    by (accept xs) v h = room xs (leb (length (table_of (file_of xs))) (length lent)) v refl h

-- no call but an accepted load changes a byte
pub load_leaves : (b : List ℕ) (o : Option (List ℕ)) → NoNewTable b o → after_load b o ≡ b
load_leaves b none h = refl
load_leaves b (some s) h = refused_leaves b s h

-- 01: "A refused call changes no lent byte and no state": of every call of the library
pub refused_call_leaves : (b : List ℕ) (c : Call) (r : Told) → refusal_of b c ≡ some r → after_call b c ≡ b
refused_call_leaves b (load_text s) r e = refused_leaves b s (by (load b s).answer e)
  where
    by : (a : Loaded) → load_told a ≡ some r → is_accepted a ≡ false
    by (Accepted n w) g = let z : false ≡ true = cc in absurd (false≢true z)
    by (Refused n p) g = refl
refused_call_leaves b (list_warnings s skip) r e = refl
refused_call_leaves b check_table r e = refl
refused_call_leaves b (ask q) r e = refl
refused_call_leaves b (ask_checked q) r e = refl
refused_call_leaves b (find_input g letter) r e = refl
refused_call_leaves b (find_input_checked g letter) r e = refl
refused_call_leaves b (look_up_name g letter) r e = refl
refused_call_leaves b (find_group n) r e = refl
refused_call_leaves b (export_text n) r e = refl
refused_call_leaves b (allow s) r e = refl
refused_call_leaves b (calculate s rs) r e = refl
refused_call_leaves b (hold s rs) r e = refl

pub calls_leave : (b : List ℕ) (cs : List Call) → NoAcceptedLoad b cs → after_calls b cs ≡ b
calls_leave b [] h = refl
calls_leave b (c ∷ cs) h = calls_leave (after_call b c) cs h.1 ∙ load_leaves b (text_loaded c) h.0

-- ---- the table answers by the file's rules

rules_in_is : (c : Content) (o : Option (List ℕ)) → rules_in c o ≡ get_or (Option.map (rules_of c) o) []
rules_in_is c none = refl
rules_in_is c (some row) = refl

rules_later_is : (f : File) (o : Option Asg) → map (rule_in f) (rules_later o) ≡ get_or (Option.map (λ a. map (rule_in f) a.rules) o) []
rules_later_is f none = refl
rules_later_is f (some a) = refl

pub rules_alike : (f : File) → Fits f → (g : List ℕ) → rules_for (content f) g ≡ map (rule_in f) (rules_by_file f g)
rules_alike f h g =
    rules_in_is (content f) (answering (name (content f) access_groups) g (records f access_groups))
    ∙ ap (λ (o : Option (List Rule)). get_or o []) (answering_rules f h no_empty g)
    ∙ sym (rules_later_is f (answering (λ a. a.name) g f.asgs))

pub decided : (f : File) → Fits f → (rest : List ℕ) (q : Question) → decide (table_of f ++ rest) q ≡ answer_by_file f q
unfolding decide
decided f h rest q = rw (is_a_table f h rest, viewed f h rest, rules_alike f h q.group)
