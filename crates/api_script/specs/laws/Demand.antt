-- Demand 3 of a load, any calls and a question.
use Rattle.std.specs.Prelude.{◌≡◌, refl, List, [], ◌∷◌, ℕ}
use Rattle.std.proofs.Common.{sym, ap, ◌∙◌}
use Rattle.spec_rule.specs.Question.{Question, reading_instead}
use Rattle.spec_load.specs.declared.Loaded.{Loaded}
use Rattle.spec_load.specs.Load.{Result, load}
use Rattle.spec_decision.specs.declared.Answer.{Answer}
use Rattle.spec_decision.specs.Decision.{access_in, decide}
use Rattle.spec_demand.specs.Calls.{Call, load_text, list_warnings, check_table, ask, ask_checked, find_input, find_input_checked, look_up_name, find_group}
use Rattle.spec_demand.specs.Calls.{export_text, allow, calculate, hold, after_call, after_calls, is_accepted}
use Rattle.spec_demand.proofs.laws.Later.{never_above, exactly_equal}
use Rattle.api_script.specs.Replies.{Lent, lent_of, left_by, left_by_calls}
use Rattle.api_script.specs.Demand.{NeverMore}

-- the table among what is lent
table_left : (l : Lent) (c : Call) → (left_by l c).table ≡ after_call l.table c
table_left l (load_text s) = refl
table_left l (list_warnings s skip) = refl
table_left l check_table = refl
table_left l (ask q) = refl
table_left l (ask_checked q) = refl
table_left l (find_input g letter) = refl
table_left l (find_input_checked g letter) = refl
table_left l (look_up_name g letter) = refl
table_left l (find_group n) = refl
table_left l (export_text n) = refl
table_left l (allow s) = refl
table_left l (calculate s rs) = refl
table_left l (hold s rs) = refl

pub tables_left : (l : Lent) (cs : List Call) → (left_by_calls l cs).table ≡ after_calls l.table cs
tables_left l [] = refl
tables_left l (c ∷ cs) = tables_left (left_by l c) cs ∙ ap (λ (b : List ℕ). after_calls b cs) (table_left l c)

pub asked_is :
    {table numbers places text s left : List ℕ} {after : Lent} {cs : List Call} {q : Question} {r : Loaded} {a : Answer}
    → record { answer = r; bytes = left } ≡ load table s → after ≡ left_by_calls (lent_of left numbers places text) cs → a ≡ decide after.table q
    → NeverMore (lent_of table numbers places text) s cs q after (record { loaded = r; answer = a })
asked_is {table} {numbers} {places} {text} {s} {left} {after} {cs} {q} {r} {a} l f d =
    let answered = ap (λ (o : Result). o.answer) l in
    let start = lent_of (load table s).bytes numbers places text in
    let all : after ≡ left_by_calls start cs = f ∙ ap (λ (o : Result). left_by_calls (lent_of o.bytes numbers places text) cs) l in
    let bytes : after.table ≡ after_calls (load table s).bytes cs = ap (λ (x : Lent). x.table) all ∙ tables_left start cs in
    let asked : a ≡ decide (after_calls (load table s).bytes cs) q = d ∙ ap (λ (b : List ℕ). decide b q) bytes in
    record {
      loaded = answered;
      left = all;
      answer = d;
      never_more = λ h xs t n e later.
          let accepted = sym (ap is_accepted answered) ∙ h in (
            λ were g w. rw asked (never_above table s accepted xs t cs n e (reading_instead q were) later w q.readings g),
            λ no w. ap access_in asked ∙ exactly_equal table s accepted xs t cs n e q later w no,
          );
    }
