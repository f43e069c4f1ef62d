-- Demand 3 of one run: a load, any calls, a question. See spec_demand/specs/Front.antt.
use Rattle.std.specs.Prelude.{◌≡◌, true, List, ℕ, ◌≤◌}
use Rattle.spec_grammar.specs.Sentence.{Tagged}
use Rattle.spec_calc.specs.declared.Reading.{Reading}
use Rattle.spec_calc.specs.Readings.{GoneBad}
use Rattle.spec_rule.specs.declared.Access.{Access}
use Rattle.spec_rule.specs.Question.{Question, reading_instead}
use Rattle.spec_rule.specs.Rule.{rank}
use Rattle.spec_file.specs.Acceptance.{TextReads}
use Rattle.spec_load.specs.Load.{load}
use Rattle.spec_decision.specs.Decision.{access_in, decide}
use Rattle.spec_edition.specs.Edition.{Edition, Later, SaysNo}
use Rattle.spec_demand.specs.Calls.{Call, load_text, is_accepted, NoAcceptedLoad}
use Rattle.api_script.specs.declared.Asked.{Asked}
use Rattle.api_script.specs.Replies.{Lent, left_by, left_by_calls}

-- Of what is lent for writing, a text, the calls between, a question, what was lent afterwards and what was answered.
pub record NeverMore (lent : Lent) (s : List ℕ) (between : List Call) (q : Question) (after : Lent) (r : Asked) : Type 0 where
  -- each call is the one that the definitions say
  pub loaded : r.loaded ≡ (load lent.table s).answer
  pub left : after ≡ left_by_calls (left_by lent (load_text s)) between
  pub answer : r.answer ≡ decide after.table q
  -- what we don't know never gives more access: whichever readings went bad before the question was asked, the access is at most that of the
  -- readings as they were, in every edition; and it is exactly that of an edition that says no to every unknown predicate, with the same readings
  pub never_more :
      is_accepted r.loaded ≡ true
      → (xs : List Tagged) → TextReads s xs
      → NoAcceptedLoad (load lent.table s).bytes between
      → (e : Edition) (later : Access)
      → ((were : List Reading) → GoneBad were q.readings → Later e xs (reading_instead q were) later → rank (access_in r.answer) ≤ rank later)
      × (SaysNo e q xs → Later e xs q later → access_in r.answer ≡ later)
