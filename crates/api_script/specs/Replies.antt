-- What each call answers and leaves, as the definitions say.
use Rattle.std.specs.Prelude.{◌≡◌, not, List, [], ◌∷◌, ℕ, length}
use Rattle.spec_lists.specs.Select.{missing}
use Rattle.spec_calc.specs.Value.{worth}
use Rattle.spec_calc.specs.Reader.{tree_of}
use Rattle.spec_rule.specs.Rule.{true_tree}
use Rattle.spec_table.specs.Check.{is_table}
use Rattle.spec_table.specs.View.{view}
use Rattle.spec_load.specs.Load.{load}
use Rattle.spec_load.specs.Listing.{Listing, listing}
use Rattle.spec_decision.specs.Decision.{decide}
use Rattle.spec_decision.specs.LookUp.{look_up, part_in}
use Rattle.spec_decision.specs.Walk.{group_at}
use Rattle.spec_export.specs.Unwritable.{text_in}
use Rattle.spec_export.specs.Export.{exported, left}
use Rattle.spec_demand.specs.Calls.{Call, load_text, list_warnings, check_table, ask, ask_checked, find_input, find_input_checked, look_up_name, find_group}
use Rattle.spec_demand.specs.Calls.{export_text, allow, calculate, hold}
use Rattle.api_script.specs.declared.Reply.{Reply}
use Rattle.api_script.specs.declared.Reply.TheVariants as reply

-- Of the table's bytes and a call. How many warnings there are does not depend on the room for their list. A `_checked` call is made where
-- is_table has said yes, else answered as not a table; so it answers what the other does.
abbrev pub answer_to : List ℕ → Call → Reply
answer_to b (load_text s) = reply.Loaded (load b s).answer
answer_to b (list_warnings s skip) = reply.Listed (listing skip [] [] s).answer
answer_to b check_table = reply.Checked (is_table b)
answer_to b (ask q) = reply.Answered (decide b q)
answer_to b (ask_checked q) = reply.Answered (decide b q)
answer_to b (find_input g letter) = reply.Found (look_up b g letter)
answer_to b (find_input_checked g letter) = reply.Found (look_up b g letter)
answer_to b (look_up_name g letter) = reply.Named (length (part_in (look_up b g letter) b))
answer_to b (find_group n) = reply.Found (group_at b n)
answer_to b (export_text n) = reply.Exported (exported n b)
answer_to b (allow s) = reply.Allowed (not (missing (tree_of s)))
answer_to b (calculate s rs) = reply.Valued (worth rs (tree_of s))
answer_to b (hold s rs) = reply.Holds (true_tree rs (tree_of s))

-- ---- what is lent

-- what a program lends for writing: the bytes of the table, the two arrays for warnings, and the bytes for a text
pub record Lent : Type 0 where
  pub table : List ℕ
  pub numbers : List ℕ
  pub places : List ℕ
  pub text : List ℕ

abbrev pub lent_of : List ℕ → List ℕ → List ℕ → List ℕ → Lent
lent_of t n p x = record { table = t; numbers = n; places = p; text = x }

abbrev pub with_list : Lent → Listing → Lent
with_list l w = lent_of l.table w.numbers w.places l.text

-- all of it after a call: a load writes the table, a list of warnings the arrays, an export the text, and nothing else writes
abbrev pub left_by : Lent → Call → Lent
left_by l (load_text s) = lent_of (load l.table s).bytes l.numbers l.places l.text
left_by l (list_warnings s skip) = with_list l (listing skip l.numbers l.places s)
left_by l check_table = l
left_by l (ask q) = l
left_by l (ask_checked q) = l
left_by l (find_input g letter) = l
left_by l (find_input_checked g letter) = l
left_by l (look_up_name g letter) = l
left_by l (find_group n) = l
left_by l (export_text n) = lent_of l.table l.numbers l.places (left l.text (text_in (view l.table)) (exported n l.table))
left_by l (allow s) = l
left_by l (calculate s rs) = l
left_by l (hold s rs) = l

abbrev pub left_by_calls : Lent → List Call → Lent
left_by_calls l [] = l
left_by_calls l (c ∷ cs) = left_by_calls (left_by l c) cs

-- a call was made: its answer, and what was lent afterwards
pub record Made (lent : Lent) (c : Call) (after : Lent) (r : Reply) : Type 0 where
  pub answer : r ≡ answer_to lent.table c
  pub left : after ≡ left_by lent c
