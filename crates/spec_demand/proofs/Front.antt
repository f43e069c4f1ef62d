-- THE FRONT PAGE, proved: what specs/Front.antt states of each demand holds, and so does each sentence that needs no definition of its own.
use Rattle.std.specs.Prelude.{◌≡◌, refl, true, ◌↔◌, ℕ, ◌≤◌, ◌<◌, Float, length}
use mathlib.Core.List.{List, [], ◌∷◌, ◌++◌, map}
use Rattle.std.proofs.Math.Option.{Option, none, some}
use Rattle.spec_calc.specs.declared.Worth.TheVariants.{BadBy, BadByArithmetic, Is}
use Rattle.spec_rule.specs.declared.Access.{Access}
use Rattle.spec_rule.specs.declared.Access.TheVariants as access
use Rattle.spec_rule.specs.declared.Stop.TheVariants.{Letter}
use Rattle.spec_rule.specs.declared.Decision.{Decision}
use Rattle.spec_file.specs.declared.Refusal.TheVariants.{UndefinedGroup}
use Rattle.spec_decision.specs.declared.Answer.TheVariants.{Answered}
use Rattle.spec_demand.specs.Vocabulary.{Every, Tagged, Reading, tree_of}
use Rattle.spec_demand.specs.Vocabulary.{Question, reading_instead, with_roles, Valid, rank}
use Rattle.spec_demand.specs.Vocabulary.{file_of, contexts, Applies}
use Rattle.spec_demand.specs.Vocabulary.{TextReads, Acceptable, view, table_of}
use Rattle.spec_demand.specs.Vocabulary.{access_in, decide, Edition, Later, NamesInput}
use Rattle.spec_demand.specs.Vocabulary.{after_call, ProvedCases, ArithmeticCases, RoleCases}
use Rattle.spec_demand.specs.Vocabulary.{no_access, Answers, Sized}
use Rattle.spec_demand.specs.Vocabulary.{Gateway, RegisterCall, load_again}
use Rattle.spec_demand.specs.Vocabulary.{after_calls, refused_with, begun}
use Rattle.spec_demand.specs.Vocabulary.{Lent, lent, places_bytes, all_readings, zeroed, right_in, left, left_by_calls, told, Agrees, TooShort, on_table}
use Rattle.spec_demand.specs.Vocabulary.{NeverMoreToClients}
use Rattle.spec_demand.specs.Vocabulary.{calculation_holds, Some, YieldsTrue, FiniteValues, GivesOnFiniteValues, access_groups, name, rules_of}
use Rattle.spec_demand.specs.Vocabulary.{NamesUndefined, GroupsDefined, references, number_field, GroupCases}
use Rattle.spec_demand.specs.Vocabulary.{empty, GoodFile, InForce, Turn, LentInForce, register_after, over, left_by_turns, NeverMoreInRooms}
use Rattle.spec_demand.specs.Vocabulary.{worth, ComesTo, IsBadBy, IsBadByArithmetic, Tells, rule_in, LetterCases}
use Rattle.spec_demand.specs.Vocabulary.{TextCases}
use Rattle.spec_demand.specs.Front.{Total, Exact, NeverMoreAccess, Registered, Walked, WrittenBack}
use Rattle.spec_demand.proofs.laws.Cited as proved

-- DEMAND 1
pub demand_1 : Total
demand_1 =
    record {
      load_refusals = proved.refused_load_numbered;
      listing_refusals = proved.refused_listing_numbered;
      question_refusals = proved.refused_question_numbered;
      look_up_refusals = proved.refused_look_up_empty;
      refused_call = proved.refused_call_leaves;
      refused_question = proved.refused_grants_nothing;
      zeros = proved.zeros_grant_nothing;
    }

-- DEMAND 2
pub demand_2 : Exact
demand_2 =
    record {
      either = proved.acceptable_or_refusable;
      never_both = proved.never_acceptable_and_refusable;
      one_meaning = proved.one_reading;
      one_refusal = proved.one_refusal;
      places_ascend = proved.places_ascend;
      tokens_stand = proved.tokens_stand;
      causes = proved.cause_among;
      cause_numbers = refl;
      turns = proved.number_at_turn;
      earliest = proved.earliest;
      refused = proved.refused_load;
      table = proved.laid_down;
      no_room = proved.not_laid_down;
      warned = proved.warned_exactly;
      by_place = proved.warnings_by_place;
      list = proved.accepted_listing;
      refused_list = proved.refused_listing;
      tables = proved.table_is;
      calculations = λ s t. (proved.parses_sound s t, proved.parses_complete s t);
      greatest = proved.table_total;
      table_stands = proved.stands;
      not_table = proved.not_table_is;
      bad_level = proved.bad_level_is;
      bad_roles = proved.bad_roles_is;
      by_table = proved.by_table_is;
      by_file = proved.by_file_is;
      no_table_found = proved.no_table_found_is;
      part_found = proved.part_found_is;
      no_input_found = proved.no_input_found_is;
      inputs = proved.input_is;
      letter_over = proved.letter_over;
    }

-- DEMAND 3
pub demand_3 : NeverMoreAccess
demand_3 = proved.never_more

-- each edition gives each question an access, so that demand 3 speaks of all
pub edition_gives : (e : Edition) (xs : List Tagged) (q : Question) → (later : Access) × Later e xs q later
edition_gives = proved.edition_gives

-- 01, "Proved and run cases", the list that is proved
pub cases : ProvedCases
cases = proved.proved_cases

-- REQUEST 1. A register for the gateway: Registered,
-- of any gateway whose register has these sizes, and whose clients have names and levels that an add takes
registered : (g : Gateway) → Sized g.register → proved.AllFit g.register → Registered g
registered g s fit =
    record {
      sizes = s;
      added_lowest = λ c. proved.added_lowest g c s;
      removed_only = proved.removed_only g;
      changed_only = proved.changed_only g;
      right_answers = proved.right_answers g fit;
      answering_readings = proved.answering_readings g.table g.register;
      set_only = λ n letter x h. proved.set_only g n letter x h s;
      loads = λ s. (refl, proved.load_answers g s);
      table_stays = proved.table_stays g;
      loaded_unheard = proved.loaded_unheard g;
      reading_stays = proved.reading_stays g;
      client_stays = proved.client_stays g;
      no_table_right = proved.no_table_right g;
      free_right = proved.free_right g;
      beyond_right = λ p. proved.beyond_right g p s;
      add_refused = λ o c. proved.add_refused g o s c;
      change_refused = proved.change_refused g;
      remove_refused = proved.remove_refused g;
      set_refused = proved.set_refused g;
      set_letter_over = proved.set_letter_over g;
      refused_leaves = proved.refused_leaves_gateway g;
      changed_bits = proved.answered_is g;
    }

-- "After each call of any sequence from an empty register with every reading never heard, nobody else writing it or the table"
pub register : (t : List ℕ) (cs : List RegisterCall) → Registered (after_calls (begun t) cs)
register t cs = registered (after_calls (begun t) cs) (proved.sized t cs) (proved.clients_fit t cs)

-- The same of lent storage. What the calls leave there and tell is what their contracts say (left, told), and what the look at a place answers (right_in).
-- From zeros on, each call made on what the one before it left, so that nobody else writes register or table, the storage is that gateway: its table,
-- clients and readings, each right, each next answer.
pub register_stored :
    (t : List ℕ) (n m : ℕ) (v : List Float) → places_bytes ≤ n → all_readings ≤ m → all_readings ≤ length v
    → (cs : List RegisterCall) → Agrees (left_by_calls (zeroed t n m v) cs) (after_calls (begun t) cs)
register_stored = proved.follows

-- and of any bytes lent for a register and a table: a refused call leaves each of them
pub register_refused : (s : Lent) (c : RegisterCall) (n : ℕ) → refused_with (told s c) ≡ some n → left s c ≡ s
register_refused = proved.refused_leaves

-- of bytes too short for a register: no right, and 34 for each call that needs the slice
pub register_short_right : (s : Lent) (p : ℕ) → length s.places < places_bytes → right_in s.places p ≡ no_access
register_short_right s = proved.short_right s.places

pub register_too_short : (s : Lent) (c : RegisterCall) → (refused_with (told s c) ≡ some 34) ↔ TooShort s c
register_too_short = proved.too_short

-- A call that is no load goes by the table and not by what stands behind it. So it may be lent the table's own bytes, as the C interface lends them, where the
-- load was lent more room.
pub register_behind :
    (s : List ℕ) (xs : List Tagged) → Acceptable s xs → (rest rest' places states : List ℕ) (values : List Float)
    → let one = lent (table_of (file_of xs) ++ rest) places states values in
    let other = lent (table_of (file_of xs) ++ rest') places states values in
    (c : RegisterCall) → ((text : List ℕ) → c ≡ load_again text → ⊥)
    → (told one c ≡ told other c)
    × ((left one c).places ≡ (left other c).places)
    × ((left one c).states ≡ (left other c).states)
    × ((left one c).values ≡ (left other c).values)
register_behind = proved.register_behind

-- A table may be loaded again into another room than the one in which it stands, so that questions go on with the old one meanwhile. Where both have the
-- bytes that it needs, an accepted load tells the same and leaves the same of the register; the next calls are lent the new room, and by register_behind go by
-- the table in it. A refused load leaves both rooms, by register_refused.
pub reload_elsewhere :
    (s : List ℕ) (xs : List Tagged) → Acceptable s xs → (room room' places states : List ℕ) (values : List Float)
    → length (table_of (file_of xs)) ≤ length room → length (table_of (file_of xs)) ≤ length room'
    → let one = lent room places states values in
    let other = lent room' places states values in
    (told one (load_again s) ≡ told other (load_again s))
    × ((left one (load_again s)).places ≡ (left other (load_again s)).places)
    × ((left one (load_again s)).states ≡ (left other (load_again s)).states)
    × ((left one (load_again s)).values ≡ (left other (load_again s)).values)
reload_elsewhere = proved.reload_elsewhere

-- So a gateway may keep its table now in one room and now in another. A load is lent any room, every other call the table in force, whatever stands behind it,
-- and before the first accepted load bytes that are no table. From zeros on, the storage over whatever bytes stand for the table is the gateway that these
-- calls make, and each sentence of the ticket holds of it;
pub register_in_rooms :
    (n m : ℕ) (v : List Float) → places_bytes ≤ n → all_readings ≤ m → all_readings ≤ length v
    → (turns : List Turn) (now : Option GoodFile) → LentInForce none turns now
    → (b : List ℕ) → InForce now b
    → let g : Gateway = record { table = b; register = register_after empty turns } in
    Agrees (over b (left_by_turns (zeroed [] n m v) turns)) g × Registered g
register_in_rooms n m v hn hm hv turns now l b i = (
  proved.in_rooms n m v hn hm hv l b i,
  registered (record { table = b; register = register_after empty turns }) (proved.turns_sized turns) (proved.turns_fit turns),
)

-- and so does demand 3, of each client and by the file in force.
pub demand_3_in_rooms : NeverMoreInRooms
demand_3_in_rooms = proved.never_more_in_rooms

-- A register's calls may come between in demand 3: each leaves of the table what a call of the library does, its load what a load does.
pub register_on_table : (s : Lent) (c : RegisterCall) → (left s c).table ≡ after_call s.table (on_table s c)
register_on_table = proved.register_on_table

-- "Demand 3 is read for each standing client": from the text to the right that is read from the storage.
pub demand_3_of_clients : NeverMoreToClients
demand_3_of_clients = proved.never_more_to_clients

-- THE WALK
pub walk : Walked
walk =
    record {
      no_table = proved.no_table_walked_is;
      group = proved.group_walked_is;
      no_group = proved.no_group_walked_is;
      refusals = proved.refused_walk_empty;
      inside = proved.walked_inside;
      name = proved.walked_name;
      by_file = proved.groups_by_file;
      reaches = λ b n g a. (proved.answering_member b n g a, proved.answering_inputs b n g a, proved.answering_named b n g a);
    }

-- REQUEST 2. Roles: "a UAG member beginning `role/` matches a client one of whose roles equals the rest of it. [..] Demands 2 and 3 take the roles as part
-- of the question." So they do above: which members match a client is MatchesClient, in DeterminedByTable and DeterminedByFile.
-- "Removing a role from a valid question never raises its access.": on any bytes, whichever of its roles is removed; and the question stays valid
pub removing_a_role_never_raises :
    (b : List ℕ) (q : Question) → Valid q → (before : List (List ℕ)) (role : List ℕ) (behind : List (List ℕ)) → q.roles ≡ before ++ (role ∷ behind)
    → let less = with_roles q (before ++ behind) in Valid less × (rank (access_in (decide b less)) ≤ rank (access_in (decide b q)))
removing_a_role_never_raises b q v before role behind e = proved.role_removed q v before role behind e b

-- 001's example of a role, what its member does not match, and the limits
pub role_cases : RoleCases
role_cases = proved.role_cases

-- REQUEST 3. Still ground, zero over zero: "An infinite or not-a-number value of any evaluated part makes the whole calculation false; both sides of `&&`
-- and `||` are evaluated, the branch not chosen isn't [..]. Demands 2 and 3 read this definition." So they do above: when a calculation is true is
-- YieldsTrue, in DeterminedByTable, DeterminedByFile and Later. The function that decides agrees with it:
pub true_exactly : (rs : List Reading) (s : List ℕ) → (calculation_holds rs (some s) ≡ true) ↔ YieldsTrue rs s
true_exactly = proved.calculation_is

-- if a calculation is true, every value that was evaluated is finite
pub true_on_finite_values : (rs : List Reading) (s : List ℕ) → calculation_holds rs (some s) ≡ true → FiniteValues rs s
true_on_finite_values = proved.true_finite

-- so that on any bytes, whatever is granted is granted by a rule of the answering group all of whose evaluated values are finite
pub granted_on_finite_values :
    (b : List ℕ) (q : Question) (d : Decision) → decide b q ≡ Answered d → (d.access ≡ access.None → ⊥)
    → (g : List ℕ)
    × Answers (name (view b) access_groups) q.group ((view b).records access_groups) (some g)
    × Some (GivesOnFiniteValues q d.access) (rules_of (view b) g)
granted_on_finite_values = proved.granted_on_finite_values

-- the ticket's examples, and what 01 alone would have called true
pub arithmetic_cases : ArithmeticCases
arithmetic_cases = proved.arithmetic_cases

-- REQUEST 4. Misspelt groups: "A group named in a rule must be defined somewhere in the file. Warning 3 goes [..]. Demands 2 and 3 take the new condition.
-- Refusals: 12 undefined group, at its first name in a rule, after 7 and before 8." So they do above: undefined_group is one of the causes, in Acceptable and
-- Refusable, and demand 3 is of accepted loads. It has a cause at each name of an undefined group in a rule, and at no other token, so that the earliest of
-- these names is the place of 12;
pub undefined_exactly : (xs : List Tagged) → Every (λ c. Applies c UndefinedGroup ↔ NamesUndefined (file_of xs) c.here) (contexts xs)
undefined_exactly = proved.undefined_exactly

-- and in a file of the grammar it has none exactly if each group that a rule of the file names is defined
pub defined_exactly :
    {s : List ℕ} {xs : List Tagged} → TextReads s xs → Every (λ c. Applies c UndefinedGroup → ⊥) (contexts xs) ↔ GroupsDefined (file_of xs)
defined_exactly {xs = xs} = proved.defined_exactly xs

-- "A table with number 65,535 is still a table.": it is so above (Table), and such a reference has no members (DeterminedByTable); but no load makes one
pub numbers_given :
    (s : List ℕ) (xs : List Tagged) → Acceptable s xs → (rest : List ℕ)
    → Every (λ row. number_field row ≡ 65535 → ⊥) ((view (table_of (file_of xs) ++ rest)).records references)
numbers_given = proved.numbers_given

-- `Lift` for `lift`, what counts as defined, the order and the place; and a table with that number
pub group_cases : GroupCases
group_cases = proved.group_cases

-- REQUEST 5. Which reading stopped me: "The calculation's answer shall be a value, or bad with the lowest letter in its text whose reading is bad, or, with none
-- such, bad by arithmetic." Of the function that the code is proved to be:
pub worth_exactly :
    (rs : List Reading) (s : List ℕ)
    → ((x : Float) → (worth rs (tree_of s) ≡ Is x) ↔ ComesTo rs s x)
    × ((i : ℕ) → (worth rs (tree_of s) ≡ BadBy i) ↔ IsBadBy rs s i)
    × ((worth rs (tree_of s) ≡ BadByArithmetic) ↔ IsBadByArithmetic rs s)
worth_exactly rs s = (proved.comes_to_is rs s, proved.bad_by_is rs s, proved.bad_by_arithmetic_is rs s)

-- "The decision passes on the letter [..]. Demand 2 covers it.": so it does above, by_table and by_file. What it tells a fitter, by any table and by the file of
-- a loaded one: if the letter i is given, then with any readings that make the calculation of that rule true, among them those, if any, that differ from the
-- question's at i alone, the access would be at least that rule's permission, which is above the access answered.
pub letter_tells :
    (b : List ℕ) (q : Question) (d : Decision) (i : ℕ) → decide b q ≡ Answered d → d.letter ≡ Letter i
    → Tells (name (view b) access_groups) (rules_of (view b)) ((view b).records access_groups) q d i (λ rs. access_in (decide b (reading_instead q rs)))
letter_tells = proved.tells_by_table

pub letter_tells_by_file :
    (s : List ℕ) (xs : List Tagged) → Acceptable s xs → (rest : List ℕ) (q : Question) (d : Decision) (i : ℕ)
    → let b = table_of (file_of xs) ++ rest in
    decide b q ≡ Answered d → d.letter ≡ Letter i
    → Tells (λ a. a.name) (λ a. map (rule_in (file_of xs)) a.rules) (file_of xs).asgs q d i (λ rs. access_in (decide b (reading_instead q rs)))
letter_tells_by_file = proved.tells_by_file

-- "A fitter who is refused wants the channel to look at.": on a loaded table that letter has an input in the group that answers, so that the look-up
-- (demand 2: inputs) has a process variable's name for it
pub letter_named :
    (s : List ℕ) (xs : List Tagged) → Acceptable s xs → (rest : List ℕ) (q : Question) (d : Decision) (i : ℕ)
    → decide (table_of (file_of xs) ++ rest) q ≡ Answered d → d.letter ≡ Letter i → (n : List ℕ) × NamesInput (file_of xs) q.group i n
letter_named = proved.letter_named

-- the lowest letter, and which rules it is of; 01's three answers stand among its own cases
pub letter_cases : LetterCases
letter_cases = proved.letter_cases

-- REQUEST 6. Write the rules back as text
pub written_back : WrittenBack
written_back =
    record {
      no_table = proved.exported_not_table;
      unwritable = proved.exported_unwritable;
      no_room = proved.exported_no_room;
      text = proved.exported_text;
      either = proved.unwritable_or_not;
      exactly_27 = proved.exactly_27;
      refused = proved.refused_export;
      greatest = proved.text_short;
      loaded_27 = proved.loaded_unwritable;
      comes_back = proved.comes_back;
    }

-- the ticket's lines, and the order of the refusals
pub text_cases : TextCases
text_cases = proved.text_cases
