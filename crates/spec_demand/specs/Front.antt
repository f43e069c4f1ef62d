-- THE FRONT PAGE. Each demand in its words, and one statement for each. What these need to be understood are the definitions
-- that they name; docs/REVIEW.md says which sentence of the papers each of those states. That each holds is proved in proofs/Front.antt, in the same order,
-- where the sentences stand that need no definition of their own.
use Rattle.std.specs.Prelude.{◌≡◌, true, false, ◌↔◌, ◌⊎◌, ℕ, ◌+◌, ◌≤◌, ◌<◌, length, take, drop, get_or, replicate}
use mathlib.Core.List.{List, [], ◌∷◌, ◌++◌, map, Memᴰ}
use Rattle.std.proofs.Math.Option.{Option, none, some}
use Rattle.spec_calc.specs.declared.Reading.TheVariants.{NeverHeard}
use Rattle.spec_rule.specs.declared.Access.{Access}
use Rattle.spec_rule.specs.declared.Access.TheVariants as access
use Rattle.spec_rule.specs.declared.Stop.TheVariants.{Nothing}
use Rattle.spec_rule.specs.declared.Decision.{Decision}
use Rattle.spec_file.specs.declared.Refusal.TheVariants.{StringTooLong, TooMany, GivenAgain, UndefinedGroup, UnknownWord, BadCalculation}
use Rattle.spec_file.specs.declared.Refusal.TheVariants as refusal
use Rattle.spec_load.specs.declared.Loaded.TheVariants as loaded
use Rattle.spec_register.specs.declared.Added.TheVariants as added
use Rattle.spec_load.specs.declared.Listed.TheVariants as listed
use Rattle.spec_decision.specs.declared.Answer.TheVariants.{Answered, NotTable, BadLevel, BadRoles}
use Rattle.spec_export.specs.declared.Exported.TheVariants as exported
use Rattle.spec_decision.specs.declared.Found.{Found}
use Rattle.spec_decision.specs.declared.Found.TheVariants as found
use Rattle.spec_demand.specs.Vocabulary.{Every, Token, Spelled, Ascending, StandsIn, greatest_letter, Tagged, Reading, Tree, Parses, tree_of, GoneBad}
use Rattle.spec_demand.specs.Vocabulary.{Question, reading_instead, RolesFit, Valid, rank, greatest_level, Refusal}
use Rattle.spec_demand.specs.Vocabulary.{refusal_number, turn, place, file_of, Context, contexts, Applies}
use Rattle.spec_demand.specs.Vocabulary.{TextReads, Caused, Acceptable, Refusable, Warned, warnings, Given, Table, is_table, total_of, view, table_of}
use Rattle.spec_demand.specs.Vocabulary.{greatest_table, written, without_room, load, warnings_written, listing, look_up, look_up_number, part_in}
use Rattle.spec_demand.specs.Vocabulary.{number, access_in, trap_in, decide, DeterminedByTable, DeterminedByFile, Edition, Later, SaysNo, NamesInput, FindsInput}
use Rattle.spec_demand.specs.Vocabulary.{Call, after_call, is_accepted, NoAcceptedLoad, Told, refusal_of}
use Rattle.spec_demand.specs.Vocabulary.{Memory, Storage, bytes_in, Step, calls_of, Made, NobodyElseWrites}
use Rattle.spec_demand.specs.Vocabulary.{no_access, Answers, Numbered, groups_of, group_name, Client, most_clients, client_at, readings_at, Sized}
use Rattle.spec_demand.specs.Vocabulary.{question_now, Gateway, RegisterCall, add, change, remove, set_reading, load_again, after}
use Rattle.spec_demand.specs.Vocabulary.{after_calls, right_at, changed_in, answer, client_added, table_loaded, reloaded_as, refused_with}
use Rattle.spec_demand.specs.Vocabulary.{NotRefused, EachDone, Free, LowestFree, OnlyPlace, SparesClient, reading_at, OnlyReading, Named, NoLoad}
use Rattle.spec_demand.specs.Vocabulary.{SparesReading, FirstApplies, add_causes, change_causes, remove_causes, set_causes, bit_of}
use Rattle.spec_demand.specs.Vocabulary.{NamesGroup, group_at}
use Rattle.spec_demand.specs.Vocabulary.{letter_in}
use Rattle.spec_demand.specs.Vocabulary.{text_in, Unwritable, export, export_number, DefinesNothing, Alike}

-- DEMAND 1. Total: no file, table, name, level or reading makes it index outside, trap or run on. A refusal carries a number, a load's
-- also a place. A refused load leaves the table byte for byte, a refused question answers NONE without trap, a buffer of zeros grants nothing.
-- 02, ticket 5: a refused question has no letter.
--
-- Every definition is a function of all texts, bytes and questions: each has an answer. That the code gives this answer, in bounds and
-- without fail, is what its contracts prove. The rest of the demand:
pub record Total : Type 0 where
  -- 1 to 10 or 12 at a place in the text or at its end; or 11 and the bytes needed, more than were lent
  pub load_refusals :
      (lent s : List ℕ) (r : Refusal) (p : ℕ) → (load lent s).answer ≡ loaded.Refused r p
      → ((((1 ≤ refusal_number r) × (refusal_number r ≤ 10)) ⊎ (refusal_number r ≡ 12)) × (p ≤ length s))
      ⊎ ((refusal_number r ≡ 11) × (length lent < p) × (p ≤ greatest_table))
  pub listing_refusals :
      (skip : ℕ) (numbers places s : List ℕ) (r : Refusal) (p : ℕ) → (listing skip numbers places s).answer ≡ listed.Refused r p
      → (((1 ≤ refusal_number r) × (refusal_number r ≤ 10)) ⊎ (refusal_number r ≡ 12)) × (p ≤ length s)
  pub question_refusals : (b : List ℕ) (q : Question) (n : ℕ) → number (decide b q) ≡ some n → (n ≡ 20) ⊎ (n ≡ 21) ⊎ (n ≡ 26)
  pub look_up_refusals :
      (b g : List ℕ) (letter n : ℕ) → look_up_number (look_up b g letter) ≡ some n → ((n ≡ 20) ⊎ (n ≡ 22)) × (part_in (look_up b g letter) b ≡ [])
  -- every call of the library but a register's, a load among them, if it is refused; of a register's see register_refused
  pub refused_call : (b : List ℕ) (c : Call) (t : Told) → refusal_of b c ≡ some t → after_call b c ≡ b
  pub refused_question :
      (b : List ℕ) (q : Question) (n : ℕ) → number (decide b q) ≡ some n
      → (access_in (decide b q) ≡ access.None) × (trap_in (decide b q) ≡ false) × (letter_in (decide b q) ≡ Nothing)
  pub zeros : (n : ℕ) (q : Question) → let a = decide (replicate n 0) q in (access_in a ≡ access.None) × (trap_in a ≡ false) × (letter_in a ≡ Nothing)

-- DEMAND 2. Exact: a file is accepted exactly when the ACF grammar and the stated limits allow it, its table is the one laid down, and each
-- question gets the access and trap flag of the EPICS rules, with silent, invalid and non-finite readings counted as bad. 02, ticket 5: and the letter.
pub record Exact : Type 0 where
  -- ---- Which files. Tokens are 01's sentences, the grammar is 001's productions, the limits are the refusals' causes; no reader stands in them.
  pub either : (s : List ℕ) → ((xs : List Tagged) × Acceptable s xs) ⊎ ((r : Refusal) × (p : ℕ) × Refusable s r p)
  pub never_both : {s : List ℕ} {xs : List Tagged} {r : Refusal} {p : ℕ} → Acceptable s xs → Refusable s r p → ⊥
  pub one_meaning : {s : List ℕ} {xs ys : List Tagged} → Acceptable s xs → Acceptable s ys → xs ≡ ys
  pub one_refusal : {s : List ℕ} {r q : Refusal} {p o : ℕ} → Refusable s r p → Refusable s q o → (r ≡ q) × (p ≡ o)
  -- a token's text stands in the file at its place, and places ascend, so that "the earliest place" means that
  pub places_ascend : {s : List ℕ} {ts : List Token} → Spelled s ts → Ascending (map (λ t. t.place) ts)
  pub tokens_stand : {s : List ℕ} {ts : List Token} → Spelled s ts → Every (StandsIn s) ts
  -- the causes at tokens, their numbers, and the order in which all are judged: the turn is a number's place in it
  pub causes :
      {c : Context} {r : Refusal} → Applies c r
      → Memᴰ r (StringTooLong ∷ TooMany ∷ GivenAgain ∷ UndefinedGroup ∷ refusal.BadLevel ∷ UnknownWord ∷ BadCalculation ∷ [])
  pub cause_numbers :
      map refusal_number (StringTooLong ∷ TooMany ∷ GivenAgain ∷ UndefinedGroup ∷ refusal.BadLevel ∷ UnknownWord ∷ BadCalculation ∷ [])
      ≡ 5 ∷ 6 ∷ 7 ∷ 12 ∷ 8 ∷ 9 ∷ 10 ∷ []
  pub turns : (r : Refusal) → get_or (1 ∷ 2 ∷ 3 ∷ 4 ∷ 5 ∷ 6 ∷ 7 ∷ 12 ∷ 8 ∷ 9 ∷ 10 ∷ 11 ∷ []) (turn r) 0 ≡ refusal_number r
  pub earliest :
      {s : List ℕ} {xs : List Tagged} {r : Refusal} {p : ℕ} → TextReads s xs → Caused xs r p
      → Every (λ c. Applies c r → p ≤ place c.here) (contexts xs)
  -- ---- What a load does with them.
  pub refused : (lent s : List ℕ) (r : Refusal) (p : ℕ) → Refusable s r p → load lent s ≡ record { answer = loaded.Refused r p; bytes = lent }
  pub table : (lent s : List ℕ) (xs : List Tagged) → Acceptable s xs → length (table_of (file_of xs)) ≤ length lent → load lent s ≡ written lent xs
  pub no_room : (lent s : List ℕ) (xs : List Tagged) → Acceptable s xs → length lent < length (table_of (file_of xs)) → load lent s ≡ without_room lent xs
  -- its warnings: 1 and 2 as 01 names them and no others, by place; the list of them is refused as the load is
  pub warned : (xs : List Tagged) (w : Warned) → Memᴰ w (warnings xs) ↔ Given xs w
  pub by_place : {s : List ℕ} {xs : List Tagged} → TextReads s xs → Ascending (map (λ w. w.place) (warnings xs))
  pub list :
      (skip : ℕ) (numbers places s : List ℕ) (xs : List Tagged) → Acceptable s xs → listing skip numbers places s ≡ warnings_written skip numbers places xs
  pub refused_list :
      (skip : ℕ) (numbers places s : List ℕ) (r : Refusal) (p : ℕ) → Refusable s r p
      → listing skip numbers places s ≡ record { answer = listed.Refused r p; numbers = numbers; places = places }
  -- ---- Which slices are tables; a calculation is what the productions of 01's levels derive.
  pub tables : (b : List ℕ) → (is_table b ≡ true) ↔ Table b
  pub calculations : (s : List ℕ) (t : Tree) → (tree_of s ≡ some t) ↔ Parses s t
  pub greatest : (b : List ℕ) → Table b → total_of b ≤ greatest_table
  pub table_stands :
      (s : List ℕ) (xs : List Tagged) → Acceptable s xs → (rest : List ℕ)
      → Table (table_of (file_of xs) ++ rest) × (length (table_of (file_of xs)) ≤ greatest_table)
  -- ---- Which answers: 20, then 21, then 26, then the decision of 001's three steps, by any table and by the file of a loaded one. A decision is access, trap
  -- and letter; when it has which letter, over the rules of the group, is Chosen in DeterminedByTable and DeterminedByFile.
  pub not_table : (b : List ℕ) (q : Question) → (decide b q ≡ NotTable) ↔ (Table b → ⊥)
  pub bad_level : (b : List ℕ) (q : Question) → (decide b q ≡ BadLevel) ↔ (Table b × (greatest_level < q.level))
  pub bad_roles : (b : List ℕ) (q : Question) → (decide b q ≡ BadRoles) ↔ (Table b × (q.level ≤ greatest_level) × (RolesFit q.roles → ⊥))
  pub by_table : (b : List ℕ) (q : Question) (d : Decision) → (decide b q ≡ Answered d) ↔ (Table b × Valid q × DeterminedByTable (view b) q d)
  pub by_file :
      (s : List ℕ) (xs : List Tagged) → Acceptable s xs → (rest : List ℕ) (q : Question) (d : Decision)
      → (decide (table_of (file_of xs) ++ rest) q ≡ Answered d) ↔ (Valid q × DeterminedByFile (file_of xs) q d)
  -- The look-up: 20, then the part that holds the name of the letter's first input, or 22. Of a loaded table it is the name that the file gives.
  pub no_table_found : (b g : List ℕ) (letter : ℕ) → (look_up b g letter ≡ found.NotTable) ↔ (Table b → ⊥)
  pub part_found : (b g : List ℕ) (letter at n : ℕ) → (look_up b g letter ≡ found.Part at n) ↔ (Table b × FindsInput b g letter (found.Part at n))
  pub no_input_found : (b g : List ℕ) (letter : ℕ) → (look_up b g letter ≡ found.NoInput) ↔ (Table b × ((p : Found) → FindsInput b g letter p → ⊥))
  pub inputs :
      (s : List ℕ) (xs : List Tagged) → Acceptable s xs → (rest g : List ℕ) (letter : ℕ) (n : List ℕ)
      → let b = table_of (file_of xs) ++ rest in
      ((look_up_number (look_up b g letter) ≡ none) × (part_in (look_up b g letter) b ≡ n)) ↔ NamesInput (file_of xs) g letter n
  pub letter_over : (b : List ℕ) → Table b → (g : List ℕ) (letter : ℕ) → greatest_letter < letter → look_up b g letter ≡ found.NoInput

-- DEMAND 3. What we don't know never opens a door: from the text of a file to the access at every question, against every later edition,
-- whichever readings went bad, through any sequence of calls between; and where the edition says no to every unknown predicate, with the
-- same readings, access is exactly equal.
--
-- The load leaves its table in the memory of a program; then come calls, each any of the library's but a register's (of which see register_on_table), and
-- none an accepted load. Nobody else writes the table: what a call is lent for writing is apart from it. The question is asked on what stands there now.
abbrev pub NeverMoreAccess : Type 0
NeverMoreAccess =
    (lent s : List ℕ) → is_accepted (load lent s).answer ≡ true
    → (xs : List Tagged) → TextReads s xs
    → (table : Storage) (loaded : Memory) → bytes_in loaded table ≡ (load lent s).bytes
    → (between : List Step) → Every (Made table) between → NoAcceptedLoad (load lent s).bytes (calls_of between)
    → (now : Memory) → NobodyElseWrites table loaded between now
    → (e : Edition) (q : Question) (later : Access) → Later e xs q later
    →
    ((worse : List Reading) → GoneBad q.readings worse
    → rank (access_in (decide (bytes_in now table) (reading_instead q worse))) ≤ rank later)
    × (SaysNo e q xs → access_in (decide (bytes_in now table) q) ≡ later)

-- REQUEST 1. A register for the gateway: "add, change and remove a client (group, level, user, host), set one reading of an access group given by name [..],
-- load again". 02, ticket 1, sentence by sentence:
-- what holds of a gateway after any calls, and of every further call
pub record Registered (g : Gateway) : Type 0 where
  -- "Our gateway holds up to 64 connected clients."
  pub sizes : Sized g.register
  -- "Adding takes the lowest free place, and a removed place is free."
  pub added_lowest :
      (c : Client) → NotRefused g (add c)
      → (p : ℕ)
      × (answer g (add c) ≡ client_added (added.At p (changed_in (answer g (add c)))))
      × LowestFree g.register p
      × OnlyPlace p (some c) g.register (after g (add c)).register
  pub removed_only : (p : ℕ) → NotRefused g (remove p) → OnlyPlace p none g.register (after g (remove p)).register
  -- "changed": given anew, at its place
  pub changed_only : (p : ℕ) (c : Client) → NotRefused g (change p c) → OnlyPlace p (some c) g.register (after g (change p c)).register
  -- "each standing client's right and trap flag equal what a question with the answering group's readings would answer now"
  pub right_answers :
      (p : ℕ) (c : Client) → client_at g.register p ≡ some c → Table g.table
      → decide g.table (question_now g.table g.register c) ≡ Answered (right_at g p)
  pub answering_readings :
      (c : Client) (h : Numbered) → Answers (group_name g.table) c.group (groups_of g.table) (some h)
      → (question_now g.table g.register c).readings ≡ readings_at g.register h.number
  -- "Setting one reading changes that one place among its group's 21."
  pub set_only :
      (n : List ℕ) (letter : ℕ) (x : Reading) (h : Numbered) → Named g.table n h → NotRefused g (set_reading n letter x)
      → OnlyReading h.number letter x g.register (after g (set_reading n letter x)).register
  -- "load again": the table and the answer are those of a load, with the bits
  pub loads :
      (s : List ℕ)
      → ((after g (load_again s)).table ≡ (load g.table s).bytes)
      × (answer g (load_again s) ≡ table_loaded (reloaded_as (load g.table s).answer (changed_in (answer g (load_again s)))))
  -- only a load writes the table, and only one that is accepted
  pub table_stays : (cs : List RegisterCall) → EachDone NoLoad g cs → (after_calls g cs).table ≡ g.table
  -- "A good load makes every reading never heard; until then each stays as last set,"
  pub loaded_unheard :
      (s : List ℕ) → NotRefused g (load_again s)
      → ((i letter : ℕ) → reading_at (after g (load_again s)).register i letter ≡ NeverHeard)
      × ((after g (load_again s)).register.clients ≡ g.register.clients)
  pub reading_stays :
      (i letter : ℕ) (x : Reading) → reading_at g.register i letter ≡ x
      → (cs : List RegisterCall) → EachDone (SparesReading i letter) g cs → reading_at (after_calls g cs).register i letter ≡ x
  -- "and a client stays as last given until changed or removed, whatever other calls are made."
  pub client_stays :
      (p : ℕ) (c : Client) → client_at g.register p ≡ some c
      → (cs : List RegisterCall) → EachDone (SparesClient p) g cs → client_at (after_calls g cs).register p ≡ some c
  -- "While the lent bytes are no table, all rights are NONE without trap, as a free place's always is."
  pub no_table_right : (p : ℕ) → (Table g.table → ⊥) → right_at g p ≡ no_access
  pub free_right : (p : ℕ) → Free g.register p → right_at g p ≡ no_access
  pub beyond_right : (p : ℕ) → most_clients ≤ p → right_at g p ≡ no_access
  -- "Refusals: 23 a client's name over 60 bytes, then 21, then 24 all 64 places taken; change and remove give 25 for a place with no client, before the
  -- others; a reading for an undefined access group or a letter without input is 22, after 20."
  pub add_refused : (o : Option ℕ) (c : Client) → (refused_with (answer g (add c)) ≡ o) ↔ FirstApplies (add_causes g.register c) o
  pub change_refused : (o : Option ℕ) (p : ℕ) (c : Client) → (refused_with (answer g (change p c)) ≡ o) ↔ FirstApplies (change_causes g.register p c) o
  pub remove_refused : (o : Option ℕ) (p : ℕ) → (refused_with (answer g (remove p)) ≡ o) ↔ FirstApplies (remove_causes g.register p) o
  pub set_refused :
      (o : Option ℕ) (n : List ℕ) (letter : ℕ) (x : Reading)
      → (refused_with (answer g (set_reading n letter x)) ≡ o) ↔ FirstApplies (set_causes g.table n letter) o
  pub set_letter_over :
      Table g.table → (n : List ℕ) (letter : ℕ) (x : Reading) → greatest_letter < letter → refused_with (answer g (set_reading n letter x)) ≡ some 22
  -- 01: "A refused call changes no lent byte and no state"
  pub refused_leaves : (c : RegisterCall) (n : ℕ) → refused_with (answer g c) ≡ some n → after g c ≡ g
  -- each answer's 64 bits: those places whose right changed
  pub changed_bits :
      (c : RegisterCall) (p : ℕ) → p < most_clients → (bit_of p (changed_in (answer g c)) ≡ true) ↔ (right_at g p ≡ right_at (after g c) p → ⊥)

-- THE WALK. A gateway has to know which process variables to hear: it goes through the access groups of a table by their numbers, and looks up the inputs of
-- each by its name.
pub record Walked : Type 0 where
  -- 20, then the part that holds the name of the group of that number, or 22 behind the last
  pub no_table : (b : List ℕ) (n : ℕ) → (group_at b n ≡ found.NotTable) ↔ (Table b → ⊥)
  pub group : (b : List ℕ) (n at l : ℕ) → (group_at b n ≡ found.Part at l) ↔ (Table b × NamesGroup b n (found.Part at l))
  pub no_group : (b : List ℕ) (n : ℕ) → (group_at b n ≡ found.NoInput) ↔ (Table b × (length (groups_of b) ≤ n))
  pub refusals : (b : List ℕ) (n k : ℕ) → look_up_number (group_at b n) ≡ some k → ((k ≡ 20) ⊎ (k ≡ 22)) × (part_in (group_at b n) b ≡ [])
  -- the part lies in the bytes, and is the name
  pub inside : (b : List ℕ) (n at l : ℕ) → group_at b n ≡ found.Part at l → at + l ≤ length b
  pub name : (b : List ℕ) (g : Numbered) → Table b → Memᴰ g (groups_of b) → part_in (group_at b g.number) b ≡ group_name b g
  -- of a loaded table they are the groups of the file, in its order
  pub by_file :
      (s : List ℕ) (xs : List Tagged) → Acceptable s xs → (rest : List ℕ)
      → let b = table_of (file_of xs) ++ rest in map (group_name b) (groups_of b) ≡ map (λ a. a.name) (file_of xs).asgs
  -- No answer depends on a group that is missed: whichever group answers for a name n is among them; by the name that the walk tells, the look-up finds the
  -- inputs that it finds by n, and a register sets the readings of this group.
  pub reaches :
      (b n : List ℕ) (g : Numbered) → Answers (group_name b) n (groups_of b) (some g)
      → Memᴰ g (groups_of b)
      × ((letter : ℕ) → look_up b n letter ≡ look_up b (group_name b g) letter)
      × Named b (group_name b g) g

-- REQUEST 6. Write the rules back as text: "Export a table as ACF text in section order: every name and calculation quoted, one definition, whole member list,
-- input, rule or predicate [..] a line, each line ended, references by their stored names, no other space, log words always written." The text, line by line,
-- is spec_text/specs/Lines.antt, of the file that the table says: spec_export/specs/Says.antt. Of any lent bytes and any slice:
pub record WrittenBack : Type 0 where
  -- "Refusals: 20;"
  pub no_table : (lent b : List ℕ) → (Table b → ⊥) → export lent b ≡ record { answer = exported.NotTable; bytes = lent }
  -- "then 27 a string holding bytes that no quoted text can hold, or a text with a cause for any of today's load refusals but 1 and 11;"
  pub unwritable : (lent b : List ℕ) → Table b → Unwritable (view b) → export lent b ≡ record { answer = exported.Unwritable; bytes = lent }
  -- "then 28 text longer than the lent buffer."
  pub no_room :
      (lent b : List ℕ) → Table b → (Unwritable (view b) → ⊥) → length lent < length (text_in (view b))
      → export lent b ≡ record { answer = exported.NoRoom (length (text_in (view b))); bytes = lent }
  -- else the text, at the start of the lent bytes; those behind it stay
  pub text :
      (lent b : List ℕ) → Table b → (Unwritable (view b) → ⊥) → length (text_in (view b)) ≤ length lent
      → export lent b
      ≡ record { answer = exported.Written (length (text_in (view b))); bytes = text_in (view b) ++ drop (length (text_in (view b))) lent }
  -- a table can be written or not, so that one of these four applies
  pub either : (b : List ℕ) → Table b → Unwritable (view b) ⊎ (Unwritable (view b) → ⊥)
  -- 27 is answered exactly of these tables
  pub exactly_27 : (lent b : List ℕ) → (export_number (export lent b).answer ≡ some 27) ↔ (Table b × Unwritable (view b))
  -- a refused call changes no lent byte
  pub refused :
      (lent b : List ℕ) (n : ℕ) → export_number (export lent b).answer ≡ some n → ((n ≡ 20) ⊎ (n ≡ 27) ⊎ (n ≡ 28)) × ((export lent b).bytes ≡ lent)
  pub greatest : (b : List ℕ) → Table b → length (text_in (view b)) ≤ 213056
  -- of a table that today's loader made, 27 is answered only if its file defines nothing
  pub loaded_27 :
      (s : List ℕ) (xs : List Tagged) → Acceptable s xs → (rest : List ℕ) → Unwritable (view (table_of (file_of xs) ++ rest)) ↔ DefinesNothing (file_of xs)
  -- "For a table that today's loader made, a text within 16,384 bytes loads, the loaded table answers every question alike, and exporting it gives the same
  -- text.": it is the same table, byte for byte
  pub comes_back :
      (s : List ℕ) (xs : List Tagged) → Acceptable s xs → (rest out lent : List ℕ) (n : ℕ)
      → let b = table_of (file_of xs) ++ rest in
      (export out b).answer ≡ exported.Written n → n ≤ 16384 → length (table_of (file_of xs)) ≤ length lent
      → let t = take n (export out b).bytes in
      (is_accepted (load lent t).answer ≡ true)
      × ((load lent t).bytes ≡ table_of (file_of xs) ++ drop (length (table_of (file_of xs))) lent)
      × Alike b (load lent t).bytes
