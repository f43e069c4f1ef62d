-- The words of the front page, each from the file that defines it.
pub use Rattle.spec_lists.specs.Every.{Every}
pub use Rattle.spec_token.specs.Word.{greatest_letter}
pub use Rattle.spec_token.specs.Token.{Token, Spelled}
pub use Rattle.spec_token.specs.Place.{Ascending, StandsIn}
pub use Rattle.spec_grammar.specs.Sentence.{Tagged}
pub use Rattle.spec_calc.specs.declared.Reading.{Reading}
pub use Rattle.spec_calc.specs.Expression.{Tree, Parses}
pub use Rattle.spec_calc.specs.Value.{worth}
pub use Rattle.spec_calc.specs.Answer.{IsBadBy, IsBadByArithmetic, ComesTo}
pub use Rattle.spec_calc.specs.Readings.{GoneBad}
pub use Rattle.spec_calc.specs.Reader.{tree_of}
pub use Rattle.spec_rule.specs.Roles.{RolesFit}
pub use Rattle.spec_rule.specs.Question.{Question, reading_instead, with_roles, Valid}
pub use Rattle.spec_rule.specs.Rule.{rank, calculation_holds}
pub use Rattle.spec_rule.specs.Answering.{greatest_level}
pub use Rattle.spec_file.specs.declared.Refusal.{Refusal}
pub use Rattle.spec_file.specs.Refusal.{number as refusal_number, turn, Context, contexts, Applies}
pub use Rattle.spec_file.specs.Contents.{place, file_of}
pub use Rattle.spec_file.specs.Meaning.{rule_in}
pub use Rattle.spec_file.specs.Acceptance.{TextReads, Caused, Acceptable, Refusable}
pub use Rattle.spec_file.specs.Warning.{Warned, warnings, Given}
pub use Rattle.spec_file.specs.Defined.{NamesUndefined, GroupsDefined}
pub use Rattle.spec_file.specs.Limit.{access_groups, references}
pub use Rattle.spec_table.specs.View.{total_of, view}
pub use Rattle.spec_table.specs.Policy.{name, rules_of}
pub use Rattle.spec_table.specs.Table.{Table, number_field}
pub use Rattle.spec_table.specs.Check.{is_table}
pub use Rattle.spec_table.specs.Written.{table_of}
pub use Rattle.spec_table.specs.Layout.{greatest_table}
pub use Rattle.spec_load.specs.Load.{written, without_room, load}
pub use Rattle.spec_load.specs.Listing.{warnings_written, listing}
pub use Rattle.spec_decision.specs.LookUp.{look_up, part_in, NamesInput, FindsInput, number as look_up_number}
pub use Rattle.spec_decision.specs.Decision.{number, access_in, trap_in, letter_in, decide}
pub use Rattle.spec_decision.specs.Privilege.{DeterminedByTable, DeterminedByFile}
pub use Rattle.spec_edition.specs.Edition.{Edition, Later, SaysNo}
pub use Rattle.spec_demand.specs.Calls.{Call, after_call, is_accepted, NoAcceptedLoad, Told, refusal_of}
pub use Rattle.spec_demand.specs.Memory.{Memory, Storage, bytes_in, Step, calls_of, Made, NobodyElseWrites}
pub use Rattle.spec_demand.specs.Cases.{ProvedCases, ArithmeticCases, RoleCases, GroupCases, LetterCases, TextCases}
pub use Rattle.spec_rule.specs.Decision.{no_access}
pub use Rattle.spec_rule.specs.Privilege.{Some, Answers, YieldsTrue}
pub use Rattle.spec_rule.specs.Letter.{Tells}
pub use Rattle.spec_rule.specs.Finite.{FiniteValues, GivesOnFiniteValues}
pub use Rattle.spec_decision.specs.Groups.{Numbered, groups_of, group_name}
pub use Rattle.spec_decision.specs.Walk.{NamesGroup, group_at}
pub use Rattle.spec_demand.specs.Rooms.{GoodFile, InForce, Turn, LentInForce, register_after, over, left_by_turns, NeverMoreInRooms}
pub use Rattle.spec_register.specs.Register.{Client, empty, most_clients, client_at, readings_at}
pub use Rattle.spec_register.specs.Right.{question_now}
pub use Rattle.spec_register.specs.Calls.{Gateway, Call as RegisterCall, add, change, remove, set_reading, load_again, after, after_calls, right_at}
pub use Rattle.spec_register.specs.Calls.{answer, client_added, table_loaded, reloaded_as, refusal_of as refused_with}
pub use Rattle.spec_register.specs.Sentences.{begun, Sized, NotRefused, EachDone, Free}
pub use Rattle.spec_register.specs.Sentences.{LowestFree, OnlyPlace, SparesClient, reading_at, OnlyReading, Named, NoLoad}
pub use Rattle.spec_register.specs.Sentences.{SparesReading, FirstApplies, add_causes, change_causes, remove_causes, set_causes, changed_in, bit_of}
pub use Rattle.spec_places.specs.Storage.{Lent, lent, places_bytes, all_readings, zeroed, right_in}
pub use Rattle.spec_places.specs.Calls.{left, left_by_calls, told, Agrees, TooShort}
pub use Rattle.spec_demand.specs.Register.{on_table, NeverMoreToClients}
pub use Rattle.spec_export.specs.Unwritable.{text_in, Unwritable}
pub use Rattle.spec_export.specs.Export.{export, number as export_number}
pub use Rattle.spec_demand.specs.Exporting.{DefinesNothing, Alike}
