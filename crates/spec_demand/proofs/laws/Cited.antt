-- The laws that the front page cites, each from the file that proves it.
pub use Rattle.spec_token.proofs.laws.Theorem.{places_ascend, tokens_stand}
pub use Rattle.spec_calc.proofs.laws.Theorem.{parses_sound, parses_complete}
pub use Rattle.spec_calc.proofs.laws.Worth.{bad_by_is, bad_by_arithmetic_is, comes_to_is}
pub use Rattle.spec_rule.proofs.laws.Asked.{calculation_is}
pub use Rattle.spec_rule.proofs.laws.Finite.{true_finite}
pub use Rattle.spec_file.proofs.laws.Causes.{cause_among, number_at_turn}
pub use Rattle.spec_file.proofs.laws.Either.{acceptable_or_refusable, never_acceptable_and_refusable, one_reading, one_refusal}
pub use Rattle.spec_file.proofs.laws.Places.{earliest, warnings_by_place}
pub use Rattle.spec_file.proofs.laws.Warnings.{warned_exactly}
pub use Rattle.spec_file.proofs.laws.Defined.{undefined_exactly, defined_exactly}
pub use Rattle.spec_table.proofs.laws.Table.{table_is}
pub use Rattle.spec_table.proofs.laws.Size.{table_total}
pub use Rattle.spec_table.proofs.laws.Numbers.{numbers_given}
pub use Rattle.spec_decision.proofs.laws.Refused.{refused_question_numbered, refused_grants_nothing, refused_look_up_empty, not_table_is, bad_level_is, bad_roles_is, letter_over}
pub use Rattle.spec_decision.proofs.laws.Roles.{role_removed}
pub use Rattle.spec_decision.proofs.laws.Privilege.{by_table_is, granted_on_finite_values, tells_by_table}
pub use Rattle.spec_decision.proofs.laws.LookUp.{no_table_found_is, part_found_is, no_input_found_is}
pub use Rattle.spec_decision.proofs.laws.Walk.{no_table_walked_is, group_walked_is, no_group_walked_is, walked_name, walked_inside, refused_walk_empty, answering_member, answering_named, answering_inputs}
pub use Rattle.spec_edition.proofs.laws.Agreement.{edition_gives}
pub use Rattle.spec_demand.proofs.laws.Answered.{refused_load, refused_listing, accepted_listing}
pub use Rattle.spec_demand.proofs.laws.Refusals.{refused_load_numbered, refused_listing_numbered}
pub use Rattle.spec_demand.proofs.laws.Loaded.{refused_call_leaves}
pub use Rattle.spec_demand.proofs.laws.Privilege.{by_file_is, tells_by_file, input_is}
pub use Rattle.spec_demand.proofs.laws.Letter.{letter_named}
pub use Rattle.spec_demand.proofs.laws.Exact.{zeros_grant_nothing, laid_down, not_laid_down, stands, groups_by_file}
pub use Rattle.spec_demand.proofs.laws.Memory.{never_more}
pub use Rattle.spec_demand.proofs.laws.Cases.{proved_cases, arithmetic_cases, role_cases, group_cases, letter_cases, text_cases}
pub use Rattle.spec_register.proofs.laws.Sized.{sized}
pub use Rattle.spec_register.proofs.laws.Rights.{AllFit, clients_fit, right_answers, answering_readings, free_right, beyond_right, no_table_right}
pub use Rattle.spec_register.proofs.laws.Places.{added_lowest, changed_only, removed_only, client_stays}
pub use Rattle.spec_register.proofs.laws.Readings.{set_only, set_letter_over, loaded_unheard, reading_stays, table_stays}
pub use Rattle.spec_register.proofs.laws.Refused.{add_refused, change_refused, remove_refused, set_refused, refused_call_leaves as refused_leaves_gateway}
pub use Rattle.spec_register.proofs.laws.Changed.{answered_is, load_answers}
pub use Rattle.spec_places.proofs.laws.Follows.{follows, refused_leaves}
pub use Rattle.spec_places.proofs.laws.Short.{short_right, too_short}
pub use Rattle.spec_demand.proofs.laws.Register.{register_on_table, register_behind, reload_elsewhere, never_more_to_clients}
pub use Rattle.spec_demand.proofs.laws.Rooms.{in_rooms, turns_sized, turns_fit, never_more_in_rooms}
pub use Rattle.spec_export.proofs.laws.Answer.{exported_not_table, exported_unwritable, exported_no_room, exported_text, unwritable_or_not, exactly_27}
pub use Rattle.spec_export.proofs.laws.Answer.{text_short, refused_export}
pub use Rattle.spec_demand.proofs.laws.Export.{loaded_unwritable, comes_back}
