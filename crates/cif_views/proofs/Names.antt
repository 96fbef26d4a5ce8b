-- Names of std, of the crates below and of specs/, from modules that several of the proofs cite.
pub use Rattle.std.proofs.Common.{All, AllPairs, Bool, Bor, Contains, Equal, Greater, IfSome, IsNone, IsPermutation, IsSortedBy, IsTrue}
pub use Rattle.std.proofs.Common.{Less, List, None, Option, Ordering, Some, [], ap, append-nil, append_assoc, ap₂, arith, codes, cond}
pub use Rattle.std.proofs.Common.{decimal, drop, drop-cons, drop-drop, drop_at, eq-or-lt_of_le, eqb, eqb-true, false, filter, find}
pub use Rattle.std.proofs.Common.{flat_map, get_or, get_or-drop, get_or-take, if◌then◌else◌, inl, inr, is_eq, is_lt, is_some, le-ltb}
pub use Rattle.std.proofs.Common.{leb-true, length, length-append, length-drop, length-set, length-take, length-take-le, lt-ltb, ltb-false}
pub use Rattle.std.proofs.Common.{ltb-true, map, map-id, max, nat_cmp, nat_eq, nat_le, nat_lt, not, option_and_then, option_map, refl}
pub use Rattle.std.proofs.Common.{replicate, rules, slice_get, slice_index, slice_index_or, slice_range, slice_set, subst, suc, sym, take}
pub use Rattle.std.proofs.Common.{take-add, take-append-drop, take-take, true, zero, ℕ, ⊎_elim, ◌%◌, ◌&&◌, ◌*◌, ◌++◌, ◌+◌, ◌-◌, ◌/◌, ◌<◌}
pub use Rattle.std.proofs.Common.{◌==◌, ◌^◌, ◌||◌, ◌↔◌, ◌∙◌, ◌∷◌, ◌≡◌, ◌≢◌, ◌≤◌, ◌⊎◌}
pub use Rattle.std.proofs.Math.Bool.{and-false, and-true, and_assoc, or-false, or_assoc}
pub use Rattle.std.proofs.lemmas.Fmt.{decimal_digit, decimal_injective, decimal_is_IsNumeral, decimal_step_wide}
pub use Rattle.std.proofs.lemmas.List.{append_cancel_left, at_drop_all}
pub use Rattle.std.proofs.lemmas.List.Elements.{All-map, AllWithin-more, at_read}
pub use Rattle.std.proofs.{lemmas.List.Folds.flat_map-map, lemmas.Option.some_pair_parts}
pub use Rattle.cif_columns.proofs.Names.{All-push, All-weaker, FieldValue, and_parts, codes_in, drop-take, get_or_default, is_whole_from}
pub use Rattle.cif_columns.proofs.Names.{or_cases, plain_columns, take-append-add, take_more_set, take_rest, two_digits, used, width_of}
pub use Rattle.cif_columns.proofs.Names.{yymmdd_of}
pub use Rattle.cif_records.proofs.Names.{StandsIn, is_identity, kinds, length-columns, one_text_value, stands-front}
pub use Rattle.cif_extract.proofs.Each.{Each, each_back, each_front}
pub use Rattle.cif_extract.proofs.Names.{All-append, AllStandIn, Association, BodyParts, Bx, Extra, IsLine, KeepSomeBody, Lo, Row}
pub use Rattle.cif_extract.proofs.Names.{SpellsRecord, basic_back, body_records, call_record, columns, detail_rows, detail_table}
pub use Rattle.cif_extract.proofs.Names.{extra_records, further_lines, journey_records, kind_in, letter, line-plain_line, map-append}
pub use Rattle.cif_extract.proofs.Names.{record_table, row, spare, stands-plain_line, take-append_seam}
pub use Rattle.cif_extract.proofs.PlainTexts.{RecordFits, further-fit, further-lines}
pub use Rattle.cif_extract.specs.declared.{call.Call.Call, call.Call.TheVariants.At, call.Call.TheVariants.Turn}
pub use Rattle.cif_calendar.proofs.Names.{All-permutation, AreDayStates, IsClear, IsDayState, IsFirstClashOf, IsPermutation-map, Wins}
pub use Rattle.cif_calendar.proofs.Names.{get_or-map, precedence, range_with_len, ranks_by, sorted_far, tied_itself}
pub use Rattle.cif_calendar.specs.{AllClashes.AreAllClashes, AllClashes.association_clash, AllClashes.train_clash, Clashes.AreClashes}
pub use Rattle.cif_calendar.specs.{Entries.association_terms, Entries.schedule_terms, declared.day_state.DayState.DayState}
pub use Rattle.cif_weeks.proofs.Names.{AllWithin, IsAlignedTwo, at-contains, contains-at, week_of}
pub use Rattle.cif_canon.proofs.AppendedTexts.{all-items, answered, both, fault-answered}
pub use Rattle.cif_canon.proofs.{ByPairs.associations-by_pairs, ByPairs.same-keys, ByPairs.schedules-by_pairs, MergedSides.from-side}
pub use Rattle.cif_canon.proofs.{MergedSides.side-member, Unique.extracts-unique, Unique.keys-total, ViewTexts.written-so}
pub use Rattle.cif_canon.proofs.Names.{All-cons, All-contains, All-drop, All-filter, All-head, All-nil, All-tail, All-take, AllFit}
pub use Rattle.cif_canon.proofs.Names.{AllPairs-map, AreByPairs, AreClear, AreDifferences, AreDifferentRecords, AreDifferentTiplocs}
pub use Rattle.cif_canon.proofs.Names.{AreLawful, AreLawful-of_key, AreNone, ArePair, ArePositionsOf, ArePrintable, AssocBody, AssocKey}
pub use Rattle.cif_canon.proofs.Names.{BodyLines, BodyRuns, BytesSpell, C, CanonParts, Clash, ComesBefore, Contains-append_left}
pub use Rattle.cif_canon.proofs.Names.{Contains-append_right, Contains-cases, Contains-first, Contains-from_map, Contains-map}
pub use Rattle.cif_canon.proofs.Names.{Contains-none, Contains-permutation, Contains-push, Contains-rest, Decides-eqb, Detail}
pub use Rattle.cif_canon.proofs.Names.{DifferencesParts, ExtractParts, Form, IfOk-weaker, IsAccepted, IsAppended, IsBody, IsCanonOf}
pub use Rattle.cif_canon.proofs.Names.{IsCanonicalOf, IsClearExtract, IsFirstClashIn, IsOneWay, IsPrintable, IsTotalOrder, IsWithin, Listed}
pub use Rattle.cif_canon.proofs.Names.{OnlySays, P, Permanent, Records, Runs, RunsOn, SameMeaning, Schedule, ScheduleFits, ScheduleLines}
pub use Rattle.cif_canon.proofs.Names.{Sink, Terms, Tiploc, Two, Window, all_pairs_push, association_entries, association_entry}
pub use Rattle.cif_canon.proofs.Names.{association_plain, at_side, basic_rows, by_pairs, bytes_decides, cases_lt, contents_of, detail_of}
pub use Rattle.cif_canon.proofs.Names.{enumerate_from, extract_parts, extract_text, false≢true, filter_passes}
pub use Rattle.cif_canon.proofs.Names.{first_clash-clear, flat_map-append, header_table, header_window, key_cmp, keyed, length-map}
pub use Rattle.cif_canon.proofs.Names.{less_one_way, line_of_association, line_of_tiploc, lines_of_schedule, lines_text}
pub use Rattle.cif_canon.proofs.Names.{nat_list_cmp_total, nat_tests, nil_from_length, no_association, no_train, not-false, not_less}
pub use Rattle.cif_canon.proofs.Names.{of_key, of_side, on_total, one_spelled, ordering_reverse, ordering_then, parts_in, permanent_entries}
pub use Rattle.cif_canon.proofs.Names.{plain_line, plain_lines_of, pointwise, positions-records, record_of, same_Some}
pub use Rattle.cif_canon.proofs.Names.{same_key-cmp, same_members, schedule_entries, schedule_entry, schedule_plain, slice_cmp}
pub use Rattle.cif_canon.proofs.Names.{slice_get-get_or, slice_get_within, spelled-fits, take_more, terms_at, terms_of, texts_ties}
pub use Rattle.cif_canon.proofs.Names.{then_total, tiploc_table, trailer_table, train_fields, weekday_of}
pub use Rattle.cif_canon.specs.{Lines.ExtractLines, Rows.association_row, Rows.schedule_row, Rows.train_row}
pub use Rattle.cif_canon.specs.{declared.listed_differences.Side.Side, declared.listed_differences.Side.TheVariants.Left}
pub use Rattle.cif_canon.specs.{declared.listed_differences.Side.TheVariants.Right, declared.listed_differences.Sided.Sided}
pub use Rattle.cif_canon.specs.Pairs.{association_lines, listed_as, parts_of, schedule_lines, tiploc_lines}
pub use Rattle.cif_views.specs.Calls.{call_names, calls_at, calls_in, listed_fields, nested_fields, origin_call, terminus_call}
pub use Rattle.cif_views.specs.{Clashes.clash_line, Clashes.clashes_text, DifferenceTable.tiploc_row, DifferenceTable.without_extra}
pub use Rattle.cif_views.specs.DifferenceTable.{difference_rows, difference_text}
pub use Rattle.cif_views.specs.{Explanation.start_fields, Steps.WeekCalendar.state_in, declared.columns.FieldPlace.FieldPlace}
pub use Rattle.cif_views.specs.{declared.columns.JourneyKind.JourneyKind, declared.marks.Mark.Mark}
pub use Rattle.cif_views.specs.{declared.public_calls.CallTimes.CallTimes, declared.public_calls.Journey.Journey}
pub use Rattle.cif_views.specs.{declared.public_calls.Riders.Riders, declared.public_calls.Shown.Shown, declared.tables.Table.Table}
unfoldable pub use Rattle.cif_views.specs.{DifferenceTable.difference_table, Explanation.explained_association_row}
unfoldable pub use Rattle.cif_views.specs.{Explanation.explained_train_row, Steps.DifferenceRows.field_row, TableText.table_text}
pub use Rattle.cif_views.specs.DifferenceTable.{association_differences, association_head, call_count, change_of, changed, difference_names}
pub use Rattle.cif_views.specs.DifferenceTable.{differing_row, differing_rows, in_journey, in_record, journey_differences, own_fields}
pub use Rattle.cif_views.specs.DifferenceTable.{place_columns, place_rows, schedule_differences, schedule_head, single_row, tiploc_head}
pub use Rattle.cif_views.specs.Explanation.{AreExplained, Explained, HasWinningMark, IsAssociationOf, IsExplanation, IsMarked, IsTrain}
pub use Rattle.cif_views.specs.Explanation.{SomeApplies, explanation_heading, mark_columns, said_of_association, said_of_train}
pub use Rattle.cif_views.specs.Listing.{association_text, call_names_if, date_field, day_names, train_names, with_calls, without_calls}
pub use Rattle.cif_views.specs.Moments.{IsBy, IsInDayFrom, in_day_from, midnight, time_text, two_digits_or_more}
pub use Rattle.cif_views.specs.PublicCalls.{AreMoments, ArePublicCalls, AreShown, IsBehind, PublicCall, TimedCall, advertised, is_public}
pub use Rattle.cif_views.specs.PublicCalls.{is_timed, left_at, public_fields, reached_at, riders_of, said_by, times_in, working}
pub use Rattle.cif_views.specs.Steps.PublicCalls.{at_first, behind_shown, behind_stay, public_call, public_calls, public_from}
pub use Rattle.cif_views.specs.Steps.PublicCalls.{public_moment, raised, reached_moment, stay, stay_at, step_at}
pub use Rattle.cif_views.specs.RowsOfDifferences.{AreRowsOfFields, HasRow, HaveRows, IsRowOfField}
pub use Rattle.cif_views.specs.Steps.Columns.{Column, are_within, association_columns, basic_columns, call_columns, change_columns, column}
pub use Rattle.cif_views.specs.Steps.Columns.{column_names, columns_of, extra_columns, field_in, fields_in, is_span, is_within, over}
pub use Rattle.cif_views.specs.Steps.Columns.{room_for, room_of, span_in, value_in, values_in}
pub use Rattle.cif_views.specs.Steps.DifferenceHeads.{IsShortPlace, change_on, head_of, head_values, place_names, place_values, start_values}
pub use Rattle.cif_views.specs.Steps.DifferenceRows.{are_texts, count_of_calls, field_rows, is_text, is_text_place, own_columns}
pub use Rattle.cif_views.specs.Steps.DifferenceRows.{row_of_counts, rows_of_journeys, rows_of_place, rows_of_places, rows_text, same_places}
pub use Rattle.cif_views.specs.Steps.Explanation.{AreMarked, AreMarkedOn, ArePlacedBelow, ArePlacedInOrder, IsFirstOfKey, IsLeast, IsLevel}
pub use Rattle.cif_views.specs.Steps.Explanation.{IsLike, IsMarkAmong, IsMarkAt, IsMarkOf, IsPlaced, IsRisingBy, Placed, marked_as}
pub use Rattle.cif_views.specs.Steps.Explanation.{placed_at, placed_cmp, placed_of, unmarked}
pub use Rattle.cif_views.specs.Steps.PublicRows.{IsJourneyBy, public_values, row_of_step}
pub use Rattle.cif_views.specs.Steps.Rows.{call_text, fields_of_call, first_field, listing_in, no_call_text, values_of}
pub use Rattle.cif_views.specs.Steps.TableRows.{has_row, journey_columns, journey_rows, row_of_kind, rows_of}
pub use Rattle.cif_views.specs.TableText.{schedule_rows, table_names, table_rows}
pub use Rattle.cif_views.specs.Tables.{Numbered, NumberedSchedule, TableFields, call_fields, category_fields, change_fields, detail_fields}
pub use Rattle.cif_views.specs.Tables.{extra_fields, extra_identity, extra_in, header_fields, is_call, is_change, is_extra, journey_kind}
pub use Rattle.cif_views.specs.Tables.{kind_of_line, names, numbered_from, numbered_schedule, own_call_fields}
pub use Rattle.cif_views.specs.Tables.{own_change_fields, row_of, row_values, schedule_fields, tiploc_fields, type_fields, yymmdd_from}
pub use Rattle.cif_views.specs.WeekCalendar.{IsRunningLetter, IsShown, IsWeekCalendar, SaysWhatRuns, calendar_text, cell, character}
pub use Rattle.cif_views.specs.WeekCalendar.{monday_columns, space, week_line, weeks_between}
pub use Rattle.cif_views.specs.declared.columns.JourneyKind.TheVariants.{Change, Other, Stop}
pub use Rattle.cif_views.specs.declared.tables.Table.TheVariants.{Associations, Calls, Changes, Public, Schedules, Tiplocs}
