-- Names of std, of the crates below and of specs/, from modules that several of the proofs cite.
pub use Rattle.std.proofs.Common.{All, AllPairs, Bool, Bor, Contains, Decides, Equal, Err, Greater, IfErr, IfOk, IfSome, IsErrAnd, IsNone}
pub use Rattle.std.proofs.Common.{IsPermutation, IsSome, IsSorted, IsTrue, Less, List, MatchResult, None, Ok, OnOk, Option, Ordering}
pub use Rattle.std.proofs.Common.{Result, Some, [], ap, append-nil, append_assoc, ap₂, arith, codes, cond, drop, drop_at, eq-or-lt_of_le}
pub use Rattle.std.proofs.Common.{eqb, eqb-true, false, filter, flat_map, get_or, get_or-set_other, get_or-set_same, if◌then◌else◌, inl}
pub use Rattle.std.proofs.Common.{inr, is_eq, le-leb, leb-true, length, length-append, length-drop, length-set, length-take-le, map}
pub use Rattle.std.proofs.Common.{nat_cmp, nat_eq, nat_le, nat_lt, not, option_and_then, option_copied, option_map, refl, replicate, rules}
pub use Rattle.std.proofs.Common.{set, slice_get, slice_index_or, subst, suc, sym, take, take_all, true, true≢false, unwrap_or, zero, ℕ}
pub use Rattle.std.proofs.Common.{⊎_elim, ◌%◌, ◌&&◌, ◌++◌, ◌+◌, ◌-◌, ◌<◌, ◌↔◌, ◌∙◌, ◌∷◌, ◌≡◌, ◌≢◌, ◌≤◌, ◌⊎◌}
pub use Rattle.std.proofs.lemmas.Bool.Decides.{Decides-and, Decides-like, same_from_decides}
pub use Rattle.std.proofs.{lemmas.Cmp.on_total, lemmas.Cmp.then_total, lemmas.List.FromFn.get_or-enumerate_from}
pub use Rattle.std.proofs.{lemmas.List.FromFn.length-enumerate_from, lemmas.Slice.Zip.AllZip-long}
pub use Rattle.std.proofs.lemmas.List.Elements.{All-contains_itself, All-filter, All-from_recursion, filter_passes}
pub use Rattle.std.proofs.lemmas.List.Kept.{AllPairs-filter, Contains-dedup, Contains-from_dedup, IsStrictlySortedBy-dedup}
pub use Rattle.std.proofs.lemmas.Option.{none-some, option_and_then_some, slice_get_past}
pub use Rattle.std.specs.Cmp.Lexicographic.{nat_list_cmp_total, on_texts_equal, texts_ties}
pub use Rattle.std.specs.List.{AllByRecursion, dedup, enumerate_from}
pub use Rattle.cif_columns.proofs.Names.{All-replicate, Appends-nil, ArePrintable, Decides-eqb, common_steps, cond_both, pointwise}
pub use Rattle.cif_columns.{proofs.Names.sink_failed, proofs.Names.slice_cmp, proofs.Names.writer_of, specs.declared.sink.Sink.Sink}
pub use Rattle.cif_records.{proofs.Headers.same_header, proofs.Tiplocs.same_tiploc, specs.AssocKey.key_cmp, specs.Trailer.trailer_table}
pub use Rattle.cif_records.proofs.Names.{association_rows, header_table, length-plain_line, with_window}
pub use Rattle.cif_records.specs.declared.{association.AssocBody.AssocBody, association.AssocKey.AssocKey}
unfoldable pub use Rattle.cif_extract.proofs.Names.{schedule_lines}
pub use Rattle.cif_extract.proofs.Names.{AllFit, BodyLines, BytesSpell, BytesSpellWithin, C, Detail, ExtractParts, FitsColumns, HasFailed}
pub use Rattle.cif_extract.proofs.Names.{HasWritten, Header, IsBody, IsPrintable, IsResultOfBoth, ScheduleFits, Source, Tiploc, Unread}
pub use Rattle.cif_extract.proofs.Names.{Writes, association_table, basic_rows, bytes_decides, contents_of, detail_of, err_from_is_err_and}
pub use Rattle.cif_extract.proofs.Names.{extract_parts, extract_text, failed_first, known_so, lines_text, on_ok_weaker, parts_in}
pub use Rattle.cif_extract.proofs.Names.{plain_line, plain_lines_of, pointwise_decides, reading_extract, tiploc_table}
pub use Rattle.cif_extract.proofs.{OneExtract.same_extract_parts, OneExtract.same_values, PlainTexts.spelled-fits, PlainTexts.text-spells}
pub use Rattle.cif_extract.proofs.{SpelledBytes.one_spelled, SpelledBytes.spelled-refused}
pub use Rattle.cif_extract.proofs.ReadCalls.{HandsOn, Makes, Refuses, at-fault, goes-on, hands, hands-either, hands-on, of_any}
pub use Rattle.cif_extract.specs.ReadFault.{IsOfReading, is_read}
pub use Rattle.cif_extract.specs.declared.{extract.Extract.Extract, extract.Schedule.Schedule, fault.Clash.Clash}
pub use Rattle.cif_extract.specs.declared.{fault.Clash.TheVariants.Train, fault.Fault.Fault, fault.Fault.TheVariants.Write}
pub use Rattle.cif_calendar.proofs.{FirstClash.first_clash-clear, FirstClash.same_key-cmp, NoEntries.none-clear, Stretches.sooner}
pub use Rattle.cif_calendar.proofs.KeyCalendar.{key-clear, key-fault, key-runs, key-source}
pub use Rattle.cif_calendar.proofs.KeyPositions.{all-within, has-key, within-entries}
pub use Rattle.cif_calendar.proofs.KeyTurns.{first-leads, no-entry, one-key, rising-after}
pub use Rattle.cif_calendar.proofs.Names.{All-drop, AnyHasKey, AreAllByKey, AreOfFirstKey, ArePositionsOf, HasKey, IsCountOfKey, IsFault}
pub use Rattle.cif_calendar.proofs.Names.{IsFirstOfBoth, IsRising, NothingRuns, Records, Runs, SameRecords, all_pairs_push, false≢true}
pub use Rattle.cif_calendar.proofs.Names.{flat_map-append, keyed, nil_from_length, not-false, ordering_reverse, slice_get_read}
pub use Rattle.cif_calendar.proofs.PassedKeys.{HasPassed, key-or-later, later-less, left-before, passed-more, turn}
pub use Rattle.cif_calendar.proofs.Positions.{AreLawful-of_key, positions-records, terms_at-keyed}
pub use Rattle.cif_calendar.specs.Entries.{association_entries, association_entry, schedule_entries, schedule_entry}
pub use Rattle.cif_calendar.specs.Meaning.{EntriesSayTheSame}
pub use Rattle.cif_weeks.proofs.{AlignedDays.tight, CalendarSources.calendar_sources}
pub use Rattle.cif_weeks.proofs.JoinedLists.{AllPairs-append, AllPairs-map, AllZip-append, Contains-from_map, Contains-map, zip-at}
pub use Rattle.cif_weeks.{proofs.JoinedLists.zip-back, proofs.JoinedLists.zip-map, proofs.JoinedLists.zip-with, specs.WhatRuns.HasBody}
pub use Rattle.cif_weeks.proofs.KeyByKey.{HasBody-more, canonical-more, canonical-none, of_key-more}
pub use Rattle.cif_weeks.proofs.Names.{All-cons, All-contains, All-head, All-nil, All-tail, All-take, AllPairs-cons, AllZip, AreCanonical}
pub use Rattle.cif_weeks.proofs.Names.{AreCanonicalRuns, AreClear, AreLawful, AreRunsOfMembers, AreSources, BodyRuns, CalendarParts}
pub use Rattle.cif_weeks.proofs.Names.{Contains-append_cases, Contains-append_left, Contains-append_right, Contains-cases, Contains-first}
pub use Rattle.cif_weeks.proofs.Names.{Contains-get_or, Contains-none, Contains-permutation, Contains-push, Contains-push_cases}
pub use Rattle.cif_weeks.proofs.Names.{Contains-rest, IfOk-weaker, IsAligned, IsAmongDates, IsCalendar, IsChosen, IsClearFrom, IsDay}
pub use Rattle.cif_weeks.proofs.Names.{IsMembersRun, IsOneWay, IsPermutation-sym, IsTotalOrder, IsWithin, P, Permanent, Permanents, Piece}
pub use Rattle.cif_weeks.proofs.Names.{Precedes, RunsOn, Stp, Terms, Tiles, Window, body_on, cases_lt, drop_more, get_or_from_slice_get}
pub use Rattle.cif_weeks.proofs.Names.{length-map, less_one_way, nat_tests, not_less, of_key, ordering_then, permanent_entries, record_of}
pub use Rattle.cif_weeks.proofs.Names.{same_Some, same_members, slice_get-get_or, slice_get_within, source_at, source_at-piece, take_more}
pub use Rattle.cif_weeks.proofs.Names.{terms_at, terms_of, tiles-ends, weekday_of, window_days, window_from, window_of, winner_of, with_key}
pub use Rattle.cif_weeks.proofs.PermanentEntries.{canonical-clear, canonical-dated, records-meaning, runs-applies}
pub use Rattle.cif_weeks.specs.declared.{form.Form.Form, form.Form.TheVariants.One, form.Form.TheVariants.Two, form.Run.Run}
pub use Rattle.cif_canon.specs.Accepted.{IsAccepted, IsAcceptedWithin, IsClearExtract, SpellsNarrowed}
pub use Rattle.cif_canon.specs.{Appended.IsAppended, Canon.CanonParts, Canon.IsCanonOf, Differences.marked_tiploc, Differences.of_side}
pub use Rattle.cif_canon.specs.{Fault.IsReadNarrowedFault, Fault.reading_narrowed, Lines.schedule_plain, Meaning.Agree}
pub use Rattle.cif_canon.specs.{Meaning.SameMeaning, Normalised.normalising, Normalised.reading_canon, Steps.Records.extract_fault}
pub use Rattle.cif_canon.specs.Canon.{AreCanonSchedules}
pub use Rattle.cif_canon.specs.{Tiplocs.AreDistinct, declared.asked.Asked.Asked, declared.canonical_form.Counts.Counts}
pub use Rattle.cif_canon.specs.{declared.differing.Extent.TheVariants.AllKeys, declared.differing.Extent.TheVariants.FirstKey}
pub use Rattle.cif_canon.specs.{declared.listed_differences.Side.Side, declared.listed_differences.Side.TheVariants.Left}
pub use Rattle.cif_canon.specs.{declared.listed_differences.Side.TheVariants.Right, declared.listed_differences.Sided.Sided}
pub use Rattle.cif_canon.specs.Asked.{AskedDatesAreWithin, IsNarrowed, IsNarrowingFault, header_window, nothing_asked, window_asked}
pub use Rattle.cif_canon.specs.Canonical.{AreCanonicalEntries, IsCanonicalExtract, IsCanonicalOf}
pub use Rattle.cif_canon.specs.Comparison.{IsCompareFault, IsComparison, IsFirstDifference, IsFirstTiploc}
unfoldable pub use Rattle.cif_canon.specs.{Differences.differences_text, Steps.Texts.canon_lines, Steps.Texts.canon_text}
pub use Rattle.cif_canon.specs.Differences.{AreDifferences, AreDifferentRecords, AreDifferentTiplocs, AreNone, AreOnlyRecords, ComesBefore}
pub use Rattle.cif_canon.specs.Differences.{DifferencesParts, IsOnlyIn, OnlySays, RunsApplied, SaysNothing, SaysSomething, TurnInto}
pub use Rattle.cif_canon.specs.Differences.{TurnLeftIntoRight, at_side, is_side, mark, marked_association, marked_schedule, marked_text}
pub use Rattle.cif_canon.specs.Fault.{IsCanonFault, IsDeviceOrMemory, IsFirstClashIn, IsNormaliseFault, IsOfCheck, IsOfReadNarrowed}
pub use Rattle.cif_canon.specs.Lines.{ScheduleLines, association_plain, line_of_association, line_of_tiploc, lines_of, lines_of_schedule}
pub use Rattle.cif_canon.specs.Normalised.{FaultWrites, HasCanon, IfWritten, IsCanonOfInput, IsNormalised, Normalises, checking}
pub use Rattle.cif_canon.specs.Pairs.{AreByPairs, ArePair, Listed, are_pair, by_pairs}
pub use Rattle.cif_canon.specs.Rows.{association_fields, journey_fields, no_association, no_train, train_fields}
pub use Rattle.cif_canon.specs.Steps.Differences.{AreAlikeBy, AreClearIfSame, HasBodies, HoldsFrom}
pub use Rattle.cif_canon.specs.Steps.OnlySides.{AreAppendedRuns, AreDifferentRuns, AreKeyDifferences, AreMerging, AreOnlyRuns}
pub use Rattle.cif_canon.specs.Steps.OnlySides.{AreOnlyWinners, AreRisingRuns, AreSame, AreSifting, HasMovedOf, IsFirstFound, IsFirstOrder}
pub use Rattle.cif_canon.specs.Steps.OnlySides.{IsFirstSide, IsOnlyCalendar, IsOnlySource, IsSidedRunOf, RunComesBefore}
pub use Rattle.cif_canon.specs.Steps.Records.{AreCanonicalRecords, AreRunsOf, AreRunsOfKey, AreSaid, IsKeyFault, IsRecordsFault, IsRunOf}
pub use Rattle.cif_canon.specs.Steps.Sides.{HasSidedRecord, sided_records, sided_run_text, with_record}
pub use Rattle.cif_canon.specs.Steps.Texts.{HasRecord, association_run_text, association_text, numbered_text, of_run, record_at, run_text}
pub use Rattle.cif_canon.specs.Steps.Texts.{schedule_run_text, schedule_text, text_if, tiploc_text}
pub use Rattle.cif_canon.specs.Steps.Views.{applies_on, listed_of, listed_on}
pub use Rattle.cif_canon.specs.Views.{AreRunning, DayTexts, IsDayListed, IsTrainListed, TrainTexts}
