-- Names of std, of the crates below and of specs/, from modules that several of the proofs cite.
pub use Rattle.std.proofs.Common.{All, AllPairs, BTreeMap, Bool, Contains, Equal, Err, Global, Greater, IfErr, IfOk, IfSome, IsSomeAnd}
pub use Rattle.std.proofs.Common.{IsTrue, Less, List, MatchResult, None, Ok, Option, Ordering, Result, Some, Vec, [], ap, append-nil}
pub use Rattle.std.proofs.Common.{append_assoc, ap₂, arith, below_more, codes, cond, decimal, drop, drop-drop, drop_of_length-le, eq-eqb}
pub use Rattle.std.proofs.Common.{eqb-true, false, filter, find, flat_map, get_or, get_or-drop, get_or-set_other, get_or-set_same, inl, inr}
pub use Rattle.std.proofs.Common.{insert, is_eq, is_gt, is_some, length, length-append, length-drop, length-take, lit<, ltb, ltb-false}
pub use Rattle.std.proofs.Common.{ltb-true, map, max, nat_cmp, nat_eq, nat_lt, ne_eqb, not, option_map, option_to_list, refl, reverse}
pub use Rattle.std.proofs.Common.{rules, set, slice_get, slice_index, slice_index_or, subst, suc, sym, take, take-append-drop, take-take}
pub use Rattle.std.proofs.Common.{take_all, true, true≢false, unwrap_or, vec_len, ℕ, ⊎_elim, ◌&&◌, ◌*◌, ◌++◌, ◌+◌, ◌-◌, ◌<◌, ◌==◌, ◌||◌}
pub use Rattle.std.proofs.Common.{◌↔◌, ◌∙◌, ◌∷◌, ◌≡◌, ◌≢◌, ◌≤◌, ◌⊎◌}
pub use Rattle.std.proofs.Math.Bool.{and-false, or-false, or-true}
pub use Rattle.std.{proofs.lemmas.Cmp.eq_by_cmp_equiv, proofs.lemmas.Simd.map-map, specs.Option.option_or, specs.Ordering.eq_by_cmp}
pub use Rattle.std.proofs.lemmas.List.{append_cancel_left, at_drop_more, get_or_read, map_more}
pub use Rattle.std.proofs.lemmas.List.Elements.{All-filter, All-map, filter-append, filter_agree, filter_passes}
pub use Rattle.std.proofs.lemmas.List.Folds.{flat_map-map, length-prefix_len, list_any_at, position_or_len_push}
pub use Rattle.std.proofs.lemmas.List.Sorted.{IsNonDecreasingBy-insert, IsPermutation-insert, IsPermutation-sym}
pub use Rattle.std.proofs.lemmas.List.Sums.{count_by-le-length, fails_before_first, length-filter, passes_at_first, position_or_len_is}
pub use Rattle.std.specs.{BTreeMap.get, Cmp.IsEquivalence, Cmp.on_equiv, List.Sorted.IsNonDecreasing, List.Sorted.IsPartitionPoint}
pub use Rattle.std.specs.List.{after_first, before_first, enumerate_from, items_where_true, position_or_len}
pub use Rattle.cif_columns.proofs.ContentRuns.{HasGiven, at_limits, given_all, given_more, given_none, given_within}
pub use Rattle.cif_columns.proofs.FirstContents.{content_first, overlong_content, some_content, stripped_long}
pub use Rattle.cif_columns.proofs.GivenLinesLaws.{IsReadingContents, KnownContents, known_cut, known_decided, known_next, none_given}
pub use Rattle.cif_columns.proofs.{GivenLinesLaws.one_more, GivenLinesLaws.reading_content, GivenLinesLaws.reading_starts}
pub use Rattle.cif_columns.proofs.{JudgedContents.judged_all, JudgedContents.judged_all_given, JudgedContents.no_contents, Names.take_rest}
pub use Rattle.cif_columns.proofs.{Names.weekdays, Names.width_of, PrintableBytes.printable_true, ReadSources.read_nothing}
pub use Rattle.cif_columns.proofs.{WrittenTexts.failed_second, WrittenTexts.written_both}
pub use Rattle.cif_columns.proofs.JudgedContents.{AreAll, AreJudgedAndRest, content_more, given_failed, given_overlong, given_too_many}
unfoldable pub use Rattle.cif_columns.proofs.Names.{begins_comment, is_comment}
pub use Rattle.cif_columns.proofs.Names.{All-contains, All-drop, All-push, All-take, All-weaker, AreAllContents, AreContentsToCut}
pub use Rattle.cif_columns.proofs.Names.{AreContentsToFault, AreContentsToRefusal, ArePrintable, BeginWithoutComment, Contains-append_right}
pub use Rattle.cif_columns.proofs.Names.{DecideNoContent, FieldValue, GivenDecideContent, HasPassedComment, IsDay, IsFirstContent, IsNextBy}
pub use Rattle.cif_columns.proofs.Names.{IsNextOf, IsNoComment, RunsOn, StandsInYymmdd, and_parts, bytes_eq-Decides, cases_lt, cond_both}
pub use Rattle.cif_columns.proofs.Names.{content, date, drop-append-add, drop-take, exactly, false_from_ne_true, false≢true}
pub use Rattle.cif_columns.proofs.Names.{flat_map-append, get_or_default, indicator, is_whole_from, length-map, length-reverse, line_of}
pub use Rattle.cif_columns.proofs.Names.{lines_of_parts, list_any, list_any-append, nil_from_length, plain_columns, reverse-append}
pub use Rattle.cif_columns.proofs.Names.{reverse-reverse, same_Some, slice_cmp, slice_get_within, source_ended, strip_carriage_return}
pub use Rattle.cif_columns.specs.{ContentReader.held, declared.ahead.ContentReader.ContentReader, declared.ahead.Most.TheVariants.InFeed}
pub use Rattle.cif_columns.specs.{declared.ahead.Most.TheVariants.Of, declared.sink.Sink.Sink}
pub use Rattle.cif_columns.specs.declared.refusal.Refusal.TheVariants.{BadByte, BadLength, OutOfOrder, TooManyLines}
pub use Rattle.cif_records.proofs.{Headers.last_is_day, Judging.dates_fine, Judging.no_open_end, Judging.none-some}
unfoldable pub use Rattle.cif_records.proofs.Names.{record_refusal}
pub use Rattle.cif_records.proofs.Names.{StandsIn, association_rows, association_rows_by, basic_front_by, basic_table, dates_refusal}
pub use Rattle.cif_records.proofs.Names.{days_of-stands, header_table, is_identity, kinds, length-plain_line, one_date_value, one_exactly}
pub use Rattle.cif_records.proofs.Names.{one_indicator, one_weekdays, plain_line-append, stp_in-letter, yymmdd_in-stands}
pub use Rattle.cif_records.specs.{AssocKey.key_cmp, declared.association.AssocBody.AssocBody, declared.association.AssocKey.AssocKey}
pub use Rattle.cif_records.specs.{declared.record.Kind.TheVariants.Ta, declared.record.Kind.TheVariants.Td}
pub use Rattle.cif_extract.proofs.{BodyFits.extract_fits, Each.Each, Each.each_append, Each.each_map, FirstRefusals.none_refused-more}
pub use Rattle.cif_extract.proofs.{FirstRefusals.not_true, FirstRefusals.or_none, LayoutLaws.AreLayouts, LayoutLaws.letter_cancels}
pub use Rattle.cif_extract.proofs.{LayoutLaws.own_are, ReadingRuns.taken_behind, ReadingRuns.taken_none, SpelledBytes.one_spelled}
pub use Rattle.cif_extract.proofs.{SpelledBytes.spelled-refused, TakenLines.refused_so}
unfoldable pub use Rattle.cif_extract.proofs.Names.{refusal_of}
pub use Rattle.cif_extract.proofs.Names.{Aa, All-append, All-cons, All-head, All-nil, All-tail, AllFit, AllStandIn, AreExtract, AreSchedule}
pub use Rattle.cif_extract.proofs.Names.{AreSchedules, AreWholeContentsAndRest, Association, Basic, BasicTerms, BodyLines, Bs}
pub use Rattle.cif_extract.proofs.Names.{BytesSpellWithin, Detail, Extra, ExtractParts, Fits, FitsColumns, GoesOnPlainly, HasFailed}
pub use Rattle.cif_extract.proofs.Names.{HasLineReason, HasReadOn, HasTaken, HasWritten, HaveBody, Hd, Header, IsBody, IsJudged, IsKeepable}
pub use Rattle.cif_extract.proofs.Names.{IsLine, IsNextFault, IsNoTrailer, IsOwed, IsPrintable, IsReadWhole, IsRefusedLine, IsResultOf}
pub use Rattle.cif_extract.proofs.Names.{IsTaken, IsTakenAs, IsTruncated, Kind, Li, LineFault, LineReads, NoneRefused, Progress, Record}
pub use Rattle.cif_extract.proofs.Names.{Refusal, Row, ScheduleFits, Source, SpellAll, SpellAllBy, SpellExtract, SpellExtractBy}
pub use Rattle.cif_extract.proofs.Names.{SpellsRecord, Stp, Ti, Tiploc, Unread, Writes, Zz, association_table, basic_back, basic_rows}
pub use Rattle.cif_extract.proofs.Names.{call_record, columns, contents_given, contents_of, detail_in-stands, detail_of, detail_rows}
pub use Rattle.cif_extract.proofs.Names.{detail_table, extra_records, extract_parts, extract_text, failed_after, failed_first, first_of}
pub use Rattle.cif_extract.proofs.Names.{fits-append, fits-front, further_lines, get_or-append_seam, get_or_append_left, has_body}
pub use Rattle.cif_extract.proofs.Names.{is_printable, kind_in, kind_of, known_both, known_so, line-plain_line, lines_text, list_all}
pub use Rattle.cif_extract.proofs.Names.{map-append, may_stand, nat_tests, nothing_left, order_refusal, own_layouts, parts_in, place_behind}
pub use Rattle.cif_extract.proofs.Names.{plain_line, plain_lines_of, printable_fact, progress_of, props, read_on_both, reader_of}
pub use Rattle.cif_extract.proofs.Names.{reading_decides, reading_ends, reading_faults, record_table, records_before_trailer, refusal_as}
pub use Rattle.cif_extract.proofs.Names.{refusal_at, refusal_behind, row, source_failed, spare, stands-plain_line, step, take-append-le}
pub use Rattle.cif_extract.proofs.Names.{take-append_seam, take_more, terms_of, text, unless, unread_of, writes_err, writes_on}
pub use Rattle.cif_extract.proofs.OneExtract.{Inside, further_inside, laid_out, one_extract, same_extract_parts, same_values}
pub use Rattle.cif_extract.proofs.PlainTexts.{RecordFits, further-fit, further-lines, spelled-fits-by, text-spells}
pub use Rattle.cif_extract.proofs.ReadCalls.{HandsOn, Makes, Refuses, answers, goes-on, hands-on, of_any, refuses}
pub use Rattle.cif_extract.specs.{ReadFault.IsLineNumber, declared.extract.Schedule.Schedule, declared.fault.Clash.Clash}
pub use Rattle.cif_extract.specs.{declared.reading.TakeFault.TakeFault, declared.reading.TakeFault.TheVariants.Refused}
pub use Rattle.cif_extract.specs.Texts.{line_of_association, line_of_tiploc, rows_on}
pub use Rattle.cif_calendar.proofs.Elements.{Contains-cases, Contains-first, Contains-rest}
pub use Rattle.cif_calendar.proofs.{KeyPositions.all-within, KeyPositions.has-key, RisingLists.Contains-none, RisingLists.not_less}
pub use Rattle.cif_calendar.proofs.Names.{AnyHasKey, Applies, AreClashDates, AreOfFirstKey, ArePositionsOf, Contains-append_cases}
pub use Rattle.cif_calendar.proofs.Names.{Contains-append_left, Contains-get_or, Contains-permutation, Contains-push, Contains-push_cases}
pub use Rattle.cif_calendar.proofs.Names.{IfOk-weaker, IsChosen, IsClear, IsPartitionPoint-from_clause, IsPartitionedBy-ltb, IsRising}
pub use Rattle.cif_calendar.proofs.Names.{IsTotalOrder, Records, Runs, SameRecords, Terms, Wins, all_pairs_push, get_or-map, keyed}
pub use Rattle.cif_calendar.{proofs.Names.tied_itself, proofs.Names.weekday_of, specs.Entries.schedule_terms}
pub use Rattle.cif_calendar.specs.Entries.{association_entries, association_entry, association_terms, schedule_entries, schedule_entry}
pub use Rattle.cif_feed.specs.Changes.{AreAfter, AreRefused, ChangeParts, HaveLastWord, TellsSame, after_all, after_change, changes_of}
pub use Rattle.cif_feed.specs.Changes.{is_changed, is_there, key_of, keyed_record, last_word, put_last, put_of, refusal, refusals}
pub use Rattle.cif_feed.specs.Changes.{transaction_of, untouched, why_unfit, with_keys, without_key}
pub use Rattle.cif_feed.specs.Counts.{counts_of, ends_open, has_holiday_code, is_deleted, is_new, is_revised, transaction_as}
pub use Rattle.cif_feed.specs.{CutCount.AppliesOnAny, CutCount.HasCut, CutCount.IsCountOf, Dropped.AreClashDays, Dropped.AreDropped}
pub use Rattle.cif_feed.specs.{Dropped.more_text, FeedLayouts.feed_layouts, FeedRefusal.fault_for, FeedRefusal.not_full}
pub use Rattle.cif_feed.specs.{FeedRefusal.untaken_fault, FromLines.ArePairs, FromLines.AreTriples, HolidayCode.all_codes}
pub use Rattle.cif_feed.specs.{HolidayCode.code_in, HolidayCode.has_code, HolidayDates.IsDateOnDaysRun, HolidayDates.IsFirstFrom}
pub use Rattle.cif_feed.specs.{HolidayText.words_of, Judged.judging, LastDay.last_day, Prepared.published_terms}
pub use Rattle.cif_feed.specs.{PreparedDays.SayAsPublished, PreparedDays.SayOfDay, PublishedParts.published_text}
pub use Rattle.cif_feed.specs.{PublishedParts.reading_published, RecordLines.notes_may_stand, RecordLines.record_lines}
pub use Rattle.cif_feed.specs.{Steps.FeedReading.read_as, Steps.FeedReading.with_passed, Steps.HolidayReading.HasLineMore}
pub use Rattle.cif_feed.specs.{Steps.HolidayReading.IsDateFault, Steps.HolidayReading.IsLineFault, Steps.Marks.with_mark}
pub use Rattle.cif_feed.specs.{Transaction.transaction_letter, UpdateParts.tiploc_changes_of, UpdateParts.update_parts, Words.is_space}
pub use Rattle.cif_feed.specs.{WrittenOver.with_code, WrittenOver.with_open_end, declared.changes.Action.Action}
pub use Rattle.cif_feed.specs.{declared.changes.RecordChange.RecordChange, declared.changes.RefusedLine.RefusedLine}
pub use Rattle.cif_feed.specs.{declared.dropped.Dropped.Dropped, declared.dropped.DroppedKey.DroppedKey}
pub use Rattle.cif_feed.specs.{declared.feed_fault.FeedFault.FeedFault, declared.feed_line.Feed.Feed}
pub use Rattle.cif_feed.specs.{declared.feed_line.Feed.TheVariants.Full, declared.feed_reading.FeedExtract.FeedExtract}
pub use Rattle.cif_feed.specs.{declared.feed_reading.FeedReading.FeedReading, declared.holidays.HolidayCode.HolidayCode}
pub use Rattle.cif_feed.specs.{declared.holidays.HolidayCode.TheVariants.E, declared.holidays.HolidayCode.TheVariants.G}
pub use Rattle.cif_feed.specs.{declared.holidays.HolidayCode.TheVariants.X, declared.holidays.HolidayCodes.HolidayCodes}
pub use Rattle.cif_feed.specs.{declared.holidays.Holidays.Holidays, declared.mark.LineMark.LineMark, declared.mark.RecordMark.RecordMark}
pub use Rattle.cif_feed.specs.{declared.mark.TiplocMark.TiplocMark, declared.mark.Transaction.Transaction}
pub use Rattle.cif_feed.specs.{declared.prepared_record.PreparedRecord.PreparedRecord, declared.prepared_record.RisingDays.RisingDays}
pub use Rattle.cif_feed.specs.{declared.published_extract.PublishedAssociation.PublishedAssociation}
pub use Rattle.cif_feed.specs.{declared.published_extract.PublishedExtract.PublishedExtract}
pub use Rattle.cif_feed.specs.{declared.published_extract.PublishedSchedule.PublishedSchedule, declared.reasons.Reasons.Reasons}
unfoldable pub use Rattle.cif_feed.specs.{Dropped.dropped_text, FeedRefusal.feed_refusal, Words.words_in, WrittenOver.with_columns}
pub use Rattle.cif_feed.specs.FeedFault.{IsFailure, IsFeedFault, IsOfFeed, is_feed_read, reading_feed}
pub use Rattle.cif_feed.specs.FeedLine.{IsClosedAt, IsDeletion, SpellsAssociationBy, SpellsBasicBy, SpellsInFeed, SpellsTiplocBy}
pub use Rattle.cif_feed.specs.FeedLine.{cancels_in_feed, code_of, code_value, deleted_association_rows, deleted_basic_rows, deletes}
pub use Rattle.cif_feed.specs.FeedLine.{end_value, if_allowed, indicator_of, is_open, letter_of, published_association_rows}
pub use Rattle.cif_feed.specs.FeedLine.{published_basic_rows, put_association_rows, put_basic_front, put_basic_rows, transaction_at}
pub use Rattle.cif_feed.specs.FeedRefusal.{IsFeedContent, IsFeedCut, IsFeedTruncated, IsFirstOfFeed, IsRefusedContent, NoneOfFeedRefused}
pub use Rattle.cif_feed.specs.HolidayText.{AreCodeAndDates, AreHolidaysOf, AreRead, IsBadLine, IsDate, IsFirstBadLine, IsHolidayFault}
pub use Rattle.cif_feed.specs.HolidayText.{IsHolidayLine, LineNames, LineSays, NamesDay, SomeLine, SpellHolidays, reading_holidays}
pub use Rattle.cif_feed.specs.Holidays.{HasMore, IsHoliday, IsHolidayOn, Names, dates_of, holidays_of}
pub use Rattle.cif_feed.specs.Judged.{HaveReasons, IsJudgedAs, IsJudgedFault, IsJudgedWhole, IsOutOfPlace, IsReadAsJudged, NoneHasReason}
pub use Rattle.cif_feed.specs.LayoutRefusals.{association_refusal_by, basic_refusal_by, feed_refusal_as, kind_read_as, open_dates_refusal}
pub use Rattle.cif_feed.specs.Marks.{MarkParts, association_mark, header_from, mark_parts, marks_in, passed_of, schedule_mark, tiploc_mark}
pub use Rattle.cif_feed.specs.OfProfile.{as_published, association_as_published, of_profile, schedule_as_published}
pub use Rattle.cif_feed.specs.Parts.{AreParts, IsBefore, IsCut, IsPart, Part, ended}
pub use Rattle.cif_feed.specs.Prepared.{AreClosed, ArePartsOf, ArePrepared, SayTheSame, part_entry, part_terms, prepared_last}
pub use Rattle.cif_feed.specs.PreparedParts.{IsPrepared, association_on, prepared_parts, schedule_on}
pub use Rattle.cif_feed.specs.Published.{AppliesAsPublished, CountOn, IsClashDay, IsHolidayOf, IsStop, PublishedTerms}
pub use Rattle.cif_feed.specs.PublishedParts.{BytesSpellPublished, IsPublishedAssociation, IsPublishedOf, IsPublishedSchedule}
pub use Rattle.cif_feed.specs.PublishedParts.{PublishedParts, SayPublished, SpellPublished, published_association_line}
pub use Rattle.cif_feed.specs.PublishedParts.{published_association_terms, published_associations, published_basic_line, published_lines}
pub use Rattle.cif_feed.specs.PublishedParts.{published_parts, published_schedule_lines, published_schedule_terms, published_schedules}
unfoldable pub use Rattle.cif_feed.specs.Reasons.{own_reason, reason_line, reasons_text, reported_text}
pub use Rattle.cif_feed.specs.Reasons.{ReportReasons, first_for, first_in, is_for, lines_for, lines_in, own_reasons, place_of, reasons_of}
pub use Rattle.cif_feed.specs.RecordLines.{is_association, is_basic, is_header, is_note, is_of_tiploc, is_record_line, is_trailer, lines_of}
pub use Rattle.cif_feed.specs.SpellsFeed.{BytesSpellFeed, FeedParts, SayFeed, SpellFeed, feed_parts}
pub use Rattle.cif_feed.specs.Steps.Changes.{AreLast, IsDone, SaysAlone, SaysThere, at_keys, is_position, last_from, last_line, same_by}
pub use Rattle.cif_feed.specs.Steps.Counting.{AreClashDatesOn, AreMerged, CountsAmong, HasCodeAt, code_list}
pub use Rattle.cif_feed.specs.Steps.Dropping.{AreAllFound, AreFound, IsCutAt, IsKeyReported, IsReported, IsStopAmong, ReadsAssociations}
pub use Rattle.cif_feed.specs.Steps.Dropping.{ReadsDates, ReadsTrains, days_in, days_with, published_by}
pub use Rattle.cif_feed.specs.Steps.FeedReading.{HasTakenFeed, IsFeedTaken, IsMarkedTaken, IsNoteTaken, IsOwn, IsRecordTaken, IsStopTaken}
pub use Rattle.cif_feed.specs.Steps.Judging.{HasJudged, IsFinished, IsInOrder, SomeHasReason}
pub use Rattle.cif_feed.specs.Steps.Marks.{HasMarks, HaveRoom, IsClosed, header_behind, is_schedule_mark, is_trailer_mark}
pub use Rattle.cif_feed.specs.Steps.Marks.{last_of_association, last_of_schedule, mark_of, one_if, plus_if, with_counts, with_line}
pub use Rattle.cif_feed.specs.Steps.PartsSoFar.{AreAdded, ArePartsBefore, IsAdded, IsFromNext, IsLeftFrom, IsPushed, IsStopOn, MayBegin}
pub use Rattle.cif_feed.specs.Steps.PartsSoFar.{added_before, before_cut, first_upto, records_on, sooner_of}
pub use Rattle.cif_feed.specs.Steps.Written.{head_text, prepared_association_text, prepared_schedule_text, published_association_text}
pub use Rattle.cif_feed.specs.Steps.Written.{published_schedule_text, records_text, tiploc_text, trailer_text}
pub use Rattle.cif_feed.specs.UpdateLines.{SayTiplocs, SaysAssociation, SaysSchedule, action_rows}
pub use Rattle.cif_feed.specs.UpdateParts.{AssociationKey, BytesSpellUpdate, IsAssociationChange, IsScheduleChange, IsUpdateOf, SayUpdate}
pub use Rattle.cif_feed.specs.UpdateParts.{ScheduleKey, SpellUpdate, UpdateParts, change_by, reading_update, tiploc_changes}
pub use Rattle.cif_feed.specs.Updated.{AreRefusedLines, IsLineRefused, IsUpdateFault, IsUpdated, IsUpdatedBy, MayBeDone}
pub use Rattle.cif_feed.specs.Updated.{published_association_key, published_schedule_key, refused_header, reported_once, updating}
pub use Rattle.cif_feed.specs.WrittenPrepared.{AreDroppedIf, FeedWrites, IsDeviceOrMemory, IsPrepareFault, IsPreparedAs, IsPreparedText}
pub use Rattle.cif_feed.specs.WrittenPrepared.{Prepares, WritesPrepared, codes_named, preparing}
pub use Rattle.cif_feed.specs.declared.feed_fault.FeedFault.TheVariants.{AlreadyThere, BadTransaction, Extract, NotThere, NotUpdate}
