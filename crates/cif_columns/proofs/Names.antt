-- Names of std, of the crates below and of specs/, from modules that several of the proofs cite.
pub use Rattle.std.proofs.Common.{All, Bool, Equal, Err, Greater, IfSome, IsErr, IsSomeAnd, IsTrue, Less, List, None, Ok, Option, Ordering}
pub use Rattle.std.proofs.Common.{Result, Some, SomeIff, T, [], ap, append-nil, append_assoc, arith, below_more, bit_and, bit_or, codes}
pub use Rattle.std.proofs.Common.{cond, drop, drop-cons, drop-drop, drop_at, drop_of_length-le, eq-eqb, eq-zero-or-pos, eqb, eqb-true}
pub use Rattle.std.proofs.Common.{eqb→eq, ext_get_or, false, filter, flat_map, get_or, get_or-drop, get_or-take, inl, inr, leb-true, length}
pub use Rattle.std.proofs.Common.{length-append, length-drop, length-set, length-take, length-take-le, ltb-true, map, max, min, nat_cmp}
pub use Rattle.std.proofs.Common.{nat_eq, nat_le, nat_lt, ne_eqb, neg_ℤ, negsuc, not, of_z, ok_or, option_map, pos, refl, replicate}
pub use Rattle.std.proofs.Common.{reverse, rules, set, slice_get, slice_index, slice_range, subst, suc, sym, take, take-add}
pub use Rattle.std.proofs.Common.{take-append-drop, take-take, take_all, take_at, to_z, true, unsigned_abs, w16, w8, zero, ℕ, ℤ, ⊎_elim}
pub use Rattle.std.proofs.Common.{◌%◌, ◌&&◌, ◌*◌, ◌++◌, ◌+ℤ◌, ◌+◌, ◌-◌, ◌/◌, ◌<ℤ◌, ◌<◌, ◌==◌, ◌^◌, ◌||◌, ◌↔◌, ◌∙◌, ◌∷◌, ◌≡◌, ◌≢◌, ◌≤ℤ◌, ◌≤◌}
pub use Rattle.std.proofs.{Common.◌⊎◌, lemmas.Bool.Decides.Decides-eqb, lemmas.Bool.Decides.nat_tests}
pub use Rattle.std.proofs.{lemmas.List.Elements.same_from_all_zip, lemmas.List.Folds.list_all_more, lemmas.List.Folds.list_any-append}
pub use Rattle.std.proofs.KnownBytes.{Appends-nil, Appends-trans, Keeps-refl, Keeps-trans}
pub use Rattle.std.proofs.Math.Seq.{drop-append-add, take-append-add, take-append_seam}
pub use Rattle.std.proofs.lemmas.Bool.{and_from, and_parts, cases_lt, cond_both, false_from_ne_true, false≢true, not-true, not_from_false}
pub use Rattle.std.proofs.lemmas.Bool.{or_cases, or_from, or_parts, or_right}
pub use Rattle.std.proofs.lemmas.Grind.{common_steps, flat_map-append, reverse_onto}
pub use Rattle.std.proofs.lemmas.List.{append_cancel_right, drop-take, drop_more, get_or-append_right, get_or-replicate, get_or-reverse}
pub use Rattle.std.proofs.lemmas.List.{get_or_append_left, get_or_default, get_or_past, length-map, length-replicate, length-reverse}
pub use Rattle.std.proofs.lemmas.List.{nil_from_length, replicate-append-replicate, reverse-append, reverse-reverse, same_lists}
pub use Rattle.std.proofs.lemmas.List.{take-append-le, take_more, take_more_set, take_rest}
pub use Rattle.std.proofs.lemmas.List.Elements.{All-append, All-cons, All-contains, All-drop, All-from_get_or, All-get_or, All-head}
pub use Rattle.std.proofs.lemmas.List.Elements.{All-nil, All-push, All-replicate, All-tail, All-take, All-weaker, Contains-append_right}
pub use Rattle.std.proofs.lemmas.Nat.{and_le_l, leading_top, or_lt}
pub use Rattle.std.proofs.lemmas.Option.{get_or_from_slice_get, same_Some, slice_get-get_or, slice_get_within}
pub use Rattle.std.proofs.lemmas.Slice.Eq.{bytes_eq-Decides, strip_suffix_is, text_from_reads}
pub use Rattle.jiff_core.proofs.CalendarLemmas.{day_count-day, day_count-day_of_year, day_count-last_of_year, day_count-later_year}
pub use Rattle.jiff_core.proofs.CalendarLemmas.{day_count-lt_year, day_count-next_month, day_count-next_year, days_from_civil-day_count}
pub use Rattle.jiff_core.proofs.CalendarLemmas.{days_in_month_bounds, weekday_number-parts}
pub use Rattle.jiff_core.proofs.{MarchLemmas.day_count-early, SignedLemmas.back_small, SignedLemmas.signed_arith}
pub use Rattle.std.specs.{Char.is_ascii_digit, Char.is_ascii_whitespace, Cmp.Lexicographic.bytes_decides, Cmp.Lexicographic.pointwise}
pub use Rattle.std.specs.{Cmp.Lexicographic.slice_cmp, Str.Lines.lines, Str.Lines.lines_of_parts, Str.Lines.strip_carriage_return}
pub use Rattle.std.specs.Io.KnownBytes.{Appends, Consumes, IsAtEnd, Keeps, ReadConsumes, prepend_known}
pub use Rattle.std.specs.List.{copy_within, list_all, list_any, onto_first, slice_split}
pub use Rattle.jiff.specs.Types.{Date}
pub use Rattle.jiff_core.specs.Calendar.{day_count, days_from_civil, days_in_month}
pub use Rattle.cif_columns.specs.Activities.{AreCodes, IsCode, codes_columns, codes_in, packed}
pub use Rattle.cif_columns.specs.Ahead.{AnswersNext, BeginWithLine, CutsNext, GivenDecided, IsLast, PassesFirst, content_bytes, held_bytes}
pub use Rattle.cif_columns.specs.{Ahead.known_left, Clock.IsHourMinute, Clock.is_blank, Clock.is_clock, Field.working_time}
unfoldable pub use Rattle.cif_columns.specs.{Comment.begins_comment, Comment.is_comment, Text.text_of}
pub use Rattle.cif_columns.specs.ContentReader.{AnswersContent, IsNextOf, IsNextWithin, content, most_of}
pub use Rattle.cif_columns.specs.Contents.{AreUndecided, BeginOverlong, ComesFirst, DecideNoContent, EndsAtFeed, HasLineReason, HaveNoFeed}
pub use Rattle.cif_columns.specs.Contents.{IsFirstContent, IsFirstFeed, IsLineReason, StandsFirst, contents_of, lines_text, most_by}
unfoldable pub use Rattle.cif_columns.specs.Day.{day_number, ddmmyy_in, yymmdd_in}
pub use Rattle.cif_columns.specs.Day.{IsDated, IsDay, IsOfCentury, StandsInDdmmyy, StandsInYymmdd, day_from, is_date, year_of}
unfoldable pub use Rattle.cif_columns.specs.DayDigits.{date_of, ddmmyy_of, yymmdd_of}
pub use Rattle.cif_columns.specs.{DayDigits.CalendarDate, DayDigits.next_date, Devices.OneError, Devices.known_count, Digits.number_in}
pub use Rattle.cif_columns.specs.{Digits.two_digits, Laws.Flags.bits_of-flags, PublicTime.IsPublicTime, PublicTime.is_public_time}
pub use Rattle.cif_columns.specs.{Stp.letter, Stp.stp_in, WorkTime.IsWorkTime, WorkTime.is_work_time}
pub use Rattle.cif_columns.specs.DaysRun.{IsFirstOf, IsLastOf, RunsOn, bits_of, days_columns, days_of, flag, flags, is_flag}
pub use Rattle.cif_columns.specs.Field.{AllFit, AllStandIn, FieldValue, Fits, Row, activity_codes, columns, date, exactly, indicator}
pub use Rattle.cif_columns.specs.Field.{is_whole_from, plain_columns, plain_line, public_time, spare, text, weekdays, width_of}
pub use Rattle.cif_columns.specs.FirstLine.{is_line_feed, is_printable, line_of}
pub use Rattle.cif_columns.specs.GivenLines.{AreAllContents, AreContentsToCut, AreContentsToFault, AreContentsToRefusal}
pub use Rattle.cif_columns.specs.GivenLines.{AreWholeContentsAndRest, EndsLine, IsContentDecidedWithin}
pub use Rattle.cif_columns.specs.Line.{ArePrintable, IsLine, IsPrintable}
pub use Rattle.cif_columns.specs.LineReader.{Answers, AreAhead, BeginWithoutComment, GivenDecideContent, HasPassed, HasPassedComment}
pub use Rattle.cif_columns.specs.LineReader.{IsNextBy, IsNoComment, LineReads, PassesContent, past}
pub use Rattle.cif_columns.specs.Lines.{AreKept, first_lines_in, is_space, kept_text, lines_in, used, used_with, wide}
pub use Rattle.cif_columns.specs.PlainTest.{IsFollowed, IsFollowedOver, IsInRange, IsPlainLineOf, IsTimed, Passes, are, asks, asks_all}
pub use Rattle.cif_columns.specs.PlainTest.{asks_bytes, asks_clock, asks_left, asks_printable, asks_rows, asks_spaces, read_off, read_value}
pub use Rattle.cif_columns.specs.Sink.{HasFailed, HasWritten, Writes, sink_failed, writer_of}
pub use Rattle.cif_columns.specs.Source.{HasFailedToRead, HasReadOn, reader_of, source_ended, source_failed, unread_of}
pub use Rattle.cif_columns.specs.Text.{IsText, IsTrimmed, left_justified, without_leading}
pub use Rattle.cif_columns.specs.declared.{ahead.ContentReader.ContentReader, ahead.Most.Most, ahead.Most.TheVariants.InFeed}
pub use Rattle.cif_columns.specs.declared.{ahead.Most.TheVariants.Of, ahead.NextContent.NextContent, ahead.NextContent.TheVariants.Content}
pub use Rattle.cif_columns.specs.declared.{ahead.NextContent.TheVariants.Overlong, line.Line.Line, line_reader.LineReader.LineReader}
pub use Rattle.cif_columns.specs.declared.{plain_test.PlainTest.PlainTest, refusal.LineFault.LineFault, refusal.LineFault.TheVariants.Read}
pub use Rattle.cif_columns.specs.declared.{refusal.LineFault.TheVariants.Refused, refusal.Refusal.Refusal, sink.Sink.Sink}
pub use Rattle.cif_columns.specs.declared.{source.ReadFault.ReadFault, source.Source.Source, stp.Stp.Stp, stp.Stp.TheVariants.P}
pub use Rattle.cif_columns.specs.declared.line_reader.Past.TheVariants.{Faulted, Reading}
pub use Rattle.cif_columns.specs.declared.refusal.Refusal.TheVariants.{BadByte, BadLength, TooManyLines}
