-- Names of std, of the crates below and of specs/, from modules that several of the proofs cite.
pub use Rattle.std.proofs.Common.{All, Bool, Err, IfErr, IfOk, IfSome, IsErrAnd, IsSomeAnd, List, MatchBool, MatchResult, None, Ok, Option}
pub use Rattle.std.proofs.Common.{Result, Some, [], ap, append-nil, append_assoc, ap₂, arith, below_more, bytes_eq, codes, cond, drop}
pub use Rattle.std.proofs.Common.{false, flat_map, get_or, inl, inr, is_ok, is_some, length, length-append, length-drop, map, nat_eq}
pub use Rattle.std.proofs.Common.{nat_lt, ne_eqb, not, option_copied, option_map, refl, replicate, rules, slice_range, subst, suc, sym}
pub use Rattle.std.proofs.Common.{take, take_all, true, true≢false, ℕ, ⊎_elim, ◌++◌, ◌+◌, ◌-◌, ◌<◌, ◌↔◌, ◌∙◌, ◌∷◌, ◌≡◌, ◌≢◌, ◌≤◌, ◌⊎◌}
pub use Rattle.std.proofs.{Math.Seq.get_or-append_seam, lemmas.List.map-append, lemmas.Result.err_from_is_err_and}
pub use Rattle.std.{proofs.lemmas.Result.on_ok_weaker, specs.Cmp.Lexicographic.pointwise_decides}
pub use Rattle.cif_columns.proofs.GivenLinesLaws.{IsReading, contents_given, known_both, known_so, nothing_left, reading_decides}
pub use Rattle.cif_columns.proofs.GivenLinesLaws.{reading_ends, reading_faults, reading_line, with_rest}
pub use Rattle.cif_columns.proofs.Names.{All-cons, All-head, All-nil, All-tail, AreCodes, AreWholeContentsAndRest, Fits, HasFailed}
pub use Rattle.cif_columns.proofs.Names.{HasFailedToRead, HasLineReason, HasReadOn, HasWritten, IsCode, LineReads, Writes, contents_of}
pub use Rattle.cif_columns.proofs.Names.{is_printable, letter, lines_text, list_all, reader_of, source_failed, take-append-le, take_more}
pub use Rattle.cif_columns.proofs.{Names.unread_of, ReadSources.failed_after, ReadSources.read_on_both}
pub use Rattle.cif_columns.proofs.WrittenTexts.{failed_first, writes_err, writes_on}
pub use Rattle.cif_columns.specs.GivenLines.{AreAllLines, AreLinesToFailure, AreLinesToFault, IsDecided}
pub use Rattle.cif_columns.specs.LineReader.{IsNextFault, given, left, limit}
pub use Rattle.cif_columns.specs.{Source.Unread, declared.refusal.LineFault.LineFault, declared.source.Source.Source}
pub use Rattle.cif_records.proofs.{Basics.detail_there, Basics.no_detail_there, Details.detail_columns, Details.detail_in-stands}
pub use Rattle.cif_records.proofs.Names.{All-append, AllFit, AllStandIn, C, IsJudged, IsLine, IsPlainOf, IsPrintable, P, Refusal, Row}
pub use Rattle.cif_records.proofs.Names.{SpellsChange, SpellsExtra, SpellsOrigin, SpellsRecord, SpellsStop, SpellsTerminus, Stp, basic_back}
pub use Rattle.cif_records.proofs.Names.{basic_front, basic_rows, bytes_decides, change_in, columns, detail_in, detail_rows, detail_table}
pub use Rattle.cif_records.proofs.Names.{extra_in, extra_refusal, extra_table, fits-append, fits-front, get_or_append_left, has_body}
pub use Rattle.cif_records.proofs.Names.{kind_in, line-plain_line, nat_tests, origin_table, plain_line, printable_fact, props}
pub use Rattle.cif_records.proofs.Names.{record_refusal, record_table, refusal_as, row, spare, stands-back, stands-plain_line, stop_in}
pub use Rattle.cif_records.proofs.Names.{take-append_seam, terminus_table, text, tiploc_table}
pub use Rattle.cif_records.proofs.Records.{kind_of, no_refusal}
pub use Rattle.cif_records.specs.{Association.association_table, Basic.terms_of, Checks.first_of, Checks.unless}
pub use Rattle.cif_records.specs.declared.{association.Association.Association, basic.Basic.Basic, basic.BasicTerms.BasicTerms}
pub use Rattle.cif_records.specs.declared.{detail.Detail.Detail, extra.Extra.Extra, header.Header.Header, origin.Origin.Origin}
pub use Rattle.cif_records.specs.declared.{record.Kind.Kind, record.Record.Record, terminus.Terminus.Terminus, tiploc.Tiploc.Tiploc}
pub use Rattle.cif_records.specs.declared.record.Kind.TheVariants.{Aa, Bs, Bx, Cr, Hd, Li, Lo, Lt, Ti, Zz}
pub use Rattle.cif_extract.specs.Body.{BodyLines, IsBody, KeepAll, KeepBody, KeepJourney, KeepMore, KeepSomeBody, body_of, body_tables}
pub use Rattle.cif_extract.specs.Body.{detail_of, is_extra, journey_in, parts_in}
pub use Rattle.cif_extract.specs.BodyParts.{BodyParts, body_records, extra_records, journey_records}
pub use Rattle.cif_extract.specs.Call.{SpellsSomeCall, before_last, call_in, call_record}
pub use Rattle.cif_extract.specs.{ExtractParts.ExtractParts, ExtractParts.extract_parts, Fault.of_line_fault, Layouts.Layouts}
pub use Rattle.cif_extract.specs.{Layouts.own_layouts, OrderOfRecords.place_behind_by, ReadFault.IsReadAs, ReadFault.IsReadFault}
pub use Rattle.cif_extract.specs.{ReadFault.reading_extract, declared.call.Call.Call, declared.call.Call.TheVariants.At}
pub use Rattle.cif_extract.specs.{declared.call.Call.TheVariants.Turn, declared.extract.Extract.Extract, declared.extract.Schedule.Schedule}
pub use Rattle.cif_extract.specs.{declared.fault.Fault.Fault, declared.place.Place.Place, declared.reading.TakeFault.TakeFault}
unfoldable pub use Rattle.cif_extract.specs.{FirstRefusal.refusal_of, Texts.schedule_lines}
pub use Rattle.cif_extract.specs.FirstRefusal.{IsCutBeforeRefusal, IsFirstRefusal, IsRefusedLine, IsTruncated, NoneRefused, order_refusal}
pub use Rattle.cif_extract.specs.Grammar.{AreExtract, AreJourney, AreSchedule, AreSchedules, BeginExtract, HaveBody, records_before_trailer}
pub use Rattle.cif_extract.specs.OrderOfRecords.{AreInOrder, MayComeAfter, after_extra, after_further, may_stand, place_after, place_behind}
pub use Rattle.cif_extract.specs.ReadCall.{IsOwed, IsReadWhole, IsResultOf, IsResultOfBoth, ReadCall}
pub use Rattle.cif_extract.specs.SpellsExtract.{BytesSpell, BytesSpellWithin, SpellAll, SpellAllBy, SpellExtract, SpellExtractBy}
pub use Rattle.cif_extract.specs.Steps.Reading.{GoesOnPlainly, HasLast, HasOwn, HasRead, HasReadAt, IsCancelled, IsClosed, IsFurther}
pub use Rattle.cif_extract.specs.Steps.Reading.{IsFurtherPlainly, IsKeepable, IsKept, IsOpened, IsTaken, IsTakenAs, IsWhole, IsWithin}
pub use Rattle.cif_extract.specs.Steps.Reading.{Progress, UnlessRefused, begun_journey, closed, fault_at_line, keeping, no_progress}
pub use Rattle.cif_extract.specs.Steps.Reading.{parts_with_header, progress_of, schedule_of, step, with_kept, with_schedule}
pub use Rattle.cif_extract.specs.Taken.{HasTaken, IsNoTrailer, IsTakenBehind, refusal_at, refusal_behind}
pub use Rattle.cif_extract.specs.Texts.{FitsColumns, ScheduleFits, extract_lines, extract_text, further_lines, plain_lines_of}
