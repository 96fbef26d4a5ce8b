-- Names of std, of the crates below and of specs/, from modules that several of the proofs cite.
pub use Rattle.std.proofs.Common.{Bool, Bor, Err, IfErr, IfOk, IfSome, IsErrAnd, IsTrue, List, MatchOption, MatchResult, None, Ok, Option}
pub use Rattle.std.proofs.Common.{Result, Some, [], ap, append-nil, ap₂, codes, drop, false, get_or, inl, inr, length, map, refl, rules}
pub use Rattle.std.proofs.Common.{string_bytes, subst, sym, take, true, true≢false, ℕ, ⊎_elim, ◌++◌, ◌+◌, ◌<◌, ◌||◌, ◌↔◌, ◌∙◌, ◌∷◌, ◌≡◌, ◌≢◌, ◌≤◌}
pub use Rattle.std.proofs.Common.{◌⊎◌}
pub use Rattle.clap.proofs.WalkLemmas.{first_value-rows, raw_values-rows}
pub use Rattle.clap.specs.{Simple.app_of_fields, Words.subcommand_of, Words.with_rule, Words.with_subcommand}
pub use Rattle.clap.specs.Words.{AddsArg, App, FailsBy, Text, app_of, fault_of, found_of, is_simple, is_simple_and_free, new_app, rule_of}
pub use Rattle.cif_columns.specs.declared.line_reader.TheConstants.{MAX_LINES}
pub use Rattle.cif_extract.specs.ReadCall.{ReadCall}
pub use Rattle.cif_feed.proofs.Names.{BytesSpellWithin, Clash, ExtractParts, HasFailed, HasWritten, HaveReasons, IfOk-weaker, IsJudgedFault}
pub use Rattle.cif_feed.proofs.Names.{IsResultOf, Makes, Refuses, Sink, Source, Unread, Writes, at_drop_more, extract_parts}
pub use Rattle.cif_feed.proofs.Names.{failed_second, goes-on, hands-on, judging, known_so, reader_of, reported_text, unread_of}
pub use Rattle.cif_feed.{proofs.Names.written_both, specs.FeedAnswer.IsHandedOn}
pub use Rattle.cif_canon.proofs.Names.{AreDifferences, AreNone, CanonParts, DifferencesParts, Fault, FaultWrites, Form, HasCanon, IfWritten}
pub use Rattle.cif_canon.proofs.Names.{IsCanonOfInput, IsCompareFault, IsNormaliseFault, IsOfReadNarrowed, IsOfReading, IsReadNarrowedFault}
pub use Rattle.cif_canon.proofs.Names.{IsResultOfBoth, SpellsNarrowed, Write, at-fault, err_from_is_err_and, hands, hands-either, is_read}
pub use Rattle.cif_canon.proofs.Names.{lines_of, reading_canon, reading_extract, reading_narrowed}
pub use Rattle.cif_canon.specs.{Comparison.AreCompared, Comparison.comparison_line, Counts.counts_line, Fault.IsOfCheck}
pub use Rattle.cif_canon.specs.{Fault.IsOfNormalise, Views.IsDayFault, Views.IsTrainFault, declared.asked.Asked.Asked}
pub use Rattle.cif_canon.proofs.Normalising.{canon-blamed, canon-fault, is-normalised, narrowed-fault, of-canon}
pub use Rattle.cif_views.proofs.Names.{AreAllClashes, ExtractLines, IsExplanation, IsWeekCalendar, at_drop_all, clashes_text}
pub use Rattle.cif_rows.specs.declared.format.Format.{Format}
pub use Rattle.cif_views.{proofs.Names.table_text, specs.WeekCalendar.IsWeekCalendarFault}
pub use Rattle.cif_commands.specs.Answer.{Answers, AreAnswered, AreComparedAs, CalendarJob, CanonicalJob, CompareJob, DayJob, ExplainJob}
pub use Rattle.cif_commands.specs.Answer.{Finishes, IfAnswered, IsAnswered, IsCalendarAnswer, IsCanonicalAnswer, IsCheckAllAnswer}
pub use Rattle.cif_commands.specs.Answer.{IsCheckAllFault, IsClashesAnswer, IsClashlessRefusal, IsCompareAnswer, IsDayAnswer, IsDayRefusal}
pub use Rattle.cif_commands.specs.Answer.{IsDiffAnswer, IsExplainAnswer, IsExplainRefusal, IsListedStatus, IsTrainAnswer, OfBoth, OfInput}
pub use Rattle.cif_commands.specs.Answer.{TrainJob, answering, answering_all, canonical_text, differences_in}
unfoldable pub use Rattle.cif_commands.specs.CommandLine.{chosen, cif, faults_of}
pub use Rattle.cif_commands.specs.CommandLine.{IsCommand, Parts, argument, given, program, subcommands, taken, taking, with_subcommands}
pub use Rattle.cif_commands.specs.{JobFault.Explains, JobFault.IsFaultAt, JobFault.NamesNoDay, Status.ReportsFault, Status.listed_status}
pub use Rattle.cif_commands.specs.{Status.outcome_of, declared.command_line.Argument.TheVariants.Verbose}
