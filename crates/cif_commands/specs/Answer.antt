-- What the commands answer: a text on the output, and a status.
use Rattle.std.specs.Prelude.{◌≡◌, ◌⊎◌, ◌≤◌, ⊤, ℕ, Bool, List, Option, Some, IfSome, Result, Ok, Err, IfOk, IfErr, [], Contains, length}
use Rattle.cif_columns.specs.{JudgedContents.judged_contents, Sink.Writes, Source.Unread, Source.reader_of}
use Rattle.cif_columns.specs.declared.{line_reader.TheConstants.MAX_LINES, refusal.Refusal.Refusal, sink.Sink.Sink, source.Source.Source}
use Rattle.cif_extract.specs.{ExtractParts.ExtractParts, ExtractParts.extract_parts, SpellsExtract.BytesSpellWithin}
use Rattle.cif_extract.specs.ReadCall.{IsResultOf, IsResultOfBoth, ReadCall, reading}
use Rattle.cif_extract.specs.ReadFault.{IsReadFault, is_read, reading_extract}
use Rattle.cif_extract.specs.declared.{extract.Extract.Extract, fault.Clash.Clash, fault.Fault.Fault}
use Rattle.cif_extract.specs.declared.fault.Fault.TheVariants.{Memory, Read, Refused, Write}
use Rattle.cif_feed.specs.{FeedAnswer.IsHandedOn, Judged.IsJudgedFault, Judged.NoneHasReason, Reasons.reasons_in, Reasons.reasons_text}
use Rattle.cif_canon.specs.{Accepted.SpellsNarrowed, Canon.CanonParts, Comparison.AreCompared, Comparison.IsCompareFault}
use Rattle.cif_canon.specs.{Comparison.comparison_line, Counts.counts_line, Fault.IsNormaliseFault, Fault.IsOfNormalise}
use Rattle.cif_canon.specs.{Fault.IsReadNarrowedFault, Lines.lines_of, Normalised.FaultWrites, Normalised.IsNormalised, Pair.AreNarrowed}
use Rattle.cif_canon.specs.{Pair.IsNarrowedPair, Pair.SpellPair, Views.IsDayFault, declared.asked.Asked.Asked}
use Rattle.cif_canon.specs.{declared.canonical_form.Counts.Counts, declared.comparison.Comparison.Comparison}
use Rattle.cif_rows.specs.declared.format.{Format.Format, Format.TheVariants.Text}
use Rattle.cif_views.specs.{Clashes.AreAllClashes, Clashes.clash_table, Clashes.clashes_text, DateCalendar.IsDateCalendar}
use Rattle.cif_views.specs.{Boards.IsBoard, DifferenceTable.difference_table, Explanation.IsExplanation}
use Rattle.cif_views.specs.{Explanation.IsExplanationFault, Listing.IsDayListing, Listing.IsTrainListing, TableText.table_text}
use Rattle.cif_views.specs.{WeekCalendar.IsWeekCalendar}
use Rattle.cif_canon.specs.Differences.{AreDifferences, AreNone, DifferencesParts, TurnLeftIntoRight, differences_text}
use Rattle.cif_commands.{specs.Status.outcome_of, specs.declared.job.Job.TheVariants.Train}
pub use Rattle.cif_commands.specs.declared.{job.BoardJob.BoardJob, job.CalendarJob.CalendarJob, job.CanonicalJob.CanonicalJob, job.ClashesJob.ClashesJob, job.CompareJob.CompareJob}
pub use Rattle.cif_commands.specs.declared.{job.DayJob.DayJob, job.ExplainJob.ExplainJob, job.TrainJob.TrainJob}
use Rattle.cif_commands.specs.declared.{answers.CanonicalOutput.CanonicalOutput, answers.PairOutput.PairOutput, job.Job.Job}
use Rattle.cif_commands.specs.declared.answers.CanonicalOutput.TheVariants as output
use Rattle.cif_commands.specs.declared.answers.PairOutput.TheVariants as pair
use Rattle.cif_commands.specs.declared.job.Job.TheVariants.{Board, Calendar, Check, CheckAll, Clashes, Compare, Day, Diff, Explain, Normalise, Table}

-- P holds of the status of an answer, whose text was written or, at Write, a prefix of it was
abbrev pub IfAnswered : Result ℕ Fault → (ℕ → Type 0) → Type 0
IfAnswered (Ok status) P = P status
IfAnswered (Err Write) P = (status : ℕ) × P status
IfAnswered (Err fault) P = ⊤

-- What a command owes its sink: the text of its answer at a status, and no byte more; a prefix of it at Write, also where the whole text
-- couldn't be handed on; nothing at another fault.
pub record Answers {W : Type 0} (contents : W → Option (List ℕ)) (errors : W → Option ℕ) (IsAnswer : List ℕ → ℕ → Type 0)
    (old new : Sink W) (result : Result ℕ Fault) : Type 0 where
  pub text : List ℕ
  pub writes : FaultWrites contents errors text old new result
  pub answer : IfAnswered result (IsAnswer text)

-- where the bytes that a reader gives are known, this answers them
abbrev pub OfInput : {R : Type 0} → (R → Option (List ℕ)) → (List ℕ → List ℕ → ℕ → Type 0) → Source R → List ℕ → ℕ → Type 0
OfInput remaining IsAnswer source text status = IfSome (remaining (reader_of source)) (λ bytes. IsAnswer bytes text status)

-- where the bytes that two readers give are known, this answers them
abbrev pub OfBoth : {R : Type 0} → (R → Option (List ℕ)) → (List ℕ → List ℕ → List ℕ → ℕ → Type 0) → Source R → Source R → List ℕ →
    ℕ → Type 0
OfBoth remaining IsAnswer left right =
    OfInput remaining (λ left_bytes text status. OfInput remaining (IsAnswer left_bytes) right text status) left

-- what is written of a canonical form
abbrev pub canonical_text : CanonicalOutput → CanonParts → List ℕ
canonical_text output.Extract canon = canon.text
canonical_text output.Counts canon = counts_line canon.counts
canonical_text (output.Table table format) canon = table_text format table canon.lines

-- `normalise`, `check` and `table` answer these bytes by their canonical text, by how many records it has, and by a table of the extract
-- that it is.
pub record IsCanonicalAnswer (output : CanonicalOutput) (job : CanonicalJob) (bytes text : List ℕ) (status : ℕ) : Type 0 where
  pub canonical : List ℕ
  pub counts : Counts
  pub normalised : IsNormalised job.form job.asked MAX_LINES bytes canonical counts
  pub text_is : text ≡ canonical_text output
      (record { text = canonical; lines = lines_of normalised.canonical.made; counts = counts })
  pub status_is : status ≡ 0

-- Some of the lines of these bytes have a reason to be refused, each judged by itself, and the text says which.
pub record AreReasons (bytes text : List ℕ) (status : ℕ) : Type 0 where
  pub within : length (judged_contents bytes) ≤ MAX_LINES
  pub why : Refusal
  pub some : Contains (reasons_in bytes) (Some why)
  pub text_is : text ≡ reasons_text (reasons_in bytes)
  pub status_is : status ≡ 3

-- `check --all` answers these bytes by these reasons, or, where there is none, as `check` does.
abbrev pub IsCheckAllAnswer : CanonicalJob → List ℕ → List ℕ → ℕ → Type 0
IsCheckAllAnswer job bytes text status =
    AreReasons bytes text status ⊎ (NoneHasReason (judged_contents bytes) × IsCanonicalAnswer output.Counts job bytes text status)

-- `day` answers these bytes by what runs on the day, in this listing.
pub record IsDayAnswer (job : DayJob) (bytes text : List ℕ) (status : ℕ) : Type 0 where
  pub extract : ExtractParts
  pub spelled : BytesSpellWithin MAX_LINES bytes extract
  pub view : IsDayListing job.listing extract job.day text
  pub status_is : status ≡ 0

-- `departures` and `arrivals` answer these bytes by the board of a place, in this format.
pub record IsBoardAnswer (job : BoardJob) (bytes text : List ℕ) (status : ℕ) : Type 0 where
  pub extract : ExtractParts
  pub spelled : BytesSpellWithin MAX_LINES bytes extract
  pub view : IsBoard job.format extract job.board text
  pub status_is : status ≡ 0

-- `train` answers these bytes by when the train runs, in this listing.
pub record IsTrainAnswer (job : TrainJob) (bytes text : List ℕ) (status : ℕ) : Type 0 where
  pub extract : ExtractParts
  pub spelled : SpellsNarrowed MAX_LINES job.asked extract bytes
  pub view : IsTrainListing job.listing job.form extract job.uid text
  pub status_is : status ≡ 0

-- `compare` answers two inputs by how they compare in the window that is asked for.
pub record IsCompareAnswer (job : CompareJob) (left_bytes right_bytes text : List ℕ) (status : ℕ) : Type 0 where
  pub left : ExtractParts
  pub right : ExtractParts
  pub spelled : SpellPair job.asked job.common left_bytes right_bytes left right
  pub comparison : Comparison
  pub compared : AreCompared left right comparison
  pub text_is : text ≡ comparison_line comparison
  pub status_is : status ≡ outcome_of comparison

-- the status tells whether there is none of what is listed
abbrev pub IsListedStatus : Type 0 → ℕ → Type 0
IsListedStatus None status = ((status ≡ 0) × None) ⊎ ((status ≡ 1) × ¬ None)

-- the text of differences in this format
abbrev pub differences_in : Format → DifferencesParts → List ℕ
differences_in Text differences = differences_text differences
differences_in format differences = difference_table format differences

-- `diff` answers two inputs by their differences in the window that is asked for, in this format.
pub record IsDiffAnswer (format : Format) (job : CompareJob) (left_bytes right_bytes text : List ℕ) (status : ℕ) : Type 0 where
  pub left : ExtractParts
  pub right : ExtractParts
  pub spelled : SpellPair job.asked job.common left_bytes right_bytes left right
  pub differences : DifferencesParts
  pub are_differences : AreDifferences left right differences
  -- applied to what the left one says, they give what the right one says
  pub turn : TurnLeftIntoRight left right differences
  pub text_is : text ≡ differences_in format differences
  pub status_is : IsListedStatus (AreNone differences) status

-- one of these two, by what is said of the inputs
abbrev pub IsPairAnswer : PairOutput → CompareJob → List ℕ → List ℕ → List ℕ → ℕ → Type 0
IsPairAnswer pair.Comparison job = IsCompareAnswer job
IsPairAnswer (pair.Differences format) job = IsDiffAnswer format job

-- `explain` answers these bytes by why the train runs on the day, or doesn't, in this format.
pub record IsExplainAnswer (job : ExplainJob) (bytes text : List ℕ) (status : ℕ) : Type 0 where
  pub extract : ExtractParts
  pub spelled : BytesSpellWithin MAX_LINES bytes extract
  pub explanation : IsExplanation job.format extract job.uid job.day text
  pub status_is : status ≡ 0

-- the text of clashes in this format
abbrev pub clashes_in : Format → List Clash → List ℕ
clashes_in Text clashes = clashes_text clashes
clashes_in format clashes = clash_table format clashes

-- `clashes` answers an input by all its clashes in the window that is asked for, in this format.
pub record IsClashesAnswer (job : ClashesJob) (bytes text : List ℕ) (status : ℕ) : Type 0 where
  pub extract : ExtractParts
  pub spelled : SpellsNarrowed MAX_LINES job.asked extract bytes
  pub clashes : List Clash
  pub are_clashes : AreAllClashes extract clashes
  pub text_is : text ≡ clashes_in job.format clashes
  pub status_is : IsListedStatus (clashes ≡ []) status

-- Why `check --all` has no answer to these bytes, where `after` is what the reader has left then: a line is one too many, or the source
-- failed; or no line has a reason, and it is a fault of `check`.
abbrev pub IsCheckAllFault : Asked → List ℕ → Unread → Fault → Type 0
IsCheckAllFault asked bytes after (Refused line why) = IsJudgedFault MAX_LINES bytes after (Refused line why)
IsCheckAllFault asked bytes after Read = IsJudgedFault MAX_LINES bytes after Read
IsCheckAllFault asked bytes after Memory = ⊤
IsCheckAllFault asked bytes after Write = ⊤
IsCheckAllFault asked bytes after fault =
    NoneHasReason (judged_contents bytes) × IsNormaliseFault MAX_LINES asked bytes after fault

-- Why `day` has no answer to these bytes, where `after` is what the reader has left then: the first refusal, or else what the view
-- refuses.
abbrev pub IsDayRefusal : ℕ → List ℕ → Unread → Fault → Type 0
IsDayRefusal day bytes after fault = IsReadFault MAX_LINES bytes after fault
    ⊎ ((extract : ExtractParts) × BytesSpellWithin MAX_LINES bytes extract × IsDayFault extract day fault)

-- Why `explain` has no answer: the input's first refusal, or why there is no explanation.
abbrev pub IsExplainRefusal : ℕ → List ℕ → Unread → Fault → Type 0
IsExplainRefusal day bytes after fault = IsReadFault MAX_LINES bytes after fault
    ⊎ ((extract : ExtractParts) × BytesSpellWithin MAX_LINES bytes extract × IsExplanationFault extract day fault)

-- The text is the calendar of the train in this format: week by week, or a table of its dates.
abbrev pub IsCalendarIn : Format → ExtractParts → List ℕ → List ℕ → Type 0
IsCalendarIn Text = IsWeekCalendar
IsCalendarIn format = IsDateCalendar format

-- `calendar` answers these bytes by the calendar of the train in the window that is asked for, in this format.
pub record IsCalendarAnswer (job : CalendarJob) (bytes text : List ℕ) (status : ℕ) : Type 0 where
  pub extract : ExtractParts
  pub spelled : SpellsNarrowed MAX_LINES job.asked extract bytes
  pub view : IsCalendarIn job.format extract job.uid text
  pub status_is : status ≡ 0

-- Why `clashes` or `calendar`, which refuse no clash, have no answer: the bytes aren't read as an extract for the window that is asked
-- for; or they are, and the sink failed.
abbrev pub IsClashlessRefusal : Asked → List ℕ → Unread → Fault → Type 0
IsClashlessRefusal asked bytes after Write = (extract : ExtractParts) × SpellsNarrowed MAX_LINES asked extract bytes
IsClashlessRefusal asked bytes after fault = IsReadNarrowedFault MAX_LINES asked bytes after fault

-- what a command with one input may come to: any status, or one of these faults; for any source no fault but those of `normalise`
abbrev pub answering : (List ℕ → Unread → Fault → Type 0) → ReadCall ℕ Fault
answering IsFault = reading is_read (λ bytes status. ⊤) IsFault (IsOfNormalise MAX_LINES)

-- where `check --all` lists reasons, it reads no more than the first lines of an input that has one without an end
abbrev pub answering_all : Asked → ReadCall ℕ Fault
answering_all asked = record (answering (IsCheckAllFault asked)) { IsWhole = λ status. status ≡ 0 }

-- What `compare` and `diff` make of two whole extracts: an answer; or none since they aren't narrowed, or else aren't compared, or since
-- the answer can't be written.
abbrev pub AreComparedAs : Asked → Bool → Extract → Extract → Result ℕ Fault → Type 0
AreComparedAs asked common left right (Ok status) = ⊤
AreComparedAs asked common left right (Err fault) = IsNarrowedPair asked common left right (Err fault)
    ⊎ ((x y : ExtractParts) × AreNarrowed asked common (extract_parts left) (extract_parts right) x y
    × (IsCompareFault x y fault ⊎ (fault ≡ Write)))

-- What a command with one input owes its sink, what comes of its source, and that nothing is held back.
pub record IsAnswered {R W : Type 0} (remaining : R → Option (List ℕ)) (read_errors : R → Option ℕ) (contents : W → Option (List ℕ))
    (write_errors : W → Option ℕ) (holds_nothing : W → Type 0) (IsAnswer : List ℕ → List ℕ → ℕ → Type 0) (call : ReadCall ℕ Fault)
    (source source_new : Source R) (sink sink_new : Sink W) (result : Result ℕ Fault) : Type 0 where
  pub answer : Answers contents write_errors (OfInput remaining IsAnswer source) sink sink_new result
  pub reads : IsResultOf remaining read_errors call source source_new result
  pub handed_on : IsHandedOn holds_nothing sink_new result

-- What a command with two inputs owes its sink, what comes of its sources, and what it makes once both are whole extracts.
pub record AreAnswered {R W : Type 0} (remaining : R → Option (List ℕ)) (read_errors : R → Option ℕ) (contents : W → Option (List ℕ))
    (write_errors : W → Option ℕ) (holds_nothing : W → Type 0) (IsAnswer : List ℕ → List ℕ → List ℕ → ℕ → Type 0)
    (Makes : Extract → Extract → Result ℕ Fault → Type 0) (left left_new right right_new : Source R) (sink sink_new : Sink W)
    (result : Result ℕ Fault) : Type 0 where
  pub answer : Answers contents write_errors (OfBoth remaining IsAnswer left right) sink sink_new result
  pub reads : IsResultOfBoth remaining read_errors (reading_extract MAX_LINES) Makes left left_new right right_new result
  pub handed_on : IsHandedOn holds_nothing sink_new result

-- what the job's command answers of what the readers of its input and of a second one give
abbrev pub IsJobAnswer : {R : Type 0} → (R → Option (List ℕ)) → Job → Source R → Source R → List ℕ → ℕ → Type 0
IsJobAnswer remaining (Normalise job) source right = OfInput remaining (IsCanonicalAnswer output.Extract job) source
IsJobAnswer remaining (Check job) source right = OfInput remaining (IsCanonicalAnswer output.Counts job) source
IsJobAnswer remaining (CheckAll job) source right = OfInput remaining (IsCheckAllAnswer job) source
IsJobAnswer remaining (Compare job) source right = OfBoth remaining (IsCompareAnswer job) source right
IsJobAnswer remaining (Diff job) source right = OfBoth remaining (IsDiffAnswer job.format job.compared) source right
IsJobAnswer remaining (Day job) source right = OfInput remaining (IsDayAnswer job) source
IsJobAnswer remaining (Train job) source right = OfInput remaining (IsTrainAnswer job) source
IsJobAnswer remaining (Explain job) source right = OfInput remaining (IsExplainAnswer job) source
IsJobAnswer remaining (Clashes job) source right = OfInput remaining (IsClashesAnswer job) source
IsJobAnswer remaining (Table job) source right = OfInput remaining (IsCanonicalAnswer (output.Table job.table job.format) job.canonical) source
IsJobAnswer remaining (Calendar job) source right = OfInput remaining (IsCalendarAnswer job) source
IsJobAnswer remaining (Board job) source right = OfInput remaining (IsBoardAnswer job) source

-- why a command with one input has none
abbrev pub IsJobFault : Job → List ℕ → Unread → Fault → Type 0
IsJobFault (CheckAll job) = IsCheckAllFault job.asked
IsJobFault (Normalise job) = IsNormaliseFault MAX_LINES job.asked
IsJobFault (Check job) = IsNormaliseFault MAX_LINES job.asked
IsJobFault (Train job) = IsNormaliseFault MAX_LINES job.asked
IsJobFault (Table job) = IsNormaliseFault MAX_LINES job.canonical.asked
IsJobFault (Day job) = IsDayRefusal job.day
IsJobFault (Board job) = IsDayRefusal job.board.day
IsJobFault (Explain job) = IsExplainRefusal job.day
IsJobFault (Clashes job) = IsClashlessRefusal job.asked
IsJobFault (Calendar job) = IsClashlessRefusal job.asked
IsJobFault _ = λ bytes after fault. ⊥

-- What comes of the sources of the job's command: `compare` and `diff` read both, one after the other, and each other command its input
-- alone.
abbrev pub IsJobResult : {R : Type 0} → (R → Option (List ℕ)) → (R → Option ℕ) → Job → Source R → Source R → Source R → Source R →
    Result ℕ Fault → Type 0
IsJobResult remaining errors (Compare job) =
    IsResultOfBoth remaining errors (reading_extract MAX_LINES) (AreComparedAs job.asked job.common)
IsJobResult remaining errors (Diff job) =
    IsResultOfBoth remaining errors (reading_extract MAX_LINES) (AreComparedAs job.compared.asked job.compared.common)
IsJobResult remaining errors (CheckAll job) = λ source source_new right right_new result.
    IsResultOf remaining errors (answering_all job.asked) source source_new result × (right_new ≡ right)
IsJobResult remaining errors job = λ source source_new right right_new result.
    IsResultOf remaining errors (answering (IsJobFault job)) source source_new result × (right_new ≡ right)

-- this status, once what was written is handed on; a fault of the writing is the answer
abbrev pub Finishes : {W A : Type 0} → (W → Option (List ℕ)) → (W → Option ℕ) → ℕ → Result A Fault → Sink W → Sink W → Result ℕ Fault →
    Type 0
Finishes contents errors status (Ok done) old new result =
    Writes contents errors [] old new result × IfOk result (λ answered. answered ≡ status) × IfErr result (λ fault. fault ≡ Write)
Finishes contents errors status (Err fault) old new result = (result ≡ Err fault) × (new ≡ old)
