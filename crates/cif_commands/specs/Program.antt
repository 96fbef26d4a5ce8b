-- What comes of a call of the program: what goes to the output and to the errors, and the status, for all words and all inputs.
use Rattle.std.specs.Prelude.{Bool, Err, IfErr, List, Ok, Option, Result, codes, true, ℕ, ◌||◌, ◌≡◌, ◌⊎◌}
use Rattle.std.specs.{List.list_any, Str.bytes_eq}
use Rattle.std.specs.declared.alloc.AllocError.{AllocError}
use Rattle.clap.specs.Words.{Text}
use Rattle.cif_columns.specs.{Sink.Writes, declared.sink.Sink.Sink, declared.sink.WriteFault.WriteFault}
use Rattle.cif_columns.specs.declared.source.Source.{Source}
use Rattle.cif_extract.specs.declared.{fault.Fault.Fault, fault.Fault.TheVariants.Memory}
use Rattle.cif_rows.specs.{Appended.IsAppended, declared.format.Format.Format}
use Rattle.cif_feed.specs.FeedAnswer.{AreUpdatesRead, FeedAnswers, IsHandedOn, IsPrepareAnswer, IsPrepareFault, IsPreparedInTurn, IsReported}
use Rattle.cif_feed.specs.FeedAnswer.{IsUpdateAnswer, IsUpdateFault, OfHolidays, OfUpdates, prepare_reported, reported_of}
use Rattle.cif_feed.specs.WinnersAnswer.{AreWinnersInTurn, IsWinnersAnswer, IsWinnersRefusal}
use Rattle.cif_feed.specs.declared.{dropped.Dropped.Dropped, feed_fault.FeedFault.FeedFault, prepare.KeptPrepare.KeptPrepare}
use Rattle.cif_feed.specs.declared.updates_in_turn.KeptUpdate.{KeptUpdate}
use Rattle.cif_commands.specs.Answer.{Answers, IsJobAnswer, IsJobResult}
use Rattle.cif_commands.specs.{Input.AreFeedInputs, Input.AreJobInputs, Input.AreUpdateInputs, Job.Asks, Job.names_of}
use Rattle.cif_commands.specs.{JobFault.IsExplained, JobFault.IsFaultOf}
use Rattle.cif_commands.specs.{Reported.reported_by_prepare, Reported.reported_by_update, Reported.reported_status}
use Rattle.cif_commands.specs.{Status.ReportsFault, Status.end_status, Status.status_of}
use Rattle.cif_commands.specs.declared.{job.FeedJob.TheVariants.Prepare, job.FeedJob.TheVariants.Update}
use Rattle.cif_commands.specs.declared.{job.FeedJob.TheVariants.Winners, job.Job.Job, job.JobFault.JobFault}
use Rattle.cif_commands.specs.declared.{job.PrepareJob.PrepareJob, job.Request.Request, job.Task.Task, job.Task.TheVariants.Extract}
use Rattle.cif_commands.specs.declared.{job.Task.TheVariants.Feed, job.UpdateJob.UpdateJob}

-- What the devices of a call tell of themselves, where they do: what an input has left, and how often it failed; what each name gives; what
-- the output and the errors have taken, and how often they failed; and that the output holds nothing back.
pub record Told (R W E : Type 0) : Type 1 where
  pub remaining : R → Option (List ℕ)
  pub read_errors : R → Option ℕ
  pub given : Text → Option (List ℕ)
  pub contents : W → Option (List ℕ)
  pub write_errors : W → Option ℕ
  pub holds_nothing : W → Type 0
  pub error_contents : E → Option (List ℕ)
  pub error_errors : E → Option ℕ

abbrev pub told_by : {R W E : Type 0} → (R → Option (List ℕ)) → (R → Option ℕ) → (Text → Option (List ℕ)) → (W → Option (List ℕ)) →
    (W → Option ℕ) → (W → Type 0) → (E → Option (List ℕ)) → (E → Option ℕ) → Told R W E
told_by remaining read_errors given contents write_errors holds_nothing error_contents error_errors = record {
  remaining = remaining;
  read_errors = read_errors;
  given = given;
  contents = contents;
  write_errors = write_errors;
  holds_nothing = holds_nothing;
  error_contents = error_contents;
  error_errors = error_errors;
}

-- ---- what is done

-- A job of extracts is done: the output has its answer, the errors have the line of its fault, and the status is that of the answer.
pub record IsJobDone {R W E : Type 0} (told : Told R W E) (job : Job) (names : List Text) (output output_new : Sink W)
    (errors reported : Sink E) (status : ℕ) : Type 0 where
  pub left : Source R
  pub left_new : Source R
  pub right : Source R
  pub right_new : Source R
  pub inputs : AreJobInputs told.remaining told.given names left right
  pub answered : Result ℕ Fault
  pub answer : Answers told.contents told.write_errors (IsJobAnswer told.remaining job left right) output output_new answered
  pub reads : IsJobResult told.remaining told.read_errors job left left_new right right_new answered
  pub handed_on : IsHandedOn told.holds_nothing output_new answered
  pub line : ReportsFault told.error_contents told.error_errors answered errors reported
  pub status_is : status ≡ end_status answered

-- `prepare` is done: the output has the prepared extract, and the errors have what is reported of it, or the line of its fault.
pub record IsPrepareDone {R W E : Type 0} (told : Told R W E) (job : PrepareJob) (names : List Text) (output output_new : Sink W)
    (errors reported : Sink E) (status : ℕ) : Type 0 where
  pub holidays : Option (Source R)
  pub holidays_new : Option (Source R)
  pub source : Source R
  pub source_new : Source R
  pub inputs : AreFeedInputs told.remaining told.given names holidays source
  pub answered : Result Dropped FeedFault
  pub kept : KeptPrepare
  pub answer : FeedAnswers told.contents told.write_errors (prepare_reported kept)
      (λ text shown. OfHolidays told.remaining (λ given bytes. IsReported (IsPrepareAnswer job.drop_clashes given bytes text) shown)
      holidays source) output output_new answered
  pub fault : OfHolidays told.remaining (λ given bytes. IfErr answered (IsPrepareFault given bytes)) holidays source
  pub reads : IsPreparedInTurn told.remaining told.read_errors holidays holidays_new source source_new answered
  pub handed_on : IsHandedOn told.holds_nothing output_new answered
  pub lines : IsAppended told.error_contents told.error_errors (reported_by_prepare answered kept) errors reported
  pub status_is : status ≡ reported_status answered

-- `prepare --winners` is done: the output has the table of the winners, and the errors what `prepare` reports.
pub record AreWinnersDone {R W E : Type 0} (told : Told R W E) (job : PrepareJob) (format : Format) (names : List Text)
    (output output_new : Sink W) (errors reported : Sink E) (status : ℕ) : Type 0 where
  pub holidays : Option (Source R)
  pub holidays_new : Option (Source R)
  pub source : Source R
  pub source_new : Source R
  pub inputs : AreFeedInputs told.remaining told.given names holidays source
  pub answered : Result Dropped FeedFault
  pub kept : KeptPrepare
  pub answer : FeedAnswers told.contents told.write_errors (prepare_reported kept)
      (λ text shown. OfHolidays told.remaining
      (λ given bytes. IsReported (IsWinnersAnswer job.drop_clashes format given bytes text) shown) holidays source)
      output output_new answered
  pub fault : OfHolidays told.remaining (λ given bytes. IfErr answered (IsWinnersRefusal job.drop_clashes given bytes)) holidays source
  pub reads : AreWinnersInTurn told.remaining told.read_errors job.drop_clashes holidays holidays_new source source_new answered
  pub handed_on : IsHandedOn told.holds_nothing output_new answered
  pub lines : IsAppended told.error_contents told.error_errors (reported_by_prepare answered kept) errors reported
  pub status_is : status ≡ reported_status answered

-- `update` is done: the output has what the updates, in their order, make of the full extract, and the errors have what is reported of them.
pub record IsUpdateDone {R W E : Type 0} (told : Told R W E) (job : UpdateJob) (names : List Text) (output output_new : Sink W)
    (errors reported : Sink E) (status : ℕ) : Type 0 where
  pub full : Source R
  pub full_new : Source R
  pub updates : List (Source R)
  pub updates_new : List (Source R)
  pub inputs : AreUpdateInputs told.remaining told.given names full updates
  pub answered : Result (Unit {0}) FeedFault
  pub kept : KeptUpdate
  pub answer : FeedAnswers told.contents told.write_errors (λ _. reported_of kept)
      (λ text shown. OfUpdates told.remaining (λ bytes given. IsReported (IsUpdateAnswer job.waived bytes given text) shown) full updates)
      output output_new answered
  pub fault : OfUpdates told.remaining (λ bytes given. IfErr answered (IsUpdateFault job.waived bytes given)) full updates
  pub reads : AreUpdatesRead told.remaining told.read_errors (λ _. kept.done.items) job.waived full full_new updates updates_new answered
  pub handed_on : IsHandedOn told.holds_nothing output_new answered
  pub lines : IsAppended told.error_contents told.error_errors (reported_by_update answered kept) errors reported
  pub status_is : status ≡ reported_status answered

-- the task is done with the inputs of these names
abbrev pub IsDone : {R W E : Type 0} → Told R W E → Task → List Text → Sink W → Sink W → Sink E → Sink E → ℕ → Type 0
IsDone told (Extract job) = IsJobDone told job
IsDone told (Feed (Prepare job)) = IsPrepareDone told job
IsDone told (Feed (Winners job)) = AreWinnersDone told job.prepare job.format
IsDone told (Feed (Update job)) = IsUpdateDone told job

-- Memory ran out before an input was read: nothing goes to the output, and the errors have the line of that fault.
pub record IsOutOfMemory {R W E : Type 0} (told : Told R W E) (output output_new : Sink W) (errors reported : Sink E) (status : ℕ)
    : Type 0 where
  pub silent : output_new ≡ output
  pub line : ReportsFault told.error_contents told.error_errors (Err Memory) errors reported
  pub status_is : status ≡ status_of Memory

-- ---- advice

-- What is said to people comes after the lines of the call, if they are to be helped: its text is free. Else nothing is said.
abbrev pub IsAdvised : {R W E : Type 0} → Told R W E → Bool → Sink E → Sink E → Type 0
IsAdvised told helps reported errors_new = (errors_new ≡ reported)
    ⊎ ((helps ≡ true) × ((text : List ℕ) × (written : Result (Unit {0}) WriteFault)
    × Writes told.error_contents told.error_errors text reported errors_new written))

-- the word asks for more on standard error
abbrev pub is_verbose : Text → Bool
is_verbose word = bytes_eq word (codes "-v") || bytes_eq word (codes "--verbose")

-- ---- a call

-- The words ask for this, and it is done with the inputs that they name, or memory ran out.
pub record IsAskedAndDone {R W E : Type 0} (told : Told R W E) (is_terminal : Bool) (words : List Text) (output output_new : Sink W)
    (errors errors_new : Sink E) (status : ℕ) : Type 0 where
  pub request : Request
  pub asks : Asks words request
  pub reported : Sink E
  pub done : IsDone told request.task (names_of request.inputs) output output_new errors reported status
      ⊎ IsOutOfMemory told output output_new errors reported status
  pub advice : IsAdvised told (is_terminal || request.verbose) reported errors_new

-- Once the inputs are opened a task is done, by these steps, and advice is given; else nothing has happened.
abbrev pub IsDoneAndAdvised : {R W E : Type 0} → Told R W E → Bool →
    (Told R W E → List Text → Sink W → Sink W → Sink E → Sink E → ℕ → Type 0) → List Text → Sink W → Sink W → Sink E → Sink E → Result ℕ AllocError → Type 0
IsDoneAndAdvised {E = E} told helps IsTaskDone names output output_new errors errors_new (Ok status) =
    (reported : Sink E) × IsTaskDone told names output output_new errors reported status × IsAdvised told helps reported errors_new
IsDoneAndAdvised told helps IsTaskDone names output output_new errors errors_new (Err fault) =
    (output_new ≡ output) × (errors_new ≡ errors)

-- A fault of the words is explained, and advice is given.
abbrev pub IsFaultAnswered : {R W E : Type 0} → Told R W E → Bool → JobFault → Sink W → Sink W → Sink E → Sink E → ℕ → Type 0
IsFaultAnswered {E = E} told helps fault output output_new errors errors_new status = (reported : Sink E)
    × IsExplained told.contents told.write_errors told.holds_nothing told.error_contents told.error_errors fault
    output output_new errors reported status
    × IsAdvised told helps reported errors_new

-- The words ask for nothing, for this reason, and that is explained.
pub record IsRefused {R W E : Type 0} (told : Told R W E) (is_terminal : Bool) (words : List Text) (output output_new : Sink W)
    (errors errors_new : Sink E) (status : ℕ) : Type 0 where
  pub fault : JobFault
  pub is_fault : IsFaultOf words fault
  pub reported : Sink E
  pub explained : IsExplained told.contents told.write_errors told.holds_nothing told.error_contents told.error_errors fault
      output output_new errors reported status
  pub advice : IsAdvised told (is_terminal || list_any is_verbose words) reported errors_new

-- What comes of a call with these words, of which the first is the program's name, whatever its inputs give.
abbrev pub ProgramAnswers : {R W E : Type 0} → Told R W E → Bool → List Text → Sink W → Sink W → Sink E → Sink E → ℕ → Type 0
ProgramAnswers told is_terminal words output output_new errors errors_new status =
    IsAskedAndDone told is_terminal words output output_new errors errors_new status
    ⊎ IsRefused told is_terminal words output output_new errors errors_new status
