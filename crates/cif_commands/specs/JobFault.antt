-- Why the words of a call ask for nothing.
use Rattle.std.specs.Prelude.{Err, IfErr, IfOk, IsSomeAnd, List, None, Ok, Option, Result, Some, [], codes, if◌then◌else◌, string_bytes, ℕ}
use Rattle.std.specs.Prelude.{false, ⊤, ◌++◌, ◌<◌, ◌∷◌, ◌≡◌, ◌≢◌, ◌⊎◌}
use Rattle.std.specs.Str.{bytes_eq}
use Rattle.clap.specs.{Words.IsAmong, Words.Row, Words.Text, Words.first_of, declared.error.ErrorKind.TheVariants.DisplayVersion}
use Rattle.clap.specs.declared.{error.ErrorKind.ErrorKind, error.ErrorKind.TheVariants.DisplayHelp}
use Rattle.cif_columns.{specs.DateWord.IsDateWord, specs.Uid.IsUid, specs.declared.sink.Sink.Sink, specs.declared.sink.WriteFault.WriteFault}
use Rattle.cif_columns.specs.Sink.{HasFailed, HasWritten, Writes}
use Rattle.cif_extract.specs.declared.{fault.Fault.Fault, fault.Fault.TheVariants.Write}
use Rattle.cif_feed.specs.FeedAnswer.{IsHandedOn}
use Rattle.cif_views.specs.Places.{IsPlaceWord}
use Rattle.cif_commands.specs.CommandLine.{AreChoices, chosen, faults_of, subcommands}
use Rattle.cif_commands.specs.Job.{IsTaskChosen, has_flag, inputs_of, required_word, standard_inputs}
use Rattle.cif_commands.{specs.Status.ReportsFault, specs.Status.end_status, specs.declared.job.Task.Task}
use Rattle.cif_commands.specs.declared.{command_line.Argument.Argument, command_line.Choices.Choices, job.Inputs.Inputs, job.JobFault.JobFault}
use Rattle.cif_commands.specs.declared.job.Inputs.TheVariants.{Extracts, HolidaysAndFile, LeftAndRight}
use Rattle.cif_commands.specs.declared.job.JobFault.TheVariants.{BadDate, BadPlace, BadUid, FormatAlone, Memory, NoCommand, StandardInputTwice, Usage}

-- the word isn't a date
abbrev pub NamesNoDay : Text → Type 0
NamesNoDay word = (day : ℕ) → ¬ IsDateWord word day

-- the word isn't six bytes from 0x20 to 0x7E
abbrev pub IsNoUid : Text → Type 0
IsNoUid word = ¬ IsUid word

-- the word under the id, if there is one, names no day
abbrev pub HasBadDate : Text → List Row → Type 0
HasBadDate id rows = IsSomeAnd (first_of id rows) NamesNoDay

-- a word of `--from` or `--to` names no day
abbrev pub HasBadWindow : List Row → Type 0
HasBadWindow rows = HasBadDate (codes "from") rows ⊎ HasBadDate (codes "to") rows

-- the subcommand takes a place, and its word is none
abbrev pub IsBoardName : Text → Type 0
IsBoardName name = (name ≡ codes "departures") ⊎ (name ≡ codes "arrivals")

abbrev pub HasBadPlace : Text × List Row → Type 0
HasBadPlace met = IsBoardName met.0 × ¬ IsPlaceWord (required_word (codes "PLACE") met.1)

-- the word of `--calling-at` is no place
abbrev pub HasBadGoal : List Row → Type 0
HasBadGoal rows = IsSomeAnd (first_of (codes "calling-at") rows) (λ word. ¬ IsPlaceWord word)

-- why the words of a board ask for nothing: a place is none, or else a date is none, or else the place where trains have to call is none
abbrev pub IsBoardFault : List Row → JobFault → Type 0
IsBoardFault rows BadPlace = (¬ IsPlaceWord (required_word (codes "PLACE") rows))
    ⊎ (IsPlaceWord (required_word (codes "PLACE") rows) × (¬ NamesNoDay (required_word (codes "YYMMDD") rows)) × HasBadGoal rows)
IsBoardFault rows BadDate = IsPlaceWord (required_word (codes "PLACE") rows) × NamesNoDay (required_word (codes "YYMMDD") rows)
IsBoardFault rows fault = ⊥

-- the subcommand takes a day, and its word names none
abbrev pub HasBadDay : Text × List Row → Type 0
HasBadDay met = ((met.0 ≡ codes "day") ⊎ ((met.0 ≡ codes "explain") ⊎ IsBoardName met.0)) × NamesNoDay (required_word (codes "YYMMDD") met.1)

-- the subcommand takes a UID, and its word is none
abbrev pub HasBadUid : Text × List Row → Type 0
HasBadUid met = ((met.0 ≡ codes "train") ⊎ ((met.0 ≡ codes "explain") ⊎ (met.0 ≡ codes "calendar")))
    × IsNoUid (required_word (codes "UID") met.1)

-- `prepare` is given a format, and no table of winners is asked for
abbrev pub HasFormatAlone : Text × List Row → Type 0
HasFormatAlone met =
    (met.0 ≡ codes "prepare") × (has_flag (codes "winners") met.1 ≡ false) × ((word : Text) × (first_of (codes "format") met.1 ≡ Some word))

-- none of these subcommands has the name
abbrev pub IsNoneOf : List (Text × List Argument) → Text → Type 0
IsNoneOf [] name = ⊤
IsNoneOf (s ∷ rest) name = (name ≢ s.0) × IsNoneOf rest name

-- which inputs the subcommand reads, where it reads several
abbrev pub several_of : Text → Inputs
several_of name = if bytes_eq name (codes "prepare") then HolidaysAndFile
    else (if bytes_eq name (codes "update") then Extracts else LeftAndRight)

-- the words ask for a task otherwise, but two or more of its inputs are standard input
pub record IsStandardTwice (inputs : Inputs) (met : Text × List Row) : Type 0 where
  pub task : Task
  pub is_chosen : IsTaskChosen task met
  pub twice : 1 < standard_inputs (inputs_of met)
  pub which : inputs ≡ several_of met.0

-- Why the words of a subcommand ask for nothing: it isn't one of the program's own; or a UID is none, or a place is none, or else a date is
-- none, or else the place where trains have to call is none; or there is a format without a table; or else two inputs are standard input.
-- Memory may run out at any words.
abbrev pub IsWordFault : JobFault → Text × List Row → Type 0
IsWordFault NoCommand met = IsNoneOf subcommands met.0
IsWordFault BadUid met = HasBadUid met
IsWordFault BadPlace met = HasBadPlace met ⊎ (IsBoardName met.0 × (¬ HasBadPlace met) × (¬ HasBadDay met) × HasBadGoal met.1)
IsWordFault BadDate met = (¬ HasBadUid met) × (¬ HasBadPlace met)
    × (HasBadDay met ⊎ HasBadWindow met.1)
IsWordFault FormatAlone met = HasFormatAlone met
IsWordFault (StandardInputTwice inputs) met = IsStandardTwice inputs met
IsWordFault Memory met = ⊤
IsWordFault (Usage kind text) met = ⊥

-- the matches of a subcommand ask for what `IsOf` says, or for nothing, as the fault says
pub record IsAskedFor {J : Type 0} (IsOf : J → Text × List Row → Type 0) (met : Text × List Row) (result : Result J JobFault) : Type 0 where
  pub ok : IfOk result (λ job. IsOf job met)
  pub err : IfErr result (λ fault. IsWordFault fault met)

-- why the subcommand that `clap` enters, which is none only at no command, asks for nothing
abbrev pub IsEnteredFault : Option (Text × List Row) → JobFault → Type 0
IsEnteredFault (Some met) fault = IsWordFault fault met
IsEnteredFault None fault = fault ≡ NoCommand

-- `clap` refuses the words, by the kind of its error, or it takes them and they ask for nothing
abbrev pub IsFaultAt : Choices → List Text → JobFault → Type 0
IsFaultAt choices words (Usage kind text) = IsAmong kind (faults_of choices words)
IsFaultAt choices words Memory = ⊤
IsFaultAt choices words fault = (faults_of choices words ≡ []) × IsEnteredFault (chosen choices words) fault

-- why these words ask for nothing
pub record IsFaultOf (words : List Text) (fault : JobFault) : Type 0 where
  pub choices : Choices
  pub are_choices : AreChoices choices
  pub fault_is : IsFaultAt choices words fault

-- help and the version, where they are asked for, are no mistake
abbrev pub kind_status : ErrorKind → ℕ
kind_status DisplayHelp = 0
kind_status DisplayVersion = 0
kind_status _ = 2

-- the status that the program exits with
abbrev pub status_of : JobFault → ℕ
status_of (Usage kind text) = kind_status kind
status_of NoCommand = 2
status_of BadDate = 2
status_of BadUid = 2
status_of BadPlace = 2
status_of FormatAlone = 2
status_of (StandardInputTwice inputs) = 2
status_of Memory = 4

-- what is said of it: the line that names the fault, or the text of `clap`
abbrev pub text_of : JobFault → Text
text_of (Usage kind text) = string_bytes text
text_of NoCommand = codes "cif: no command\n"
text_of BadDate = codes "cif: bad date\n"
text_of BadUid = codes "cif: bad UID\n"
text_of BadPlace = codes "cif: bad place\n"
text_of FormatAlone = codes "error: the following required arguments were not provided:\n  --winners\n\n"
    ++ codes "Usage: cif prepare --winners --format <FORMAT> [FILE]\n\nFor more information, try '--help'.\n"
text_of (StandardInputTwice LeftAndRight) = codes "cif: LEFT and RIGHT are both standard input\n"
text_of (StandardInputTwice HolidaysAndFile) = codes "cif: --holidays and FILE are both standard input\n"
text_of (StandardInputTwice Extracts) = codes "cif: two inputs are standard input\n"
text_of Memory = codes "cif: Memory\n"

-- The text went to the output, whole, and nothing to the errors.
pub record IsShown {O E : Type 0} (contents : O → Option (List ℕ)) (write_errors : O → Option ℕ) (text : Text) (output output_new : Sink O)
    (errors errors_new : Sink E) : Type 0 where
  pub written : HasWritten contents write_errors text output output_new
  pub silent : errors_new ≡ errors

-- The text went to the errors, as far as it could be written, and nothing to the output.
pub record IsReported {O E : Type 0} (contents : E → Option (List ℕ)) (write_errors : E → Option ℕ) (text : Text)
    (output output_new : Sink O) (errors errors_new : Sink E) : Type 0 where
  pub reported : Result (Unit {0}) WriteFault
  pub writes : Writes contents write_errors text errors errors_new reported
  pub silent : output_new ≡ output

-- What an explanation of a fault owes the two sinks: help and the version go to the output, and all else to the errors. At Write the
-- output has failed to take the whole text of help or the version.
abbrev pub Explains : {O E : Type 0} → (O → Option (List ℕ)) → (O → Option ℕ) → (E → Option (List ℕ)) → (E → Option ℕ) → JobFault →
    Sink O → Sink O → Sink E → Sink E → Result ℕ Fault → Type 0
Explains contents write_errors error_contents error_errors fault output output_new errors errors_new (Ok status) =
    (status ≡ status_of fault)
    × (status_of fault ≡ 0 → IsShown contents write_errors (text_of fault) output output_new errors errors_new)
    × (status_of fault ≢ 0 → IsReported error_contents error_errors (text_of fault) output output_new errors errors_new)
Explains contents write_errors error_contents error_errors fault output output_new errors errors_new (Err Write) =
    (status_of fault ≡ 0) × (errors_new ≡ errors) × HasFailed contents write_errors (text_of fault) output output_new
Explains contents write_errors error_contents error_errors fault output output_new errors errors_new (Err _) = ⊥

-- What comes of arguments that ask for nothing: they are explained, and once that is handed on, the status is theirs. If help or the
-- version can't be written, the line of that fault goes to the errors.
pub record IsExplained {O E : Type 0} (contents : O → Option (List ℕ)) (write_errors : O → Option ℕ) (holds_nothing : O → Type 0)
    (error_contents : E → Option (List ℕ)) (error_errors : E → Option ℕ) (fault : JobFault) (output output_new : Sink O)
    (errors errors_new : Sink E) (status : ℕ) : Type 0 where
  pub explained : Result ℕ Fault
  pub between : Sink E
  pub explains : Explains contents write_errors error_contents error_errors fault output output_new errors between explained
  pub handed_on : status_of fault ≡ 0 → IsHandedOn holds_nothing output_new explained
  pub line : ReportsFault error_contents error_errors explained between errors_new
  pub status_is : status ≡ end_status explained
