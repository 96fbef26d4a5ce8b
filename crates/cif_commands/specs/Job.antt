-- What the words of a call ask for.
use Rattle.std.specs.Prelude.{Bool, IsSomeAnd, List, None, Option, Some, [], codes, count_by, false, if◌then◌else◌, map, option_to_list}
use Rattle.std.specs.Prelude.{string_bytes, true, unwrap_or, ℕ, ⊤, ◌++◌, ◌||◌, ◌∷◌, ◌≡◌, ◌≤◌}
use Rattle.std.specs.Str.{bytes_eq}
use Rattle.clap.specs.Words.{Row, Text, all_of, first_of}
use Rattle.cif_canon.specs.declared.asked.Asked.{Asked}
use Rattle.cif_rows.specs.declared.format.Format.{Format}
use Rattle.cif_rows.specs.declared.format.Format.TheVariants as format
use Rattle.cif_views.specs.declared.{listing.Listing.Listing, tables.Table.Table as TableOf}
use Rattle.cif_views.specs.{Places.IsPlaceOf, declared.board.BoardKind.BoardKind, declared.board.BoardKind.TheVariants.Arrivals}
use Rattle.cif_views.specs.declared.{board.BoardKind.TheVariants.Departures, places.Place.Place}
use Rattle.cif_views.specs.declared.tables.Table.TheVariants as table
use Rattle.cif_columns.specs.{DateWord.IsDateWord, Uid.IsUid}
use Rattle.cif_feed.specs.declared.{changes.Waived.TheVariants.Everything, changes.Waived.TheVariants.Keys}
use Rattle.cif_feed.specs.declared.{changes.Waived.TheVariants.Nothing, changes.Waived.Waived}
use Rattle.cif_weeks.specs.declared.{form.Form.Form, form.Form.TheVariants.One, form.Form.TheVariants.Three}
use Rattle.cif_weeks.specs.declared.form.Form.TheVariants.{Two}
use Rattle.cif_commands.specs.{CommandLine.AreChoices, CommandLine.chosen, CommandLine.faults_of, declared.job.Job.TheVariants.Train}
use Rattle.cif_commands.specs.declared.{command_line.Choices.Choices, job.FeedJob.FeedJob, job.FeedJob.TheVariants.Prepare}
use Rattle.cif_commands.specs.declared.{job.FeedJob.TheVariants.Update, job.FeedJob.TheVariants.Winners}
use Rattle.cif_commands.specs.declared.{job.InputNames.InputNames, job.Job.Job, job.Request.Request}
use Rattle.cif_commands.specs.declared.{job.Task.Task, job.Task.TheVariants.Extract, job.Task.TheVariants.Feed}
use Rattle.cif_commands.specs.declared.job.{BoardJob.BoardJob}
use Rattle.cif_commands.specs.declared.job.Job.TheVariants.{Board, Calendar, Check, CheckAll, Clashes, Compare, Day, Diff, Explain, Normalise, Table}

-- The word of this id. `clap` misses none that is required; one that is missing counts as empty.
abbrev pub required_word : Text → List Row → Text
required_word id rows = unwrap_or (first_of id rows) []

-- the words of this id, in their order
abbrev pub required_words : Text → List Row → List Text
required_words id rows = unwrap_or (all_of id rows) []

-- the name of the file, which is standard input where it is absent
abbrev pub file_of : List Row → Text
file_of rows = unwrap_or (first_of (codes "FILE") rows) (codes "-")

-- the names of the inputs that the subcommand reads, in that order
abbrev pub inputs_of : Text × List Row → List Text
inputs_of (name, rows) =
    if bytes_eq name (codes "compare") || bytes_eq name (codes "diff")
    then required_word (codes "LEFT") rows ∷ required_word (codes "RIGHT") rows ∷ []
    else (if bytes_eq name (codes "prepare") then option_to_list (first_of (codes "holidays") rows) ++ (file_of rows ∷ [])
    else (if bytes_eq name (codes "update") then required_word (codes "FULL") rows ∷ required_words (codes "UPDATE") rows
    else file_of rows ∷ []))

-- the names of a call's inputs
abbrev pub names_of : InputNames → List Text
names_of inputs = string_bytes inputs.first ∷ map string_bytes inputs.rest.items

-- the word stands for standard input
abbrev pub is_standard : Text → Bool
is_standard word = bytes_eq word (codes "-")

-- how many of the words stand for standard input
abbrev pub standard_inputs : List Text → ℕ
standard_inputs words = count_by is_standard words

-- the word names the day, or neither is there
abbrev pub IsDateOf : Option Text → Option ℕ → Type 0
IsDateOf (Some word) (Some day) = IsDateWord word day
IsDateOf None None = ⊤
IsDateOf _ _ = ⊥

-- the window is asked for by the words of `--from` and `--to`
pub record IsAskedBy (rows : List Row) (asked : Asked) : Type 0 where
  pub from : IsDateOf (first_of (codes "from") rows) asked.from
  pub to : IsDateOf (first_of (codes "to") rows) asked.to

-- the form that the word of `--form` names
abbrev pub form_of : Option Text → Form
form_of (Some word) = if bytes_eq word (codes "1") then One else (if bytes_eq word (codes "3") then Three else Two)
form_of None = Two

abbrev pub is_set : Option Text → Bool
is_set (Some word) = bytes_eq word (codes "true")
is_set None = false

-- whether the flag of this id is among the words: `clap` gives `true` for it then
abbrev pub has_flag : Text → List Row → Bool
has_flag id rows = is_set (first_of id rows)

-- what the words waive: without `--lenient` nothing, and with `--in-sequence` not that an update doesn't follow
abbrev pub waived_of : List Row → Waived
waived_of rows = if has_flag (codes "lenient") rows then (if has_flag (codes "in-sequence") rows then Keys else Everything) else Nothing

-- the format that the word of `--format` names, and that of a table
abbrev pub format_of : Option Text → Format
format_of (Some word) =
    if bytes_eq word (codes "tsv") then format.Tsv else (if bytes_eq word (codes "json") then format.Json else format.Text)
format_of None = format.Text

abbrev pub table_format_of : Option Text → Format
table_format_of (Some word) = if bytes_eq word (codes "json") then format.Json else format.Tsv
table_format_of None = format.Tsv

-- the listing has this format, and the calls of each train if `--stops` is among the words
abbrev pub listing_of : List Row → Listing
listing_of rows = record { format = format_of (first_of (codes "format") rows); calls = has_flag (codes "stops") rows }

-- the table of this name
abbrev pub table_of : Text → TableOf
table_of name = if bytes_eq name (codes "header") then table.Header
    else (if bytes_eq name (codes "tiplocs") then table.Tiplocs
    else (if bytes_eq name (codes "associations") then table.Associations
    else (if bytes_eq name (codes "schedules") then table.Schedules
    else (if bytes_eq name (codes "calls") then table.Calls
    else (if bytes_eq name (codes "changes") then table.Changes else table.Public)))))

-- the six columns of the word are a UID, and it is this one
abbrev pub IsUidWord : Text → List ℕ → Type 0
IsUidWord word uid = IsUid word × (uid ≡ word)

-- the words ask for this window, and name this form
pub record AreCanonicalWords (rows : List Row) (asked : Asked) (form : Form) : Type 0 where
  pub is_asked : IsAskedBy rows asked
  pub is_form : form ≡ form_of (first_of (codes "form") rows)

-- the words ask for this window, which `--common` narrows
pub record AreComparedWords (rows : List Row) (asked : Asked) (common : Bool) : Type 0 where
  pub is_asked : IsAskedBy rows asked
  pub is_common : common ≡ has_flag (codes "common") rows

-- the word is a place, or neither is there
abbrev pub IsPlaceIf : Option Text → Option Place → Type 0
IsPlaceIf (Some word) (Some place) = IsPlaceOf word place
IsPlaceIf None None = ⊤
IsPlaceIf _ _ = ⊥

-- the subcommand of a board
abbrev pub board_name : BoardKind → Text
board_name Departures = codes "departures"
board_name Arrivals = codes "arrivals"

-- the words ask for this board, but for its kind
pub record AreBoardWords (rows : List Row) (job : BoardJob) : Type 0 where
  pub place : IsPlaceOf (required_word (codes "PLACE") rows) job.board.place
  pub day : IsDateWord (required_word (codes "YYMMDD") rows) job.board.day
  pub calling_at : IsPlaceIf (first_of (codes "calling-at") rows) job.board.calling_at
  pub format : job.format ≡ format_of (first_of (codes "format") rows)

-- the subcommand is the job's, and its matches hold what the job holds
abbrev pub IsChosen : Job → Text × List Row → Type 0
IsChosen (Normalise job) met = (met.0 ≡ codes "normalise") × AreCanonicalWords met.1 job.asked job.form
IsChosen (Check job) met = (met.0 ≡ codes "check") × (has_flag (codes "all") met.1 ≡ false)
    × AreCanonicalWords met.1 job.asked job.form
IsChosen (CheckAll job) met = (met.0 ≡ codes "check") × (has_flag (codes "all") met.1 ≡ true)
    × AreCanonicalWords met.1 job.asked job.form
IsChosen (Compare job) met = (met.0 ≡ codes "compare") × AreComparedWords met.1 job.asked job.common
IsChosen (Diff job) met = (met.0 ≡ codes "diff")
    × AreComparedWords met.1 job.compared.asked job.compared.common
    × (job.format ≡ format_of (first_of (codes "format") met.1))
IsChosen (Day job) met = (met.0 ≡ codes "day")
    × IsDateWord (required_word (codes "YYMMDD") met.1) job.day
    × (job.listing ≡ listing_of met.1)
IsChosen (Train job) met = (met.0 ≡ codes "train")
    × IsUidWord (required_word (codes "UID") met.1) job.uid
    × AreCanonicalWords met.1 job.asked job.form
    × (job.listing ≡ listing_of met.1)
IsChosen (Explain job) met = (met.0 ≡ codes "explain")
    × IsUidWord (required_word (codes "UID") met.1) job.uid
    × IsDateWord (required_word (codes "YYMMDD") met.1) job.day
    × (job.format ≡ format_of (first_of (codes "format") met.1))
IsChosen (Clashes job) met = (met.0 ≡ codes "clashes")
    × IsAskedBy met.1 job.asked
    × (job.format ≡ format_of (first_of (codes "format") met.1))
IsChosen (Table job) met = (met.0 ≡ codes "table")
    × (job.table ≡ table_of (required_word (codes "TABLE") met.1))
    × AreCanonicalWords met.1 job.canonical.asked job.canonical.form
    × (job.format ≡ table_format_of (first_of (codes "format") met.1))
IsChosen (Calendar job) met = (met.0 ≡ codes "calendar")
    × IsUidWord (required_word (codes "UID") met.1) job.uid
    × IsAskedBy met.1 job.asked
    × (job.format ≡ format_of (first_of (codes "format") met.1))
IsChosen (Board job) met = (met.0 ≡ board_name job.board.kind) × AreBoardWords met.1 job

-- the words that were met ask for this job on published extracts
abbrev pub IsFeedChosen : FeedJob → Text × List Row → Type 0
IsFeedChosen (Prepare job) met = (met.0 ≡ codes "prepare") × (has_flag (codes "winners") met.1 ≡ false)
    × (first_of (codes "format") met.1 ≡ None) × (job.drop_clashes ≡ has_flag (codes "drop-clashes") met.1)
IsFeedChosen (Winners job) met = (met.0 ≡ codes "prepare") × (has_flag (codes "winners") met.1 ≡ true)
    × (job.format ≡ table_format_of (first_of (codes "format") met.1))
    × (job.prepare.drop_clashes ≡ has_flag (codes "drop-clashes") met.1)
IsFeedChosen (Update job) met = (met.0 ≡ codes "update") × (job.waived ≡ waived_of met.1)

-- the words that were met ask for this task
abbrev pub IsTaskChosen : Task → Text × List Row → Type 0
IsTaskChosen (Extract job) = IsChosen job
IsTaskChosen (Feed job) = IsFeedChosen job

-- The words that were met ask for this call, which has the names of the inputs, of which at most one is standard input.
pub record IsRequestChosen (request : Request) (met : Text × List Row) : Type 0 where
  pub task : IsTaskChosen request.task met
  pub inputs : names_of request.inputs ≡ inputs_of met
  pub one_standard : standard_inputs (names_of request.inputs) ≤ 1
  pub verbose : request.verbose ≡ has_flag (codes "verbose") met.1

-- `clap` takes the words, enters the task's subcommand and finds what the call holds
pub record Asks (words : List Text) (request : Request) : Type 0 where
  pub choices : Choices
  pub are_choices : AreChoices choices
  pub taken : faults_of choices words ≡ []
  pub is_chosen : IsSomeAnd (chosen choices words) (IsRequestChosen request)
