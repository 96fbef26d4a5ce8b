-- The calendar of a train as a table: a row for each date.
use Rattle.std.specs.Prelude.{◌≡◌, ℕ, ◌+◌, ◌-◌, ◌≤◌, List, [], ◌∷◌, ◌++◌, codes}
use Rattle.std.specs.List.{flat_map, range_with_len}
use Rattle.cif_calendar.specs.{DayState.IsDayState, Entries.schedule_entries, Keys.of_key}
use Rattle.cif_calendar.specs.declared.day_state.DayState.{DayState}
use Rattle.cif_calendar.specs.declared.day_state.DayState.TheVariants as state
use Rattle.cif_columns.specs.DayDigits.{yymmdd_of}
use Rattle.cif_columns.specs.declared.stp.Stp.TheVariants.{C, N, O, P}
use Rattle.cif_extract.specs.ExtractParts.{ExtractParts}
use Rattle.cif_rows.specs.{Row.Field, Row.Value, Row.all_named, Row.heading_text, Row.nothing, Row.number, Row.row_text, Row.text}
use Rattle.cif_rows.specs.declared.{format.Format.Format, shape.Shape.TheVariants.Date, shape.Shape.TheVariants.Whole}
use Rattle.cif_views.specs.WeekCalendar.{character}

abbrev pub date_names : List (List ℕ)
date_names = codes "uid" ∷ codes "date" ∷ codes "mark" ∷ codes "runs" ∷ []

-- 1 on a date on which the train runs, and 0 on one on which it doesn't; nothing if two winners differ
abbrev pub runs : DayState → Value
runs state.NoneApplies = number 0
runs state.Clash = nothing
runs (state.Letter C) = number 0
runs (state.Letter P) = number 1
runs (state.Letter N) = number 1
runs (state.Letter O) = number 1

-- the row of a date, on which this stands
abbrev pub date_row : List ℕ → ℕ → DayState → List Field
date_row u d s = all_named date_names ((Whole, u) ∷ (Date, yymmdd_of d) ∷ text (character s ∷ []) ∷ runs s ∷ [])

-- the dates from `first` to `last`
abbrev pub dates_between : ℕ → ℕ → List ℕ
dates_between first last = range_with_len first (last + 1 - first)

-- the text: the names of the fields, and the rows of the dates
abbrev pub dates_text : Format → List ℕ → ℕ → ℕ → (ℕ → DayState) → List ℕ
dates_text format u first last state_on =
    heading_text format date_names ++ flat_map (λ d. row_text format (date_row u d (state_on d))) (dates_between first last)

-- The text is the table of train u in the window of the extract, by what stands on each of its dates.
pub record IsDateCalendar (format : Format) (x : ExtractParts) (u text : List ℕ) : Type 0 where
  pub state_on : ℕ → DayState
  pub states : (d : ℕ) → x.header.first ≤ d → d ≤ x.header.last → IsDayState (of_key (schedule_entries x.schedules) u) d (state_on d)
  pub text_is : text ≡ dates_text format u x.header.first x.header.last state_on
