-- The calendar of a train: a line for each week, with a character for each day.
use Rattle.std.specs.Prelude.{◌≡◌, ◌↔◌, ◌⊎◌, ℕ, ◌+◌, ◌-◌, ◌*◌, ◌≤◌, List, [], ◌∷◌, ◌++◌, Some, codes, length, map, nat_lt, slice_get}
use Rattle.std.specs.Prelude.{if◌then◌else◌}
use Rattle.std.specs.List.{flat_map, range_with_len}
use Rattle.cif_calendar.specs.{Clash.IsClear, DayState.IsDayState, Entries.schedule_entries, Keys.of_key, Runs.Runs}
use Rattle.cif_calendar.specs.declared.day_state.DayState.{DayState}
use Rattle.cif_calendar.specs.declared.day_state.DayState.TheVariants as state
use Rattle.cif_columns.specs.{Day.week_of, Day.weekday_of, DayDigits.yymmdd_of, Stp.letter}
use Rattle.cif_columns.specs.declared.stp.Stp.TheVariants.{N, O, P}
use Rattle.cif_extract.specs.{Body.BodyLines, ExtractParts.ExtractParts}
use Rattle.cif_extract.specs.declared.{fault.Fault.Fault, fault.Fault.TheVariants.Memory, fault.Fault.TheVariants.Write}

-- a space, and the characters of a day on which no record applies, or two winners differ: `.` and `!`
abbrev pub space : ℕ
space = 32

abbrev pub character : DayState → ℕ
character state.NoneApplies = 46
character state.Clash = 33
character (state.Letter stp) = letter stp

-- The character of a weekday of a week, by what stands on the days from `first` to `last`; a space outside of them. Day 0 is the fourth
-- day after the Monday of week 0.
abbrev pub cell : ℕ → ℕ → (ℕ → DayState) → ℕ → ℕ → ℕ
cell first last state_on week weekday =
    let days = week * 7 + weekday in
    if nat_lt days (first + 4) then space else (if nat_lt (last + 4) days then space else character (state_on (days - 4)))

-- the six digits of a week's Monday; spaces before 1960
abbrev pub monday_columns : ℕ → List ℕ
monday_columns week = if nat_lt (week * 7) 4 then codes "      " else yymmdd_of (week * 7 - 4)

-- the line of a week: its Monday, and its seven days
abbrev pub week_line : ℕ → ℕ → (ℕ → DayState) → ℕ → List ℕ
week_line first last state_on week =
    monday_columns week
    ++ (space ∷ (map (cell first last state_on week) (0 ∷ 1 ∷ 2 ∷ 3 ∷ 4 ∷ 5 ∷ 6 ∷ []) ++ codes "\n"))

-- the weeks that have a day from `first` to `last`
abbrev pub weeks_between : ℕ → ℕ → List ℕ
weeks_between first last = range_with_len (week_of first) (week_of last + 1 - week_of first)

-- the text: a heading, and the lines of the weeks
abbrev pub calendar_text : ℕ → ℕ → (ℕ → DayState) → List ℕ
calendar_text first last state_on = codes "       MTWTFSS\n" ++ flat_map (week_line first last state_on) (weeks_between first last)

-- The text is the calendar of train u in the window of the extract, by what stands on each of its days.
pub record IsWeekCalendar (x : ExtractParts) (u : List ℕ) (text : List ℕ) : Type 0 where
  pub state_on : ℕ → DayState
  pub states : (d : ℕ) → x.header.first ≤ d → d ≤ x.header.last → IsDayState (of_key (schedule_entries x.schedules) u) d (state_on d)
  pub text_is : text ≡ calendar_text x.header.first x.header.last state_on

-- memory ran out, or the sink failed
abbrev pub IsWeekCalendarFault : Fault → Type 0
IsWeekCalendarFault Memory = Unit {0}
IsWeekCalendarFault Write = Unit {0}
IsWeekCalendarFault _ = ⊥

-- the date of the Monday of a date's week, as six digits; spaces before 1960
abbrev pub monday_of : ℕ → List ℕ
monday_of d = if nat_lt d (weekday_of d) then codes "      " else yymmdd_of (d - weekday_of d)

-- lines of text
abbrev pub text_of : List (List ℕ) → List ℕ
text_of lines = flat_map (λ line. line ++ codes "\n") lines

-- Character c is shown of date d: of the lines after the heading, one has the date of its Monday, a space, and seven characters, of which c
-- is at its weekday.
pub record IsShown (text : List ℕ) (d c : ℕ) : Type 0 where
  pub before : List (List ℕ)
  pub after : List (List ℕ)
  pub days : List ℕ
  pub text_is : text ≡ text_of (before ++ ((monday_of d ++ (space ∷ days)) ∷ after))
  pub heading : slice_get before 0 ≡ Some (codes "       MTWTFSS")
  pub seven : length days ≡ 7
  pub at : slice_get days (weekday_of d) ≡ Some c

-- a letter other than C
abbrev pub IsRunningLetter : ℕ → Type 0
IsRunningLetter c = (c ≡ letter P) ⊎ ((c ≡ letter N) ⊎ (c ≡ letter O))

-- Of a date, what the calendar of train u shows says what runs: the letter is one of these exactly where it runs and its winners don't
-- differ.
pub record SaysWhatRuns (x : ExtractParts) (u text : List ℕ) (d : ℕ) : Type 0 where
  pub character : ℕ
  pub shown : IsShown text d character
  pub letter : IsRunningLetter character
      ↔ (IsClear (of_key (schedule_entries x.schedules) u) d
      × ((body : BodyLines) × Runs (of_key (schedule_entries x.schedules) u) d (Some body)))
