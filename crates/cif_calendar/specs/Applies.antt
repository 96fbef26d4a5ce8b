-- On which days a record applies.
use Rattle.std.specs.Prelude.{ℕ, ◌≤◌, Bool, List}
use Rattle.cif_columns.specs.{Day.weekday_of, DaysRun.RunsOn}
use Rattle.cif_calendar.specs.Terms.{Terms}

-- Day d is one of the dates from `first` to `last`, both included, where the weekday is in the mask.
pub record IsAmongDates (first last : ℕ) (days : List Bool) (d : ℕ) : Type 0 where
  pub begun : first ≤ d
  pub unfinished : d ≤ last
  pub on_weekday : RunsOn days (weekday_of d)

-- The record applies on day d: from its first to its last day, where the weekday is in its mask.
abbrev pub Applies : {B : Type 0} → Terms B → ℕ → Type 0
Applies r d = IsAmongDates r.first r.last r.days d
