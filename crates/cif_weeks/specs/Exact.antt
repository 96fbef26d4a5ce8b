-- Dates and a mask that show just the days of a set.
use Rattle.std.specs.Prelude.{◌≡◌, ℕ, ◌≤◌, List, Bool, length}
use Rattle.cif_columns.specs.{Day.weekday_of, DaysRun.RunsOn}
use Rattle.cif_calendar.specs.Applies.{IsAmongDates}

-- Dates and a mask show the days from `first` to `last` whose weekday is in the mask. They are exact for a set of days if the first and
-- the last day are in the set, each day that they show is in the set, each day of the set from the first to the last is shown, and each
-- weekday in the mask is that of a day that they show.
pub record IsExact (on : ℕ → Type 0) (first last : ℕ) (days : List Bool) : Type 0 where
  pub seven : length days ≡ 7
  pub in_order : first ≤ last
  pub first_on : on first
  pub last_on : on last
  pub only : (n : ℕ) → IsAmongDates first last days n → on n
  pub all : (n : ℕ) → first ≤ n → n ≤ last → on n → IsAmongDates first last days n
  pub used : (weekday : ℕ) → RunsOn days weekday → (n : ℕ) × (weekday_of n ≡ weekday) × IsAmongDates first last days n
