-- What is found among the dates of a code.
use Rattle.std.specs.Prelude.{ℕ, ◌<◌, ◌≤◌, Bool, List, Option, Some, None, Contains}
use Rattle.cif_columns.specs.{Day.weekday_of, DaysRun.RunsOn}

-- d is one of the dates, and its weekday is in the mask
pub record IsDateOnDaysRun (dates : List ℕ) (days : List Bool) (d : ℕ) : Type 0 where
  pub listed : Contains dates d
  pub on_weekday : RunsOn days (weekday_of d)

-- day d is the first from `from` to `last` of which P holds, or it holds of none
abbrev pub IsFirstFrom : (ℕ → Type 0) → ℕ → ℕ → Option ℕ → Type 0
IsFirstFrom P from last None = (d : ℕ) → from ≤ d → d ≤ last → ¬ P d
IsFirstFrom P from last (Some d) = (from ≤ d) × (d ≤ last) × P d × ((e : ℕ) → from ≤ e → e < d → ¬ P e)
