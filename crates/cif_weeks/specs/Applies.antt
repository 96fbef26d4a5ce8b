-- On which days a permanent record applies, and which weeks are its own.
use Rattle.std.specs.Prelude.{ℕ, ◌≤◌}
use Rattle.cif_columns.specs.Day.{week_of}
use Rattle.cif_calendar.specs.Applies as entry
use Rattle.cif_weeks.specs.Permanent.{Permanent, terms_of}

-- The record applies on day n, as an entry of the calendar does: from its first to its last day, both included, where the
-- weekday is in its mask.
abbrev pub Applies : {B : Type 0} → Permanent B → ℕ → Type 0
Applies r n = entry.Applies (terms_of r) n

-- The week is one of the record's: those from the week of its first day to the week of its last, both included.
pub record IsWeekOf {B : Type 0} (r : Permanent B) (week : ℕ) : Type 0 where
  pub begun : week_of r.first ≤ week
  pub unfinished : week ≤ week_of r.last

-- Day n is in the record's range, from its first to its last day.
pub record IsInRange {B : Type 0} (r : Permanent B) (n : ℕ) : Type 0 where
  pub from : r.first ≤ n
  pub upto : n ≤ r.last
