-- The runs of a calendar: its canonical records, by the positions of their bodies.
use Rattle.std.specs.Prelude.{◌≡◌, ℕ, ◌≤◌, List, Some, IsSome}
use Rattle.std.specs.List.{AllZip}
use Rattle.cif_calendar.specs.{Calendar.CalendarParts, Calendar.body_on, Pieces.source_at, Source.body_at, Terms.Terms}
use Rattle.cif_weeks.specs.{Meets.Meets, Permanent.Permanent, Window.Window, declared.form.Form.Form, declared.form.Run.Run}

-- each source of the calendar is the position of an entry with a body
pub record AreSources {B : Type 0} (xs : List (Terms B)) (c : CalendarParts) : Type 0 where
  pub bodied : (n i : ℕ) → c.first ≤ n → n ≤ c.last → source_at c.pieces n ≡ Some i → IsSome (body_at xs (Some i))

-- the window of a calendar
abbrev pub window_of : CalendarParts → Window
window_of c = record { first = c.first; last = c.last }

-- the record of body b with the dates and the mask of a run
abbrev pub record_of : {B : Type 0} → Run → B → Permanent B
record_of run b = record { first = run.first; last = run.last; days = run.days; body = b }

-- The run has the dates and the mask of permanent record r. Its source is that of its first day by the calendar, and the position
-- of an entry with r's body.
pub record IsRunOf {B : Type 0} (xs : List (Terms B)) (c : CalendarParts) (run : Run) (r : Permanent B) : Type 0 where
  pub dates : r ≡ record_of run r.body
  pub source : source_at c.pieces run.first ≡ Some run.source
  pub body : body_at xs (Some run.source) ≡ Some r.body

-- The runs are, one by one, those of the canonical records of the form: these say what runs by the calendar on each day of its window.
pub record AreCanonicalRuns {B : Type 0} (form : Form) (xs : List (Terms B)) (c : CalendarParts) (runs : List Run) : Type 0 where
  pub records : List (Permanent B)
  pub runs_of : AllZip (IsRunOf xs c) runs records
  pub meets : Meets form (window_of c) (body_on xs c) records
