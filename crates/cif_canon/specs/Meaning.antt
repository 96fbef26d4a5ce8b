-- What an extract says.
use Rattle.std.specs.Prelude.{◌≡◌, ◌↔◌, Contains}
use Rattle.cif_calendar.specs.{Entries.association_entries, Entries.schedule_entries, Meaning.EntriesSayTheSame}
use Rattle.cif_extract.specs.ExtractParts.{ExtractParts}
use Rattle.cif_records.specs.declared.tiploc.Tiploc.{Tiploc}
use Rattle.cif_weeks.specs.Window.{Window}
use Rattle.cif_canon.specs.Asked.{header_window}

-- Two extracts agree in a window: they have the same TI records, whose repeats and order don't count, and on each day of the window
-- the same associations hold and the same trains run, with the same bodies.
pub record Agree (window : Window) (x y : ExtractParts) : Type 0 where
  pub tiplocs : (t : Tiploc) → Contains x.tiplocs t ↔ Contains y.tiplocs t
  pub associations : EntriesSayTheSame (association_entries x.associations) (association_entries y.associations) window.first window.last
  pub schedules : EntriesSayTheSame (schedule_entries x.schedules) (schedule_entries y.schedules) window.first window.last

-- Two extracts say the same: columns 3 to 60 of their headers are equal, and with them their windows, and they agree in that window.
pub record SameMeaning (x y : ExtractParts) : Type 0 where
  pub header : x.header.columns ≡ y.header.columns
  pub agree : Agree (header_window x.header) x y
