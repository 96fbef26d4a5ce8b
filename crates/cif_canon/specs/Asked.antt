-- The window that is asked for, as a part of an extract's own.
use Rattle.std.specs.Prelude.{◌≡◌, ◌≤◌, ◌<◌, IfSome, None, unwrap_or}
use Rattle.cif_extract.specs.ExtractParts.{ExtractParts}
use Rattle.cif_extract.specs.declared.{fault.Fault.Fault, fault.Fault.TheVariants.OutsideWindow, fault.Fault.TheVariants.WindowReversed}
use Rattle.cif_records.specs.{HeaderColumns.with_window, declared.header.Header.Header}
use Rattle.cif_weeks.specs.Window.{Window, IsWithin}
use Rattle.cif_canon.specs.declared.asked.Asked.{Asked}

-- a header's own window
abbrev pub header_window : Header → Window
header_window header = record { first = header.first; last = header.last }

-- the window that is asked for: a date that is absent is the header's own
abbrev pub window_asked : Asked → Header → Window
window_asked asked header = record {
  first = unwrap_or asked.from header.first;
  last = unwrap_or asked.to header.last;
}

-- each date that is given is in the header's window
pub record AskedDatesAreWithin (asked : Asked) (header : Header) : Type 0 where
  pub from : IfSome asked.from (IsWithin (header_window header))
  pub to : IfSome asked.to (IsWithin (header_window header))

-- no window is asked for: it is the header's own
abbrev pub nothing_asked : Asked
nothing_asked = record { from = None; to = None }

-- y is x, narrowed to what is asked for: each date that is given is in the window, and the first isn't after the last. The header
-- has the window that is asked for, in its columns 49 to 60 and so in its dates; columns 3 to 48 and all else are as they were.
pub record IsNarrowed (asked : Asked) (x y : ExtractParts) : Type 0 where
  pub within : AskedDatesAreWithin asked x.header
  pub in_order : (window_asked asked x.header).first ≤ (window_asked asked x.header).last
  pub window : header_window y.header ≡ window_asked asked x.header
  pub columns : y.header.columns ≡ with_window (window_asked asked x.header).first (window_asked asked x.header).last x.header.columns
  pub tiplocs : y.tiplocs ≡ x.tiplocs
  pub associations : y.associations ≡ x.associations
  pub schedules : y.schedules ≡ x.schedules

-- Why an extract with this header isn't narrowed: a date that is given is outside the window, or else the first is after the last.
abbrev pub IsNarrowingFault : Asked → Header → Fault → Type 0
IsNarrowingFault asked header OutsideWindow = ¬ AskedDatesAreWithin asked header
IsNarrowingFault asked header WindowReversed =
    AskedDatesAreWithin asked header × ((window_asked asked header).last < (window_asked asked header).first)
IsNarrowingFault asked header _ = ⊥
