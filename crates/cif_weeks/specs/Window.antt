-- A window: the days from its first to its last.
use Rattle.std.specs.Prelude.{ℕ, ◌≤◌}
use Rattle.cif_calendar.specs.declared.applies.Window.{Window as CalendarWindow}

-- the days from `first` to `last`
pub record Window : Type 0 where
  pub first : ℕ
  pub last : ℕ

-- the window of these days
abbrev pub window_from : ℕ → ℕ → Window
window_from first last = record { first = first; last = last }

-- the days of this one, as the code has it
abbrev pub window_days : CalendarWindow → Window
window_days window = window_from window.first window.last

-- day n lies in the window, which has its first day and its last
pub record IsWithin (window : Window) (n : ℕ) : Type 0 where
  pub from : window.first ≤ n
  pub upto : n ≤ window.last
