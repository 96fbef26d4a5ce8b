-- Moments by the clock.
use Rattle.std.specs.Prelude.{ℕ, ◌%◌, ◌-◌, ◌/◌}
use Rattle.cif_views.specs.{Moments.day, Moments.midnight, declared.moment.ClockTime.ClockTime}

-- how many midnights a moment is after the schedule's date, and the time of day, in seconds
abbrev pub by_the_clock : ℕ → ClockTime
by_the_clock m = record { midnights = (m - midnight) / day; time = (m - midnight) % day }
