-- What stands on a day, by a list of the states from a day on. No public clause cites it.
use Rattle.std.specs.Prelude.{ℕ, ◌-◌, List, slice_index_or}
use Rattle.cif_calendar.specs.declared.day_state.DayState.{DayState}
use Rattle.cif_calendar.specs.declared.day_state.DayState.TheVariants as state

abbrev pub state_in : ℕ → List DayState → ℕ → DayState
state_in first states d = slice_index_or states (d - first) state.NoneApplies
