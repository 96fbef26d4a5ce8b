-- The states of the days before `day` stand, and what is left of the stretch gets shorter.
use Rattle.cif_calendar.proofs.Names.{AreDayStates, IsChosen, ℕ, ◌-◌, ◌≤◌}
use Rattle.cif_calendar.proofs.day_state.add_states.Given as goal

abbrev pub invariant-loop-next : goal.invariant-loop-next
invariant-loop-next g l = record {
  from : l.fn.first ≤ l.day;
  upto : l.day ≤ l.stretch.last;
  so_far : (from : ℕ) → AreDayStates (IsChosen l.members.terms l.members.positions) from l.fn.first
      l.initial.states.items
      → AreDayStates (IsChosen l.members.terms l.members.positions) from l.day l.states.items;
}

abbrev pub decreases-loop-next : goal.decreases-loop-next
decreases-loop-next g l = l.stretch.last - l.day
