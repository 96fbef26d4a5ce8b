-- The states of the stretches so far stand.
use Rattle.cif_calendar.proofs.{DayStates.IsMadeOf, Names.AreDayStates, Names.IsChosen, Names.drop}
use Rattle.cif_calendar.proofs.day_state.states_of.Given as goal

abbrev pub invariant-loop-stretch : goal.invariant-loop-stretch
invariant-loop-stretch g l =
    let xs = l.members.terms in
    let members = l.members.positions in
    IsMadeOf (AreDayStates (IsChosen xs members) l.window.first) xs members l.window.last l.first (drop l.stretch-index l.stretches)
    l.states.items
