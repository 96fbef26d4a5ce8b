-- The records at the positions of the train are its records.
use Rattle.cif_views.proofs.Names.{AreDayStates, ArePositionsOf, IfOk-weaker, Schedule, of_key, positions-records, schedule_entries}
use Rattle.cif_views.proofs.Names.{schedule_terms, subst, sym, ◌+◌}
use Rattle.cif_calendar.proofs.DayStates.{AreDayStates-same}
use Rattle.cif_views.proofs.calendar_weeks.states_of_train.Goals as goal

pub returns : goal.returns
returns c =
    let es = c.args.schedules.now in
    let u = c.args.uid.now in
    let members = c.as_slice.result.now in
    let first = c.args.window.now.first in
    let to = c.args.window.now.last + 1 in
    IfOk-weaker c.day_states.result _ _
    (λ states h.
    let all : AreDayStates (of_key (schedule_entries es) u) first to states.items =
    AreDayStates-same _ _ (positions-records (λ (s : Schedule). s.uid) schedule_terms es u members
    (subst (ArePositionsOf (schedule_entries es) u) (sym c.as_slice.ensures.value) c.in_ok-positions.ensures.of_key))
    first to states.items h in
    all)
    c.day_states.ensures
