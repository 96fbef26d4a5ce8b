-- The heading and the lines of the weeks are the calendar (`is-calendar`).
use Rattle.cif_views.proofs.Names.{AreDayStates, DayState, List, Schedule, both, calendar_text, codes, extract_parts, fault-answered}
use Rattle.cif_views.proofs.Names.{flat_map, of_key, schedule_entries, state_in, subst, sym, week_line, weeks_between, written-so, ◌+◌}
use Rattle.cif_views.proofs.WeekLines.{is-calendar}
use Rattle.cif_views.proofs.calendar_weeks.week_calendar.Goals as goal

pub returns-clause-view : goal.returns-clause-view
returns-clause-view g c =
    let first = c.of-window.result.first in
    let last = c.of-window.result.last in
    let states = c.as_slice-2.result.now in
    let u = c.args.uid.now in (
      calendar_text first last (state_in first states),
      fault-answered _ _ _ _ _ c.answer.result c.answer.ensures.ok c.answer.ensures.failed c.answer.ensures.fault
          (both _ _ (codes "       MTWTFSS\n") (flat_map (week_line first last (state_in first states)) (weeks_between first last)) _ _ _
          c.append.ensures c.write_weeks.ensures),
      written-so c.answer.result _ (is-calendar (extract_parts c.args.extract.now) u first last states
          c.of-window.ensures.first c.of-window.ensures.last
          (subst (λ (ss : List Schedule). AreDayStates (of_key (schedule_entries ss) u) first (last + 1) states) c.as_slice.ensures.value
          (subst (λ (l : List DayState). AreDayStates (of_key (schedule_entries c.as_slice.result.now) u) first (last + 1) l)
          (sym c.as_slice-2.ensures.value) c.in_ok-states.ensures))),
    )
