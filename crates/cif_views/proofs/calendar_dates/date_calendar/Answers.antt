-- The names and the rows are the calendar, by the format.
use Rattle.cif_views.proofs.Names.{AreDayStates, DayState, List, Schedule, ap, extract_parts, fault-answered, of_key, schedule_entries, state_in}
use Rattle.cif_views.proofs.Names.{subst, sym, written-so, ℕ, ◌+◌, ◌∙◌}
use Rattle.cif_views.proofs.RowNames.{IsAppended}
use Rattle.cif_views.proofs.WeekLines.{stands-on}
use Rattle.cif_views.specs.DateCalendar.{dates_text}
use Rattle.cif_views.proofs.calendar_dates.date_calendar.Goals as goal
use Rattle.cif_views.proofs.calendar_dates.date_calendar.Goals.{in-Json, in-Text, in-Tsv}

pub returns-clause-view : goal.returns-clause-view
returns-clause-view g c =
    let first = c.of-window.result.first in
    let last = c.of-window.result.last in
    let states = c.as_slice-states.result.now in
    let u = c.args.uid.now in
    let x = extract_parts c.args.extract.now in
    let from = c.of-window.ensures.first in
    let upto = c.of-window.ensures.last in
    let format = c.args.format in
    let text = dates_text format u first last (state_in first states) in
    let written : IsAppended g.W.Write.contents g.W.WriteDevice.write_errors text c.args.sink.now c.match-format.sink =
    elim c.match-format.branch [
      | in-Text w ↦ rw (w.in-Text.is, w.sink-is) w.write_dates.ensures
      | in-Tsv w ↦ rw (w.in-Tsv.is, w.sink-is) w.write_dates-in-Tsv.ensures
      | in-Json w ↦ rw (w.in-Json.is, w.sink-is) w.write_dates-in-Json.ensures
    ] in
    let stand = subst (λ (ss : List Schedule). AreDayStates (of_key (schedule_entries ss) u) first (last + 1) states) c.as_slice.ensures.value
    (subst (λ (l : List DayState). AreDayStates (of_key (schedule_entries c.as_slice.result.now) u) first (last + 1) l)
    (sym c.as_slice-states.ensures.value) c.in_ok-states.ensures) in (
      text,
      fault-answered _ _ _ _ _ c.answer.result c.answer.ensures.ok c.answer.ensures.failed c.answer.ensures.fault written,
      written-so c.answer.result _ (record {
        state_on = state_in first states;
        states = stands-on x u first last states from upto stand;
        text_is = ap (λ (n : ℕ). dates_text format u n last (state_in first states)) from
            ∙ ap (λ (n : ℕ). dates_text format u x.header.first n (state_in first states)) upto;
      }),
    )
