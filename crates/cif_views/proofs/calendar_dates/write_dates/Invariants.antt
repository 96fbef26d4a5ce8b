-- What is added is the rows of the dates so far, and the day is the next one, if there is one.
use Rattle.cif_views.proofs.Names.{flat_map, length, range_with_len, state_in, ◌+◌, ◌<◌, ◌≡◌}
use Rattle.cif_views.proofs.RowNames.{Adds, row_text}
use Rattle.cif_views.specs.DateCalendar.{date_row}
use Rattle.cif_views.proofs.calendar_dates.write_dates.Given as goal

abbrev pub invariant-loop-state : goal.invariant-loop-state
invariant-loop-state g l =
    Adds g.W.Write.contents g.W.WriteDevice.write_errors
    (flat_map (λ d. row_text g.F.RowFormat.FORMAT (date_row l.uid d (state_in l.window.first l.states d)))
    (range_with_len l.window.first l.state-index)) l.initial.sink l.sink l.initial.rows l.rows
    × (l.state-index < length l.states → l.day ≡ l.window.first + l.state-index)
