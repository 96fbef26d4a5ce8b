-- The lines of the weeks so far are appended.
use Rattle.cif_views.proofs.Names.{IsAppended, flat_map, range_with_len, state_in, week_line, week_of, ◌-◌}
use Rattle.cif_views.proofs.calendar_weeks.write_weeks.Given as goal

abbrev pub invariant-loop-week : goal.invariant-loop-week
invariant-loop-week g l =
    IsAppended g.W.Write.contents g.W.WriteDevice.write_errors
    (flat_map (week_line l.window.first l.window.last (state_in l.window.first l.states))
    (range_with_len (week_of l.window.first) (l.week - week_of l.window.first))) l.initial.sink l.sink
