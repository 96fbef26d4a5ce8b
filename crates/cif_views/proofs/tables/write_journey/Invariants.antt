-- What is added, and the rows of the lines that are left, are all; the calls aren't more than the lines.
use Rattle.cif_views.proofs.Names.{List, flat_map, journey_rows, length, rows_of, ◌+◌, ◌≤◌}
use Rattle.cif_views.proofs.RowNames.{Adds, Field, row_text}
use Rattle.cif_views.proofs.TableRows.{AreLeft}
use Rattle.cif_views.proofs.tables.write_journey.Given as goal

abbrev pub invariant-loop-lines : goal.invariant-loop-lines
invariant-loop-lines g l =
    (done : List (List Field))
    × Adds g.W.Write.contents g.W.WriteDevice.write_errors (flat_map (row_text g.F.RowFormat.FORMAT) done) l.initial.sink l.sink l.initial.rows
    l.rows
    × AreLeft (rows_of l.calls) l.schedule (journey_rows l.calls l.schedule l.initial.lines) done l.call l.lines
    × (l.call + length l.lines ≤ 1 + length l.initial.lines)

abbrev pub decreases-loop-lines : goal.decreases-loop-lines
decreases-loop-lines g l = length l.lines
