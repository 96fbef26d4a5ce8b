-- What is added, and the rows of the lines that are left, are all; the journey has two moments a line at most, and the calls aren't more than
-- the lines.
use Rattle.cif_views.proofs.Names.{IsJourneyBy, List, at_first, flat_map, length, ℕ, ◌*◌, ◌+◌, ◌≤◌}
use Rattle.cif_views.proofs.PublicRows.{AreLeft, rows_left}
use Rattle.cif_views.proofs.RowNames.{Adds, Field, row_text}
use Rattle.cif_views.proofs.public_calls.write_public_calls.Given as goal

abbrev pub invariant-loop-lines : goal.invariant-loop-lines
invariant-loop-lines g l =
    (done : List (List Field))
    × Adds g.W.Write.contents g.W.WriteDevice.write_errors (flat_map (row_text g.F.RowFormat.FORMAT) done) l.initial.sink l.sink l.initial.rows
    l.rows
    × AreLeft l.schedule (rows_left l.schedule at_first 1 l.initial.lines) done l.journey l.call l.lines
    × ((n : ℕ) × IsJourneyBy n l.journey × (n + 2 * length l.lines ≤ 2 * length l.initial.lines))
    × (l.call + length l.lines ≤ 1 + length l.initial.lines)

abbrev pub decreases-loop-lines : goal.decreases-loop-lines
decreases-loop-lines g l = length l.lines
