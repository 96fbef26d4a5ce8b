-- What is added, and the rows of the lines that are left, are all; these have the same places, and the calls aren't more than the lines.
use Rattle.cif_views.proofs.Names.{IsTrue, List, head_of, length, rows_of_places, rows_text, same_places, ◌+◌, ◌≤◌}
use Rattle.cif_views.proofs.DifferingFields.{PlacesAreLeft}
use Rattle.cif_views.proofs.RowNames.{Adds, Value}
use Rattle.cif_views.proofs.difference_table.write_places.Given as goal

abbrev pub invariant-loop-lefts : goal.invariant-loop-lefts
invariant-loop-lefts g l =
    (done : List (List Value))
    × Adds g.W.Write.contents g.W.WriteDevice.write_errors (rows_text g.F.RowFormat.FORMAT done) l.initial.sink l.sink l.initial.rows l.rows
    × PlacesAreLeft (head_of l.head) (rows_of_places (head_of l.head) 1 l.initial.lefts l.initial.rights) done l.call l.lefts l.rights
    × IsTrue (same_places l.lefts l.rights)
    × (l.call + length l.lefts ≤ 1 + length l.initial.lefts)

abbrev pub decreases-loop-lefts : goal.decreases-loop-lefts
decreases-loop-lefts g l = length l.lefts
