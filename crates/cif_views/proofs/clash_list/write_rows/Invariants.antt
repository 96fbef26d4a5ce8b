-- What is added is the rows of the clashes so far.
use Rattle.cif_views.proofs.Names.{flat_map, take}
use Rattle.cif_views.proofs.RowNames.{Adds, row_text}
use Rattle.cif_views.specs.Clashes.{clash_row}
use Rattle.cif_views.proofs.clash_list.write_rows.Given as goal

abbrev pub invariant-loop-clash : goal.invariant-loop-clash
invariant-loop-clash g l =
    Adds g.W.Write.contents g.W.WriteDevice.write_errors
    (flat_map (λ clash. row_text g.F.RowFormat.FORMAT (clash_row clash)) (take l.clash-index l.clashes)) l.initial.sink l.sink l.initial.rows
    l.rows
