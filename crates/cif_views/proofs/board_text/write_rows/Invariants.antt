-- What is added is the rows so far.
use Rattle.cif_views.proofs.Names.{flat_map, take}
use Rattle.cif_views.proofs.RowNames.{Adds, row_text}
use Rattle.cif_views.specs.Boards.{board_fields}
use Rattle.cif_views.proofs.board_text.write_rows.Given as goal

abbrev pub invariant-loop-row : goal.invariant-loop-row
invariant-loop-row g l =
    Adds g.W.Write.contents g.W.WriteDevice.write_errors
    (flat_map (λ row. row_text g.F.RowFormat.FORMAT (board_fields g.F.RowFormat.FORMAT l.board l.tiplocs row)) (take l.row-index l.board_rows))
    l.initial.sink l.sink l.initial.rows l.rows
