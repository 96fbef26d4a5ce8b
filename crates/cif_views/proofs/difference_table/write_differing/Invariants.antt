-- What is added are the rows of the fields so far.
use Rattle.cif_views.proofs.Names.{column, field_row, flat_map, rows_text, start_values, take}
use Rattle.cif_views.proofs.RowNames.{Adds}
use Rattle.cif_views.proofs.difference_table.write_differing.Given as goal

abbrev pub invariant-loop-field : goal.invariant-loop-field
invariant-loop-field g l =
    Adds g.W.Write.contents g.W.WriteDevice.write_errors
    (flat_map (λ given. rows_text g.F.RowFormat.FORMAT (field_row (start_values l.start) l.lines.kind l.lines.left l.lines.right (column given)))
    (take l.field-index l.fields)) l.initial.sink l.sink l.initial.rows l.rows
