-- With the fields of the columns that are left, the row has them all.
use Rattle.cif_views.proofs.Names.{columns_of, drop, fields_in, length, room_for, ◌++◌, ◌+◌}
use Rattle.cif_views.proofs.RowNames.{fields_text}
use Rattle.cif_views.proofs.TableRows.{IsGrowing}
use Rattle.cif_views.proofs.line_fields.push_all.Given as goal

abbrev pub invariant-loop-column : goal.invariant-loop-column
invariant-loop-column g l =
    IsGrowing g.F.RowFormat.FORMAT l.kind l.line (l.initial.rows ++ fields_text g.F.RowFormat.FORMAT (fields_in l.kind (columns_of l.columns) l.line))
    (length l.initial.rows + room_for (columns_of l.columns)) l.rows (columns_of (drop l.column-index l.columns))
