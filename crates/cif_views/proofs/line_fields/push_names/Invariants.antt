-- What is added are the names so far.
use Rattle.cif_views.proofs.Names.{flat_map, take}
use Rattle.cif_views.proofs.RowNames.{Adds, name_text}
use Rattle.cif_views.proofs.line_fields.push_names.Given as goal

abbrev pub invariant-loop-column : goal.invariant-loop-column
invariant-loop-column g l =
    Adds g.W.Write.contents g.W.WriteDevice.write_errors
    (flat_map (λ c. name_text g.F.RowFormat.FORMAT c.0.now) (take l.column-index l.columns)) l.initial.sink l.sink l.initial.rows l.rows
