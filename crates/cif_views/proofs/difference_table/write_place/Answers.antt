-- The same line has no row (`no-rows`).
use Rattle.cif_views.proofs.Names.{[], ap, append-nil, bytes_decides, own_columns, rows_text, sym, ◌∙◌}
use Rattle.cif_views.proofs.{DifferingFields.no-rows, RowNames.added-is, RowNames.added-waits}
use Rattle.cif_views.proofs.difference_table.write_place.Goals as goal

pub returns-then-eq : goal.returns-then-eq
returns-then-eq g c =
    let lines = c.args.lines.now in
    added-is _ _ _ _ _ _ _ _
    (ap (rows_text g.F.RowFormat.FORMAT) (sym (no-rows _ lines.kind lines.left lines.right (own_columns lines.kind)
    ((bytes_decides lines.left lines.right).0 (sym c.eq.ensures ∙ c.if-eq.true)))))
    (added-waits _ _ [] _ _ _ (sym (append-nil _)))
