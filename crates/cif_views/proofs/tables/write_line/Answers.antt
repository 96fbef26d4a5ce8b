-- The fields of the columns are a row (`row-added`).
use Rattle.cif_views.proofs.Names.{Other, columns_of, fields_in}
use Rattle.cif_views.proofs.RowNames.{all-written, row-added}
use Rattle.cif_views.proofs.TableRows.{some-columns}
use Rattle.cif_views.proofs.tables.write_line.Goals as goal

pub returns : goal.returns
returns g c =
    let f = g.F.RowFormat.FORMAT in
    all-written _ _ _ _ _ _ _ _ c.new-rows.ensures
    (row-added _ _ f (fields_in Other (columns_of c.args.columns.now) c.args.line.now) _ _ _ _ _ _ _ _
    (some-columns f Other c.args.columns.now c.args.line.now c.requires.some) c.begin_row.ensures c.push_each.ensures c.end_row.ensures)
    c.finish.ensures
