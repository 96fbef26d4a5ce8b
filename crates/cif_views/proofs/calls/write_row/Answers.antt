-- A row, from its beginning to its end.
use Rattle.cif_views.proofs.RowNames.{added-after, all-written, row-added}
use Rattle.cif_views.proofs.calls.write_row.Goals as goal

pub returns : goal.returns
returns g c =
    let f = g.F.RowFormat.FORMAT in
    all-written _ _ _ _ _ _ _ _ c.new-rows.ensures
    (row-added _ _ f (g.R.RowSource.fields c.args.row.now) _ _ _ _ _ _ _ _ (c.push_row.ensures.some f) c.begin_row.ensures
    (added-after _ _ _ _ _ _ _ _ c.make_room.ensures.adds c.push_row.ensures.text) c.end_row.ensures) c.finish.ensures
