-- A row, from its beginning to its end (`without-calls-added`).
use Rattle.cif_views.proofs.{CallRows.without-calls-added, RowNames.added-after, RowNames.all-written}
use Rattle.cif_views.proofs.calls.write_without_calls.Goals as goal

pub returns : goal.returns
returns g c =
    let f = g.F.RowFormat.FORMAT in
    all-written _ _ _ _ _ _ _ _ c.new-rows.ensures
    (without-calls-added _ _ f (g.R.RowSource.fields c.args.row.now) _ _ _ _ _ _ _ _ _ _ (c.push_row.ensures.some f) c.begin_row.ensures
    (added-after _ _ _ _ _ _ _ _ c.make_room.ensures.adds c.push_row.ensures.text) c.push_no_calls.ensures c.end_row.ensures) c.finish.ensures
