-- The fields go after one another.
use Rattle.cif_views.proofs.Names.{◌++◌}
use Rattle.cif_views.proofs.RowNames.{fields-added}
use Rattle.cif_views.specs.Boards.{call_fields, calling_fields, end_fields, train_fields}
use Rattle.cif_views.proofs.board_text.push_fields.Goals as goal

pub returns : goal.returns
returns g c =
    let f = g.F.RowFormat.FORMAT in
    let row = c.args.row.now in
    let calling = calling_fields row.calling_at in
    let ends = end_fields c.args.tiplocs.now row.train in
    fields-added _ _ f (train_fields c.args.day row) (call_fields row ++ (ends ++ calling)) _ _ _ _ _ _ c.push_train.ensures
    (fields-added _ _ f (call_fields row) (ends ++ calling) _ _ _ _ _ _ c.push_call.ensures
    (fields-added _ _ f ends calling _ _ _ _ _ _ c.push_ends.ensures c.push_calling_at.ensures))
