-- Six empty fields go after the first ones.
use Rattle.cif_views.proofs.Names.{ap, sym, ◌++◌}
use Rattle.cif_views.proofs.DifferenceFields.{head_fields, no_place, nothing_last, single, some-head}
use Rattle.cif_views.proofs.RowNames.{added-is, all-written, fields-added, row-added, row_text, three-fields}
use Rattle.cif_views.proofs.difference_table.write_single.Goals as goal

pub returns : goal.returns
returns g c =
    let f = g.F.RowFormat.FORMAT in
    let side = c.args.side in
    let line = c.args.line.now in
    let head = head_fields c.args.kind side line in
    let last = nothing_last side line in
    let place = three-fields _ _ f _ _ _ _ _ _ _ _ _ _ _ c.push_nothing.ensures c.push_nothing-2.ensures c.push_nothing-3.ensures in
    let more = three-fields _ _ f _ _ _ _ _ _ _ _ _ _ _ c.push_nothing-4.ensures c.push_nothing-5.ensures c.push_nothing-6.ensures in
    let all = fields-added _ _ f head (no_place ++ last) _ _ _ _ _ _ c.push_head.ensures
    (fields-added _ _ f no_place last _ _ _ _ _ _ place more) in
    all-written _ _ _ _ _ _ _ _ c.new-rows.ensures
    (added-is _ _ _ _ _ _ _ _ (ap (row_text f) (sym (single side line c.args.kind)))
    (row-added _ _ f (head ++ (no_place ++ last)) _ _ _ _ _ _ _ _ (some-head side line f c.args.kind (no_place ++ last)) c.begin_row.ensures
    all c.end_row.ensures)) c.finish.ensures
