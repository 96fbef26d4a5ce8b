-- The fields go after one another.
use Rattle.cif_views.proofs.Names.{[], codes, ◌++◌, ◌∷◌}
use Rattle.cif_views.proofs.RowNames.{Whole, fields-added, named, text}
use Rattle.cif_views.specs.Boards.{calling_time, end_of, end_text, hour_and_minute}
use Rattle.cif_views.proofs.board_text.push_line.Goals as goal

pub returns : goal.returns
returns g c =
    let f = g.F.RowFormat.FORMAT in
    let row = c.args.row.now in
    let time = named (codes "time") (Whole, hour_and_minute row.key.time) in
    let calling = calling_time row.calling_at in
    let four = named (codes "platform") (text row.platform) ∷ named (codes "operator_code") (text row.train.operator)
    ∷ named (codes "identity") (text row.train.identity) ∷ named (codes "uid") (Whole, row.key.uid) ∷ [] in
    let end = named (codes "end") (text (end_text c.args.tiplocs.now (end_of c.args.kind row.train))) in
    fields-added _ _ f (time ∷ calling) (four ++ (end ∷ [])) _ _ _ _ _ _
    (fields-added _ _ f (time ∷ []) calling _ _ _ _ _ _ c.push_minute.ensures c.push_calling_time.ensures)
    (fields-added _ _ f four (end ∷ []) _ _ _ _ _ _ (rw (c.write.ensures.columns) at c.push_fields.ensures)
    (rw (c.end_of.ensures) at c.push_end.ensures))
