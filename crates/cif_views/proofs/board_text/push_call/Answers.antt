-- The number of the call goes after two columns.
use Rattle.cif_views.proofs.Names.{[], codes, ◌∷◌}
use Rattle.cif_views.proofs.RowNames.{field-added, fields-added, named, number, text}
use Rattle.cif_views.proofs.board_text.push_call.Goals as goal

pub returns : goal.returns
returns g c =
    let f = g.F.RowFormat.FORMAT in
    let row = c.args.row.now in
    let call = named (codes "call") (number row.key.call) in
    fields-added _ _ f (named (codes "location") (text row.location) ∷ named (codes "platform") (text row.platform) ∷ []) (call ∷ []) _ _ _ _ _ _
    c.push_fields.ensures (field-added _ _ f call _ _ _ _ c.push_number.ensures)
