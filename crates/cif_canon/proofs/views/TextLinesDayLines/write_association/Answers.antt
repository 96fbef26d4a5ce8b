-- A row, from its beginning to its end.
use Rattle.cif_canon.{proofs.SomeFields.association-some, specs.Rows.association_row}
use Rattle.cif_rows.proofs.AddedTexts.{added-after, all-written, row-added}
use Rattle.cif_rows.specs.declared.format.Format.TheVariants.{Text}
use Rattle.cif_canon.proofs.views.TextLinesDayLines.write_association.Goals as goal

pub returns : goal.returns
returns g c =
    all-written _ _ _ _ _ _ _ _ c.new-rows.ensures
    (row-added _ _ Text (association_row (c.args.key.now, c.args.body.now)) _ _ _ _ _ _ _ _ (association-some Text (c.args.key.now, c.args.body.now)) c.begin_row.ensures (added-after _ _ _ _ _ _ _ _ c.make_room.ensures.adds c.push_association_row.ensures.text)
    c.end_row.ensures) c.finish.ensures
