-- A row, from its beginning to its end.
use Rattle.cif_canon.{proofs.SomeFields.train-some, specs.Rows.train_row}
use Rattle.cif_rows.proofs.AddedTexts.{added-after, all-written, row-added}
use Rattle.cif_rows.specs.declared.format.Format.TheVariants.{Text}
use Rattle.cif_canon.proofs.views.TextLinesDayLines.write_train.Goals as goal

pub returns : goal.returns
returns g c =
    all-written _ _ _ _ _ _ _ _ c.new-rows.ensures
    (row-added _ _ Text (train_row (c.args.uid.now, c.args.body.now)) _ _ _ _ _ _ _ _ (train-some Text (c.args.uid.now, c.args.body.now)) c.begin_row.ensures (added-after _ _ _ _ _ _ _ _ c.make_room.ensures.adds c.push_train_row.ensures.text)
    c.end_row.ensures) c.finish.ensures
