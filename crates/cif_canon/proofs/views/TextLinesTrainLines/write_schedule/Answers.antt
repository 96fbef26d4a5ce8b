-- A row, from its beginning to its end.
use Rattle.cif_canon.{proofs.SomeFields.schedule-some, specs.Rows.schedule_row}
use Rattle.cif_rows.proofs.AddedTexts.{added-after, all-written, row-added}
use Rattle.cif_rows.specs.declared.format.Format.TheVariants.{Text}
use Rattle.cif_weeks.specs.Runs.{record_of}
use Rattle.cif_canon.proofs.views.TextLinesTrainLines.write_schedule.Goals as goal

pub returns : goal.returns
returns g c =
    all-written _ _ _ _ _ _ _ _ c.new-rows.ensures
    (row-added _ _ Text (schedule_row (record_of c.args.run.now c.args.body.now)) _ _ _ _ _ _ _ _ (schedule-some Text (record_of c.args.run.now c.args.body.now)) c.begin_row.ensures (added-after _ _ _ _ _ _ _ _ c.make_room.ensures.adds c.push_schedule_row.ensures.text)
    c.end_row.ensures) c.finish.ensures
