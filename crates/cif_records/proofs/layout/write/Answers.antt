-- Over any table: the trait's `whole` says that its rows fill the line.
use Rattle.cif_records.proofs.{FinishedLines.finished_again, FinishedLines.finished_plain, FinishedLines.finished_width, Names.◌∙◌}
use Rattle.cif_records.proofs.layout.write.Goals as goal

pub finish-requires : goal.finish-requires
finish-requires g c =
    finished_width (g.R.Layout.table c.args.value.now)
    (g.met.R.Layout.whole c.args.value.now) c.put_rows.ensures.fits _ c.put_rows.ensures.columns

pub returns-clause-plain : goal.returns-clause-plain
returns-clause-plain g c =
    finished_plain (g.R.Layout.table c.args.value.now) (g.met.R.Layout.whole c.args.value.now) c.put_rows.ensures.fits _
    (c.finish.ensures ∙ c.put_rows.ensures.columns)

pub returns-clause-again : goal.returns-clause-again
returns-clause-again g c =
    finished_again (g.R.Layout.table c.args.value.now) (g.met.R.Layout.whole c.args.value.now) c.put_rows.ensures.fits _
    (c.finish.ensures ∙ c.put_rows.ensures.columns)
