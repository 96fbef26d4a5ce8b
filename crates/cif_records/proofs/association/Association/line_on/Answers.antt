-- The rows of the table fill the line.
use Rattle.cif_records.proofs.Names.{refl, rows_on, ◌∙◌}
use Rattle.cif_records.proofs.FinishedLines.{finished_again, finished_plain, finished_width}
use Rattle.cif_records.proofs.association.Association.line_on.Goals as goal

pub finish-requires : goal.finish-requires
finish-requires c =
    finished_width (rows_on c.args.first c.args.last c.args.self.now) refl c.put_rows_on.ensures.fits _ c.put_rows_on.ensures.columns

pub returns-clause-plain : goal.returns-clause-plain
returns-clause-plain c =
    finished_plain (rows_on c.args.first c.args.last c.args.self.now) refl c.put_rows_on.ensures.fits _
    (c.finish.ensures ∙ c.put_rows_on.ensures.columns)

pub returns-clause-again : goal.returns-clause-again
returns-clause-again c =
    finished_again (rows_on c.args.first c.args.last c.args.self.now) refl c.put_rows_on.ensures.fits _
    (c.finish.ensures ∙ c.put_rows_on.ensures.columns)
