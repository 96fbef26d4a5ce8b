-- The rows of the table fill the line.
use Rattle.cif_records.proofs.Names.{P, Some, association_rows, refl, ◌∙◌}
use Rattle.cif_records.proofs.FinishedLines.{finished_again, finished_plain, finished_width}
use Rattle.cif_records.proofs.association.Association.permanent_line.Goals as goal

pub finish-requires : goal.finish-requires
finish-requires c =
    finished_width (association_rows c.args.key.now c.args.first c.args.last c.args.days P (Some c.args.body.now)) refl
    c.put_fields.ensures.fits _ c.put_fields.ensures.columns

pub returns-clause-plain : goal.returns-clause-plain
returns-clause-plain c =
    finished_plain (association_rows c.args.key.now c.args.first c.args.last c.args.days P (Some c.args.body.now)) refl
    c.put_fields.ensures.fits _
    (c.finish.ensures ∙ c.put_fields.ensures.columns)

pub returns-clause-again : goal.returns-clause-again
returns-clause-again c =
    finished_again (association_rows c.args.key.now c.args.first c.args.last c.args.days P (Some c.args.body.now)) refl
    c.put_fields.ensures.fits _
    (c.finish.ensures ∙ c.put_fields.ensures.columns)
