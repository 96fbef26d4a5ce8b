-- The dates and the mask go before the journey.
use Rattle.cif_canon.proofs.Names.{[], codes, journey_fields, ◌∷◌}
use Rattle.cif_columns.specs.{DayDigits.yymmdd_of, DaysRun.days_columns}
use Rattle.cif_rows.proofs.AddedTexts.{fields-after}
use Rattle.cif_rows.specs.{Row.named, Row.text, declared.shape.Shape.TheVariants.Date}
use Rattle.cif_canon.proofs.rows.push_schedule_row.Goals as goal

pub returns-clause-text : goal.returns-clause-text
returns-clause-text g c =
    let run = c.args.run.now in
    fields-after g.F.RowFormat.FORMAT _ _ _
    (named (codes "first_date") (Date, yymmdd_of run.first) ∷ named (codes "last_date") (Date, yymmdd_of run.last)
    ∷ named (codes "days_run") (text (days_columns run.days)) ∷ [])
    (journey_fields c.args.body.now)
    (rw (c.to_yymmdd.ensures.columns, c.to_yymmdd-2.ensures.columns, c.write.ensures.columns) at c.push_fields_within.ensures.text)
    c.push_journey.ensures.text
