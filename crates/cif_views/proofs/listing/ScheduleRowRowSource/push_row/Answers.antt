-- The first field goes before the others.
use Rattle.cif_views.proofs.Names.{[], first_field, schedule_row, ◌∷◌}
use Rattle.cif_canon.proofs.SomeFields.{schedule-some}
use Rattle.cif_views.proofs.{CallRows.some-later, RowNames.fields-after}
use Rattle.cif_weeks.specs.Runs.{record_of}
use Rattle.cif_views.proofs.listing.ScheduleRowRowSource.push_row.Goals as goal

pub returns-clause-text : goal.returns-clause-text
returns-clause-text g c =
    let r = c.args.self.now in
    fields-after g.F.RowFormat.FORMAT _ _ _ (first_field r.first ∷ []) (schedule_row (record_of r.run.now r.body.now)) c.push_first.ensures.text
    c.push_schedule_row.ensures.text

pub returns-clause-some : goal.returns-clause-some
returns-clause-some g c format =
    let r = c.args.self.now in some-later format (first_field r.first) (schedule_row (record_of r.run.now r.body.now)) (schedule-some format (record_of r.run.now r.body.now))
