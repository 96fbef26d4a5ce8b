-- What rows begin with, what the schedule says, and the empty fields of an association.
use Rattle.cif_views.proofs.Names.{codes, drop, mark_columns, refl, said_of_train, schedule_terms, start_fields, ◌++◌, ◌∷◌}
use Rattle.cif_canon.specs.Rows.{no_association}
use Rattle.cif_views.proofs.CallRows.{some-later}
use Rattle.cif_views.proofs.RowNames.{fields-added, named, some-field, text}
use Rattle.cif_views.specs.{Explanation.explained_train_row, Listing.date_field}
use Rattle.cif_views.proofs.explanation.ScheduleExplainedEntry.push_row.Goals as goal

pub returns-clause-adds : goal.returns-clause-adds
unfolding explained_train_row
returns-clause-adds g c place =
    let f = g.F.RowFormat.FORMAT in
    let one = c.args.self.now in
    let start = start_fields c.args.day c.args.mark (codes "BS") (schedule_terms one) in
    let said = said_of_train one.uid one.body in
    fields-added _ _ f start (said ++ no_association) _ _ _ _ _ _ c.push_start.ensures
    (fields-added _ _ f said no_association _ _ _ _ _ _ c.push_said_of_train.ensures c.push_absent.ensures)

pub returns-clause-some : goal.returns-clause-some
unfolding explained_train_row
returns-clause-some g c place format =
    let one = c.args.self.now in
    let rest = drop 2 (start_fields c.args.day c.args.mark (codes "BS") (schedule_terms one)) ++ (said_of_train one.uid one.body ++ no_association) in
    let mark = named (codes "mark") (text (mark_columns c.args.mark)) in
    some-later format (date_field c.args.day) (mark ∷ rest) (some-field format mark rest refl)
