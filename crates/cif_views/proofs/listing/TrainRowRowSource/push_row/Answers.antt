-- The first field goes before the others.
use Rattle.cif_views.proofs.Names.{[], first_field, train_row, ◌∷◌}
use Rattle.cif_canon.proofs.SomeFields.{train-some}
use Rattle.cif_views.proofs.{CallRows.some-later, RowNames.fields-after}
use Rattle.cif_views.proofs.listing.TrainRowRowSource.push_row.Goals as goal

pub returns-clause-text : goal.returns-clause-text
returns-clause-text g c =
    let r = c.args.self.now in
    fields-after g.F.RowFormat.FORMAT _ _ _ (first_field r.first ∷ []) (train_row (r.uid.now, r.body.now)) c.push_first.ensures.text
    c.push_train_row.ensures.text

pub returns-clause-some : goal.returns-clause-some
returns-clause-some g c format =
    let r = c.args.self.now in some-later format (first_field r.first) (train_row (r.uid.now, r.body.now)) (train-some format (r.uid.now, r.body.now))
