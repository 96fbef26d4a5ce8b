-- What rows begin with, the empty fields of a train, and what the association says.
use Rattle.cif_views.proofs.Names.{association_terms, codes, drop, mark_columns, refl, said_of_association, start_fields, ◌++◌, ◌∷◌}
use Rattle.cif_canon.specs.Rows.{no_train}
use Rattle.cif_views.proofs.CallRows.{some-later}
use Rattle.cif_views.proofs.RowNames.{fields-added, named, some-field, text}
use Rattle.cif_views.specs.{Explanation.explained_association_row, Listing.date_field}
use Rattle.cif_views.proofs.explanation.AssociationExplainedEntry.push_row.Goals as goal

pub returns-clause-adds : goal.returns-clause-adds
unfolding explained_association_row
returns-clause-adds g c place =
    let f = g.F.RowFormat.FORMAT in
    let one = c.args.self.now in
    let start = start_fields c.args.day c.args.mark (codes "AA") (association_terms one) in
    let said = said_of_association one.key one.body in
    fields-added _ _ f start (no_train ++ said) _ _ _ _ _ _ c.push_start.ensures
    (fields-added _ _ f no_train said _ _ _ _ _ _ c.push_absent.ensures c.push_said_of_association.ensures)

pub returns-clause-some : goal.returns-clause-some
unfolding explained_association_row
returns-clause-some g c place format =
    let one = c.args.self.now in
    let rest = drop 2 (start_fields c.args.day c.args.mark (codes "AA") (association_terms one)) ++ (no_train ++ said_of_association one.key one.body) in
    let mark = named (codes "mark") (text (mark_columns c.args.mark)) in
    some-later format (date_field c.args.day) (mark ∷ rest) (some-field format mark rest refl)
