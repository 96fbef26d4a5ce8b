-- The kind goes before the empty fields of a train, and these before those of the association.
use Rattle.cif_canon.proofs.Names.{[], association_fields, codes, no_train, ◌++◌, ◌∷◌}
use Rattle.cif_rows.proofs.AddedTexts.{field-after, fields-after}
use Rattle.cif_rows.specs.Row.{named, text}
use Rattle.cif_canon.proofs.rows.push_association_row.Goals as goal

pub returns-clause-text : goal.returns-clause-text
returns-clause-text g c =
    let f = g.F.RowFormat.FORMAT in
    let kind = named (codes "kind") (text (codes "AA")) in
    let own = association_fields (c.args.key.now, c.args.body.now) in
    fields-after f _ _ _ (kind ∷ no_train) own
    (fields-after f _ _ _ (kind ∷ []) no_train (field-after f _ _ [] kind c.push_within.ensures.text) c.push_absent_within.ensures.text)
    c.push_association.ensures.text
