-- The kind goes before the fields of the train, and these before the empty ones of an association.
use Rattle.cif_canon.proofs.Names.{[], codes, no_association, train_fields, ◌++◌, ◌∷◌}
use Rattle.cif_rows.proofs.AddedTexts.{field-after, fields-after}
use Rattle.cif_rows.specs.Row.{named, text}
use Rattle.cif_canon.proofs.rows.push_train_row.Goals as goal

pub returns-clause-text : goal.returns-clause-text
returns-clause-text g c =
    let f = g.F.RowFormat.FORMAT in
    let kind = named (codes "kind") (text (codes "BS")) in
    let own = train_fields (c.args.uid.now, c.args.body.now) in
    fields-after f _ _ _ (kind ∷ own) no_association
    (fields-after f _ _ _ (kind ∷ []) own (field-after f _ _ [] kind c.push_within.ensures.text) c.push_train.ensures.text)
    c.push_absent_within.ensures.text
