-- The UID goes before the journey.
use Rattle.cif_canon.proofs.Names.{[], codes, journey_fields, ◌∷◌}
use Rattle.cif_rows.proofs.AddedTexts.{field-after, fields-after}
use Rattle.cif_rows.specs.{Row.named, declared.shape.Shape.TheVariants.Whole}
use Rattle.cif_canon.proofs.rows.push_train.Goals as goal

pub returns-clause-text : goal.returns-clause-text
returns-clause-text g c =
    let f = g.F.RowFormat.FORMAT in
    let uid = named (codes "uid") (Whole, c.args.uid.now) in
    fields-after f _ _ _ (uid ∷ []) (journey_fields c.args.body.now)
    (field-after f _ _ [] uid (rw (c.write.ensures.columns) at c.push_within.ensures.text)) c.push_journey.ensures.text
