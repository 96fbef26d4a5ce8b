-- The fields, by the kind of clash, are a row (`row-added`).
use Rattle.cif_views.proofs.Names.{codes, drop, length, refl, ◌<◌}
use Rattle.cif_views.proofs.RowNames.{Adds, Format, fields_text, named, row-added, some-field, text}
use Rattle.cif_extract.specs.declared.{fault.Clash.Clash, fault.Clash.TheVariants.Association, fault.Clash.TheVariants.Train}
use Rattle.cif_views.specs.Clashes.{clash_row}
use Rattle.cif_views.proofs.clash_list.push_clash.Goals as goal
use Rattle.cif_views.proofs.clash_list.push_clash.Goals.{in-Association, in-Train}

some-row : (f : Format) (clash : Clash) → 0 < length (fields_text f (clash_row clash))
some-row f (Association key day) =
    some-field f (named (codes "kind") (text (codes "AA"))) (drop 1 (clash_row (Association key day))) refl
some-row f (Train uid day) = some-field f (named (codes "kind") (text (codes "BS"))) (drop 1 (clash_row (Train uid day))) refl

pub returns : goal.returns
returns g c =
    let f = g.F.RowFormat.FORMAT in
    let fields : Adds g.W.Write.contents g.W.WriteDevice.write_errors (fields_text f (clash_row c.args.clash.now)) c.begin_row.new.sink
    c.match-clash.sink c.begin_row.new.self c.match-clash.rows =
    elim c.match-clash.branch [
      | in-Association w ↦ rw (w.in-Association.is, w.rows-is, w.sink-is) w.push_association.ensures
      | in-Train w ↦ rw (w.in-Train.is, w.rows-is, w.sink-is) w.push_train.ensures
    ] in
    row-added _ _ f (clash_row c.args.clash.now) _ _ _ _ _ _ _ _ (some-row f c.args.clash.now) c.begin_row.ensures fields c.end_row.ensures
