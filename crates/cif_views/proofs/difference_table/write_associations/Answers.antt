-- The rows of the fields are those of the pair (`association-rows`).
use Rattle.cif_views.proofs.Names.{ap, difference_text, flat_map-append, rows_text, sym, ◌∙◌}
use Rattle.cif_views.proofs.PairedJourneys.{association-rows}
use Rattle.cif_views.proofs.RowNames.{added-both, added-is, all-written}
use Rattle.cif_views.proofs.difference_table.write_associations.Goals as goal

pub returns : goal.returns
returns g c =
    let f = g.F.RowFormat.FORMAT in
    all-written _ _ _ _ _ _ _ _ c.new-rows.ensures
    (added-is _ _ _ _ _ _ _ _
    (sym (flat_map-append (difference_text f) _ _) ∙ ap (rows_text f) (association-rows c.args.left.now c.args.right.now))
    (added-both _ _ _ _ _ _ _ _ _ _ c.write_differing.ensures c.write_differing-2.ensures)) c.finish.ensures
