-- The names are those of the columns.
use Rattle.cif_views.proofs.Names.{arith, difference_names, sym, subst}
use Rattle.cif_views.proofs.RowNames.{Adds, all-written, heading_text, names-added}
use Rattle.cif_views.proofs.difference_table.write_heading.Goals as goal

pub returns : goal.returns
returns g c =
    let f = g.F.RowFormat.FORMAT in
    let named = names-added _ _ f difference_names _ _ _ _ (omega arith) c.push_names.ensures in
    all-written _ _ _ _ _ _ _ _ c.new-rows.ensures
    (subst (Adds _ _ (heading_text f difference_names) _ _ _) (sym c.end_names.ensures) named) c.finish.ensures
