-- Names after names (`names-both`).
use Rattle.cif_views.proofs.Names.{[], arith, codes, subst, sym, ◌++◌, ◌∷◌}
use Rattle.cif_canon.specs.Rows.{association_names, train_names}
use Rattle.cif_views.proofs.CallRows.{names-both}
use Rattle.cif_views.proofs.RowNames.{Adds, all-written, heading_text, names-added}
use Rattle.cif_views.specs.Explanation.{explanation_names}
use Rattle.cif_views.proofs.explanation.write_names.Goals as goal

pub returns : goal.returns
returns g c =
    let f = g.F.RowFormat.FORMAT in
    let start = codes "date" ∷ codes "mark" ∷ codes "kind" ∷ codes "stp_indicator" ∷ codes "first_date" ∷ codes "last_date" ∷ codes "days_run" ∷ [] in
    let all = names-both _ _ f start (train_names ++ association_names) _ _ _ _ _ _ c.push_names.ensures
    (names-both _ _ f train_names association_names _ _ _ _ _ _ c.push_names-2.ensures c.push_names-3.ensures) in
    let named = names-added _ _ f explanation_names _ _ _ _ (omega arith) all in
    all-written _ _ _ _ _ _ _ _ c.new-rows.ensures
    (subst (Adds _ _ (heading_text f explanation_names) _ _ _) (sym c.end_names.ensures) named) c.finish.ensures
