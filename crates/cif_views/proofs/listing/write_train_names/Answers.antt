-- Names after names (`names-both`).
use Rattle.cif_views.proofs.Names.{[], arith, call_names_if, codes, listing_in, subst, sym, train_names, ◌++◌, ◌∷◌}
use Rattle.cif_canon.specs.Rows.{journey_names}
use Rattle.cif_views.proofs.CallRows.{names-both}
use Rattle.cif_views.proofs.RowNames.{Adds, all-written, heading_text, names-added}
use Rattle.cif_views.proofs.listing.write_train_names.Goals as goal

pub returns : goal.returns
returns g c =
    let f = g.F.RowFormat.FORMAT in
    let names = train_names (listing_in f c.args.calls) in
    let calls = call_names_if (listing_in f c.args.calls) in
    let all = names-both _ _ f (codes "uid" ∷ codes "first_date" ∷ codes "last_date" ∷ codes "days_run" ∷ []) (journey_names ++ calls) _ _ _ _ _ _
    c.push_names.ensures
    (names-both _ _ f journey_names calls _ _ _ _ _ _ c.push_names-2.ensures c.push_call_names.ensures) in
    let named = names-added _ _ f names _ _ _ _ (omega arith) all in
    all-written _ _ _ _ _ _ _ _ c.new-rows.ensures
    (subst (Adds _ _ (heading_text f names) _ _ _) (sym c.end_names.ensures) named) c.finish.ensures
