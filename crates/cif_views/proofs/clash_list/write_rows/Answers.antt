-- The names, and then one row more (`one-added`), until no clash is left (`all-added`).
use Rattle.cif_views.proofs.Names.{[], ap, append-nil, arith, subst, sym}
use Rattle.cif_views.proofs.RowNames.{Adds, added-both, added-is, added-waits, all-added, all-written, heading_text, names-added, one-added, row_text}
use Rattle.cif_views.specs.Clashes.{clash_names, clash_row}
use Rattle.cif_views.proofs.clash_list.write_rows.Goals as goal

pub loop-clash-init : goal.loop-clash-init
loop-clash-init g c = added-waits _ _ [] _ _ _ (sym (append-nil _))

pub loop-clash-preserved : goal.loop-clash-preserved
loop-clash-preserved g c =
    one-added _ _ (λ clash. row_text g.F.RowFormat.FORMAT (clash_row clash)) c.args.clashes.now c.loop-clash.clash-index _ _ _ _
    c.loop-clash.invariant c.clash-item.result _ _ c.loop-clash-test.true
    (added-is _ _ _ _ _ _ _ _ (ap (λ clash. row_text g.F.RowFormat.FORMAT (clash_row clash)) c.clash-item.is) c.push_clash.ensures)

pub returns : goal.returns
unfolding Rattle.cif_views.specs.Clashes.clash_table
returns g c =
    let f = g.F.RowFormat.FORMAT in
    let named = names-added _ _ f clash_names _ _ _ _ (omega arith) c.push_names.ensures in
    all-written _ _ _ _ _ _ _ _ c.new-rows.ensures
    (added-both _ _ _ _ _ _ _ _ _ _ (subst (Adds _ _ (heading_text f clash_names) _ _ _) (sym c.end_names.ensures) named)
    (all-added _ _ (λ clash. row_text f (clash_row clash)) c.args.clashes.now c.loop-clash.clash-index _ _ _ _ c.loop-clash.invariant
    c.loop-clash-test.false)) c.finish.ensures
