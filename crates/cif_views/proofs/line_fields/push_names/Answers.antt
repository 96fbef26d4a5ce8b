-- One name more (`one-added`), until none is left (`all-added`).
use Rattle.cif_views.proofs.Names.{[], arith, column, columns_of, flat_map-map, sym, ◌∙◌}
use Rattle.cif_views.proofs.RowNames.{added-is, all-added, name_text, one-added}
use Rattle.cif_views.proofs.TableRows.{name-at}
use Rattle.cif_views.specs.declared.columns.FieldPlace.TheVariants.{Text}
use Rattle.cif_views.proofs.line_fields.push_names.Goals as goal

pub push_name-requires : goal.push_name-requires
push_name-requires g c =
    let room = name-at c.args.columns.now c.loop-column.column-index (record { ref_ptr = (0, 0); now = [] }, Text 0 0) c.loop-column-test.true in
    let known = c.requires in
    record { narrow = omega (arith, room, known) }

pub loop-column-preserved : goal.loop-column-preserved
loop-column-preserved g c =
    one-added _ _ (λ given. name_text g.F.RowFormat.FORMAT given.0.now) c.args.columns.now c.loop-column.column-index _ _ _ _
    c.loop-column.invariant _ _ _ c.loop-column-test.true c.push_name.ensures

pub returns : goal.returns
returns g c =
    let text = name_text g.F.RowFormat.FORMAT in
    added-is _ _ _ _ _ _ _ _
    (sym (flat_map-map text (λ named. named.0) (columns_of c.args.columns.now)
    ∙ flat_map-map (λ named. text named.0) column c.args.columns.now))
    (all-added _ _ (λ given. text given.0.now) c.args.columns.now c.loop-column.column-index _ _ _ _
    c.loop-column.invariant c.loop-column-test.false)
