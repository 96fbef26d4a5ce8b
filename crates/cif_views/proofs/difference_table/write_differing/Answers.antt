-- One field more (`one-added`), until none is left (`all-added`).
use Rattle.cif_views.proofs.Names.{[], append-nil, column, columns_of, difference_text, field_row, flat_map-map, rows_text, start_values, sym, ◌∙◌}
use Rattle.cif_views.proofs.DifferingFields.{text-at}
use Rattle.cif_views.proofs.RowNames.{added-is, added-waits, all-added, one-added}
use Rattle.cif_views.proofs.TableRows.{flat-twice}
use Rattle.cif_views.proofs.difference_table.write_differing.Goals as goal

pub write_field-requires-clause-field : goal.write_field-requires-clause-field
write_field-requires-clause-field g c = text-at c.args.fields.now c.requires.fields c.loop-field.field-index _ c.loop-field-test.true

pub loop-field-init : goal.loop-field-init
loop-field-init g c = added-waits _ _ [] _ _ _ (sym (append-nil _))

pub loop-field-preserved : goal.loop-field-preserved
loop-field-preserved g c =
    let lines = c.args.lines.now in
    one-added _ _
    (λ given. rows_text g.F.RowFormat.FORMAT (field_row (start_values c.args.start.now) lines.kind lines.left lines.right (column given)))
    c.args.fields.now c.loop-field.field-index _ _ _ _ c.loop-field.invariant _ _ _ c.loop-field-test.true c.write_field.ensures

pub returns : goal.returns
returns g c =
    let lines = c.args.lines.now in
    let f = g.F.RowFormat.FORMAT in
    let row = field_row (start_values c.args.start.now) lines.kind lines.left lines.right in
    added-is _ _ _ _ _ _ _ _
    (sym (flat-twice (difference_text f) row (columns_of c.args.fields.now)
    ∙ flat_map-map (λ named. rows_text f (row named)) column c.args.fields.now))
    (all-added _ _ (λ given. rows_text f (row (column given))) c.args.fields.now c.loop-field.field-index _ _ _ _
    c.loop-field.invariant c.loop-field-test.false)
