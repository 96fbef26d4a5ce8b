-- The cells are as one (`same-cells`), or else they have a row (`other-cells`).
use Rattle.cif_views.proofs.Names.{[], ap, append-nil, arith, codes, column, sym, value_in}
use Rattle.cif_views.proofs.Names.{rows_text, start_values, ◌++◌, ◌∙◌}
use Rattle.cif_views.proofs.DifferenceFields.{field-row, head_fields, place_fields, said_last, some-head}
use Rattle.cif_views.proofs.DifferingFields.{other-cells, same-cells, text-span, text-values}
use Rattle.cif_views.proofs.RowNames.{Value, added-is, added-waits, field_text, fields-added, named, row-added, row_text, three-fields}
use Rattle.cif_views.proofs.difference_table.write_field.Goals as goal

pub returns-then-eq : goal.returns-then-eq
returns-then-eq g c =
    let lines = c.args.lines.now in
    added-is _ _ _ _ _ _ _ _
    (ap (rows_text g.F.RowFormat.FORMAT)
    (same-cells (column c.args.field.now) c.requires.field (start_values c.args.start.now) lines.kind lines.left lines.right
    c.text_of-one.result.now c.text_of-other.result.now c.span_in-span.result c.span_in-span.ensures c.text_of-one.ensures.text
    c.text_of-other.ensures.text _ c.eq.ensures c.if-eq.true))
    (added-waits _ _ [] _ _ _ (sym (append-nil _)))

pub columns_in-left-requires : goal.columns_in-left-requires
columns_in-left-requires g c =
    text-span (column c.args.field.now) c.requires.field c.args.lines.now.kind c.span_in-span.result c.span_in-span.ensures

pub push-requires-clause-narrow : goal.push-requires-clause-narrow
push-requires-clause-narrow g c = let few = c.columns_in-left.ensures.few in omega (arith, few)

pub push-requires-2-clause-narrow : goal.push-requires-2-clause-narrow
push-requires-2-clause-narrow g c = let few = c.columns_in-right.ensures.few in omega (arith, few)

pub returns : goal.returns
returns g c =
    let f = g.F.RowFormat.FORMAT in
    let lines = c.args.lines.now in
    let start = c.args.start.now in
    let name = c.args.field.now.0.now in
    let it = column c.args.field.now in
    let span = c.span_in-span.result in
    let values = text-values it c.requires.field lines.kind in
    let one = value_in lines.kind lines.left it.1 in
    let other = value_in lines.kind lines.right it.1 in
    let head = head_fields start.head.kind start.head.side start.head.line in
    let place = place_fields start.place in
    let last = said_last name one other in
    let three = three-fields _ _ f _ (named (codes "left") one) (named (codes "right") other) _ _ _ _ _ _ _ _ c.push_text.ensures
    (added-is _ _ _ _ _ _ _ _ (ap (λ (v : Value). field_text f (named (codes "left") v))
    (values lines.left _ span c.span_in-span.ensures c.columns_in-left.ensures.columns)) c.push.ensures)
    (added-is _ _ _ _ _ _ _ _ (ap (λ (v : Value). field_text f (named (codes "right") v))
    (values lines.right _ span c.span_in-span.ensures c.columns_in-right.ensures.columns)) c.push-2.ensures) in
    let all = fields-added _ _ f head (place ++ last) _ _ _ _ _ _ c.push_head.ensures
    (fields-added _ _ f place last _ _ _ _ _ _ c.push_place.ensures three) in
    added-is _ _ _ _ _ _ _ _
    (ap (row_text f) (sym (field-row start.head.side start.head.line start.head.kind start.place name one other))
    ∙ sym (append-nil _)
    ∙ ap (rows_text f)
    (other-cells it c.requires.field (start_values start) lines.kind lines.left lines.right
    c.text_of-one.result.now c.text_of-other.result.now span c.span_in-span.ensures c.text_of-one.ensures.text
    c.text_of-other.ensures.text _ c.eq.ensures c.if-eq.false))
    (row-added _ _ f (head ++ (place ++ last)) _ _ _ _ _ _ _ _
    (some-head start.head.side start.head.line f start.head.kind (place ++ last)) c.begin_row.ensures all c.end_row.ensures)
