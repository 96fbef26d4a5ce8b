-- The number, the fields of the BS and those of the BX are the row of a schedule (`row-added`).
use Rattle.cif_views.proofs.Names.{List, Other, [], ap, basic_columns, codes, extra_columns, extra_in, fields_in, numbered_schedule, refl}
use Rattle.cif_views.proofs.Names.{row_of, schedule_fields, schedule_plain, ℕ, ◌++◌, ◌∙◌, ◌∷◌}
use Rattle.cif_views.proofs.RowNames.{Field, added-is, all-written, field-added, fields-added, fields_text, number_field, row-added, some-field}
use Rattle.cif_views.proofs.tables.write_schedule.Goals as goal

pub returns : goal.returns
returns g c =
    let f = g.F.RowFormat.FORMAT in
    let s = schedule_plain c.args.schedule.now in
    let n : Field = number_field (codes "schedule") c.args.number in
    let basics = fields_in Other basic_columns s.basic in
    let extras = fields_in Other extra_columns (extra_in s.further) in
    let one = field-added _ _ f n _ _ _ _ c.push_number.ensures in
    let two = added-is _ _ _ _ _ _ _ _ (ap (λ (line : List ℕ). fields_text f (fields_in Other basic_columns line)) c.basic.ensures)
    c.push_each.ensures in
    let three = added-is _ _ _ _ _ _ _ _ (ap (λ (line : List ℕ). fields_text f (fields_in Other extra_columns line))
    (c.extra_among-extra.ensures ∙ ap extra_in c.further.ensures)) c.push_each-2.ensures in
    let all = fields-added _ _ f (n ∷ []) (basics ++ extras) _ _ _ _ _ _ one (fields-added _ _ f basics extras _ _ _ _ _ _ two three) in
    all-written _ _ _ _ _ _ _ _ c.new-rows.ensures
    (row-added _ _ f (row_of schedule_fields (numbered_schedule (c.args.number, s))) _ _ _ _ _ _ _ _ (some-field f n (basics ++ extras) refl)
    c.begin_row.ensures all c.end_row.ensures) c.finish.ensures
