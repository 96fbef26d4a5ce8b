-- The names go first, and then the rows, by the table.
use Rattle.cif_views.proofs.Names.{ap, append-nil, both, enumerate_from, flat_map, flat_map-map, header_fields, line_of_tiploc, row_of}
use Rattle.cif_views.proofs.Names.{schedule_rows, sym, table_rows, table_text, tiploc_fields, ◌∙◌, ℕ, ScheduleLines}
use Rattle.cif_views.proofs.RowNames.{row_text}
use Rattle.cif_views.proofs.TableRows.{flat-twice, listed-rows}
use Rattle.cif_canon.proofs.AppendedTexts.{text-is}
use Rattle.cif_views.specs.Tables.{association_fields}
use Rattle.cif_views.proofs.tables.write_rows.Goals as goal

pub returns-in-Header : goal.returns-in-Header
unfolding table_text
returns-in-Header g c =
    let f = g.F.RowFormat.FORMAT in
    let x = c.args.canon.now.lines in
    both _ _ _ _ _ _ _ c.write_heading.ensures
    (text-is _ _ _ _ _ _
    (ap (λ line. row_text f (row_of header_fields line)) c.header_line.ensures ∙ sym (append-nil _)
    ∙ ap (λ t. flat_map (row_text f) (table_rows t x)) (sym c.in-Header.is)) c.write_line.ensures)

pub returns-in-Tiplocs : goal.returns-in-Tiplocs
unfolding table_text
returns-in-Tiplocs g c =
    let f = g.F.RowFormat.FORMAT in
    let x = c.args.canon.now.lines in
    both _ _ _ _ _ _ _ c.write_heading.ensures
    (text-is _ _ _ _ _ _
    (sym (flat_map-map (λ line. row_text f (row_of tiploc_fields line)) line_of_tiploc c.tiplocs.result.now)
    ∙ ap (flat_map (λ line. row_text f (row_of tiploc_fields line))) c.tiplocs.ensures
    ∙ sym (flat_map-map (row_text f) (row_of tiploc_fields) x.tiplocs)
    ∙ ap (λ t. flat_map (row_text f) (table_rows t x)) (sym c.in-Tiplocs.is)) c.write_tiplocs.ensures)

pub returns-in-Associations : goal.returns-in-Associations
unfolding table_text
returns-in-Associations g c =
    let f = g.F.RowFormat.FORMAT in
    let x = c.args.canon.now.lines in
    both _ _ _ _ _ _ _ c.write_heading.ensures
    (text-is _ _ _ _ _ _
    (sym (flat_map-map (row_text f) (row_of association_fields) x.associations)
    ∙ ap (λ t. flat_map (row_text f) (table_rows t x)) (sym c.in-Associations.is)) c.list_associations.ensures)

pub returns-in-Schedules : goal.returns-in-Schedules
unfolding table_text
returns-in-Schedules g c =
    let f = g.F.RowFormat.FORMAT in
    let x = c.args.canon.now.lines in
    both _ _ _ _ _ _ _ c.write_heading.ensures
    (text-is _ _ _ _ _ _
    (sym (flat-twice (row_text f) (λ (s : ℕ × ScheduleLines). schedule_rows c.args.table s.0 s.1) (enumerate_from 1 x.schedules))
    ∙ ap (flat_map (row_text f)) (listed-rows c.args.table x c.in-Schedules.is)) c.list_schedules.ensures)
