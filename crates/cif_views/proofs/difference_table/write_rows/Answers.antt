-- The line of the names goes first, and then what is listed: by lines, which are those of the records.
use Rattle.cif_views.proofs.Names.{ap, association_differences, association_lines, association_plain, both, by_pairs}
use Rattle.cif_views.proofs.Names.{difference_table, difference_text, flat_map, flat_map-append, flat_map-map, key_cmp, line_of_tiploc, listed_as}
use Rattle.cif_views.proofs.Names.{map, nat_cmp, schedule_differences, schedule_lines, schedule_plain, slice_cmp, sym, tiploc_lines, tiploc_row}
use Rattle.cif_views.proofs.Names.{◌++◌, ◌∙◌}
use Rattle.cif_views.proofs.TableRows.{flat-twice}
use Rattle.cif_canon.proofs.AppendedTexts.{text-is}
use Rattle.cif_views.proofs.difference_table.write_rows.Goals as goal

pub returns : goal.returns
unfolding difference_table
returns g c =
    let d = c.args.found.now in
    let text = difference_text g.F.RowFormat.FORMAT in
    let one = map tiploc_row (tiploc_lines d) in
    let two = flat_map association_differences (association_lines d) in
    let three = flat_map schedule_differences (schedule_lines d) in
    both _ _ _ _ _ _ _ c.write_heading.ensures
    (text-is _ _ _ _ _ _
    (ap (λ l. flat_map text one ++ l) (sym (flat_map-append text two three)) ∙ sym (flat_map-append text one (two ++ three)))
    (both _ _ _ _ _ _ _
    (text-is _ _ _ _ _ _
    (sym (flat_map-map text tiploc_row (tiploc_lines d)
    ∙ flat_map-map (λ s. text (tiploc_row s)) (λ s. record { side = s.side; it = line_of_tiploc s.it }) d.tiplocs))
    c.list_tiplocs.ensures)
    (both _ _ _ _ _ _ _
    (text-is _ _ _ _ _ _
    (sym (flat-twice text association_differences (association_lines d)
    ∙ flat_map-map (λ l. flat_map text (association_differences l)) (listed_as association_plain) (by_pairs key_cmp d.associations)))
    c.list_associations.ensures)
    (text-is _ _ _ _ _ _
    (sym (flat-twice text schedule_differences (schedule_lines d)
    ∙ flat_map-map (λ l. flat_map text (schedule_differences l)) (listed_as schedule_plain) (by_pairs (slice_cmp nat_cmp) d.schedules)))
    c.list_schedules.ensures))))
