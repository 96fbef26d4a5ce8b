-- What only one side has is a row; a pair has the rows of its fields.
use Rattle.cif_views.proofs.Names.{BodyLines, List, Listed, Option, Permanent, Some, ap, append-nil}
use Rattle.cif_views.proofs.Names.{difference_text, head_values}
use Rattle.cif_views.proofs.Names.{listed_as, rows_text, schedule_differences, schedule_plain, single_row, sym, ℕ, ◌∙◌}
use Rattle.cif_canon.proofs.AppendedTexts.{text-is}
use Rattle.cif_views.proofs.RowNames.{Value}
use Rattle.cif_views.specs.declared.difference_table.RecordKind.TheVariants.{Schedule}
use Rattle.cif_views.proofs.difference_table.DifferenceRowsTextsListedRecordUidBody.write.Goals as goal

abbrev Record : Type 0
Record = List ℕ × Permanent BodyLines

abbrev rows : Listed Record → List (List Value)
rows p = schedule_differences (listed_as schedule_plain p)

pub returns-in-None : goal.returns-in-None
returns-in-None g c =
    let e = c.item.inside in
    let f = g.F.RowFormat.FORMAT in
    text-is _ _ _ _ _ _
    (ap (λ (l : List ℕ). difference_text f (single_row (head_values Schedule (Some e.side) l))) c.basic.ensures
    ∙ sym (append-nil _)
    ∙ ap (rows_text f) (ap (λ (o : Option Record). rows (record { side = e.side; it = e.one }, o)) (sym c.in-None.is) ∙ ap rows c.item.view_is))
    c.write_single.ensures

pub returns-in-Some : goal.returns-in-Some
returns-in-Some g c =
    let e = c.item.inside in
    let f = g.F.RowFormat.FORMAT in
    text-is _ _ _ _ _ _
    (ap (rows_text f) (ap (λ (o : Option Record). rows (record { side = e.side; it = e.one }, o)) (sym c.in-Some.is) ∙ ap rows c.item.view_is))
    c.write_schedules.ensures
