-- What only one side has is a row; a pair has the rows of its fields.
use Rattle.cif_views.proofs.Names.{AssocBody, AssocKey, List, Listed, None, Option, Permanent, Some, ap, append-nil, association_differences}
use Rattle.cif_views.proofs.Names.{association_plain, category_fields, codes, difference_text, differing_rows, head_values, in_record}
use Rattle.cif_views.proofs.Names.{listed_as, rows_text, single_row, sym, type_fields, ℕ, ◌++◌, ◌∙◌}
use Rattle.cif_canon.proofs.AppendedTexts.{text-is}
use Rattle.cif_views.proofs.RowNames.{Value}
use Rattle.cif_views.specs.declared.difference_table.RecordKind.TheVariants.{Association}
use Rattle.cif_views.proofs.difference_table.DifferenceRowsTextsListedRecordAssocKeyAssocBody.write.Goals as goal

abbrev Record : Type 0
Record = AssocKey × Permanent AssocBody

abbrev rows : Listed Record → List (List Value)
rows p = association_differences (listed_as association_plain p)

pub returns-in-None : goal.returns-in-None
returns-in-None g c =
    let e = c.item.inside in
    let f = g.F.RowFormat.FORMAT in
    text-is _ _ _ _ _ _
    (ap (λ (l : List ℕ). difference_text f (single_row (head_values Association (Some e.side) l))) c.line-line.ensures
    ∙ sym (append-nil _)
    ∙ ap (rows_text f) (ap (λ (o : Option Record). rows (record { side = e.side; it = e.one }, o)) (sym c.in-None.is) ∙ ap rows c.item.view_is))
    c.write_single.ensures

pub returns-in-Some : goal.returns-in-Some
returns-in-Some g c =
    let e = c.item.inside in
    let f = g.F.RowFormat.FORMAT in
    let one = c.line-line.ensures in
    let other = c.line.ensures in
    text-is _ _ _ _ _ _
    ((λ i. rows_text f (differing_rows (in_record (head_values Association None (one i)) (codes "AA")) (category_fields ++ type_fields) (one i) (other i)))
    ∙ ap (rows_text f) (ap (λ (o : Option Record). rows (record { side = e.side; it = e.one }, o)) (sym c.in-Some.is) ∙ ap rows c.item.view_is))
    c.write_associations.ensures
