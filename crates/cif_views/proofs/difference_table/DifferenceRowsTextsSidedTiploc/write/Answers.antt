-- The row of a location.
use Rattle.cif_views.proofs.Names.{List, Some, ap, difference_text, head_values, single_row, ℕ}
use Rattle.cif_canon.proofs.AppendedTexts.{text-is}
use Rattle.cif_views.specs.declared.difference_table.RecordKind.TheVariants.{Tiploc}
use Rattle.cif_views.proofs.difference_table.DifferenceRowsTextsSidedTiploc.write.Goals as goal

pub returns : goal.returns
returns g c =
    text-is _ _ _ _ _ _
    (ap (λ (l : List ℕ). difference_text g.F.RowFormat.FORMAT (single_row (head_values Tiploc (Some c.args.item.now.side) l)))
    c.write.ensures.plain) c.write_single.ensures
