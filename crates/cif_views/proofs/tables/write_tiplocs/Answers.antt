-- The text is a fold over locations: one more goes after it (`one-more`).
use Rattle.cif_views.proofs.Names.{all-items, ap, line_of_tiploc, row_of, tiploc_fields}
use Rattle.cif_canon.proofs.AppendedTexts.{one-more, text-is}
use Rattle.cif_views.proofs.RowNames.{row_text}
use Rattle.cif_views.proofs.tables.write_tiplocs.Goals as goal

pub loop-tiploc-preserved : goal.loop-tiploc-preserved
loop-tiploc-preserved g c =
    one-more _ _ (λ t. row_text g.F.RowFormat.FORMAT (row_of tiploc_fields (line_of_tiploc t))) c.args.tiplocs.now c.loop-tiploc.tiploc-index _ _
    c.loop-tiploc.invariant c.tiploc-item.result _ c.loop-tiploc-test.true c.tiploc-item.is
    (text-is _ _ _ _ _ _ (ap (λ line. row_text g.F.RowFormat.FORMAT (row_of tiploc_fields line)) c.write.ensures.plain) c.write_line.ensures)

pub returns : goal.returns
returns g c =
    all-items _ _ (λ t. row_text g.F.RowFormat.FORMAT (row_of tiploc_fields (line_of_tiploc t))) c.args.tiplocs.now c.loop-tiploc.tiploc-index _ _
    c.loop-tiploc.invariant c.loop-tiploc-test.false
