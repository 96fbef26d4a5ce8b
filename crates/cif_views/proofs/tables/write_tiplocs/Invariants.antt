-- What is written is the rows of the locations so far.
use Rattle.cif_views.proofs.Names.{IsAppended, flat_map, line_of_tiploc, row_of, take, tiploc_fields}
use Rattle.cif_views.proofs.RowNames.{row_text}
use Rattle.cif_views.proofs.tables.write_tiplocs.Given as goal

abbrev pub invariant-loop-tiploc : goal.invariant-loop-tiploc
invariant-loop-tiploc g l =
    IsAppended g.W.Write.contents g.W.WriteDevice.write_errors
    (flat_map (λ t. row_text g.F.RowFormat.FORMAT (row_of tiploc_fields (line_of_tiploc t))) (take l.tiploc-index l.tiplocs)) l.initial.sink
    l.sink
