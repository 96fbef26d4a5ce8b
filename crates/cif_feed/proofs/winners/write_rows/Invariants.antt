-- What is added is the rows of the runs so far.
use Rattle.cif_feed.proofs.Names.{flat_map, take}
use Rattle.cif_rows.specs.{Adds.Adds, Row.row_text}
use Rattle.cif_feed.specs.{Steps.Deciding.row_of, Winners.winner_row}
use Rattle.cif_feed.proofs.winners.write_rows.Given as goal

abbrev pub invariant-loop-run : goal.invariant-loop-run
invariant-loop-run g l =
    Adds g.W.Write.contents g.W.WriteDevice.write_errors
    (flat_map (λ run. row_text g.F.RowFormat.FORMAT (winner_row l.schedules (row_of l.schedules run))) (take l.run-index l.runs))
    l.initial.sink l.sink l.initial.rows l.rows
