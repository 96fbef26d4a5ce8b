-- By the format.
use Rattle.cif_views.proofs.Names.{answered}
use Rattle.cif_views.proofs.RowNames.{IsAppended}
use Rattle.cif_views.proofs.Names.{table_text}
use Rattle.cif_views.proofs.tables.write_table.Goals as goal
use Rattle.cif_views.proofs.tables.write_table.Goals.{in-Json, in-Text, in-Tsv}

pub returns-clause-writes : goal.returns-clause-writes
returns-clause-writes g c =
    let rows : IsAppended g.W.Write.contents g.W.WriteDevice.write_errors (table_text c.args.format c.args.table c.args.canon.now.lines)
    c.args.sink.now c.match-format.sink =
    elim c.match-format.branch [
      | in-Text w ↦ rw (w.in-Text.is, w.sink-is) w.write_rows.ensures
      | in-Tsv w ↦ rw (w.in-Tsv.is, w.sink-is) w.write_rows-in-Tsv.ensures
      | in-Json w ↦ rw (w.in-Json.is, w.sink-is) w.write_rows-in-Json.ensures
    ] in
    answered _ _ _ _ _ c.answer.result c.answer.ensures.ok c.answer.ensures.failed rows
