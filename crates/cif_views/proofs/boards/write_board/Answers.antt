-- The rows are those of the board (`rows-are`), and the text has them.
use Rattle.cif_views.proofs.Names.{IsAppended, extract_parts, fault-answered, refl, subst, sym, written-so}
use Rattle.cif_canon.specs.Tiplocs.{AreDistinct}
use Rattle.cif_views.proofs.BoardRows.{rows-are}
use Rattle.cif_views.specs.Boards.{AreBoardRows, IsBoard, board_text}
use Rattle.cif_views.specs.Steps.Boards.{AreRowsOf}
use Rattle.cif_views.proofs.boards.write_board.Goals as goal
use Rattle.cif_views.proofs.boards.write_board.Goals.{in-Json, in-Text, in-Tsv}

pub returns-clause-view : goal.returns-clause-view
returns-clause-view g c =
    let x = extract_parts c.args.extract.now in
    let board = c.args.board.now in
    let format = c.args.format in
    let tiplocs = c.as_slice-tiplocs.result.now in
    let rows = c.as_slice-rows.result.now in
    let text = board_text format board tiplocs rows in
    let written : IsAppended g.W.Write.contents g.W.WriteDevice.write_errors text c.args.sink.now c.match-format.sink = elim c.match-format.branch [
      | in-Text w ↦ rw (w.in-Text.is, w.sink-is) w.write_rows.ensures
      | in-Tsv w ↦ rw (w.in-Tsv.is, w.sink-is) w.write_rows-in-Tsv.ensures
      | in-Json w ↦ rw (w.in-Json.is, w.sink-is) w.write_rows-in-Json.ensures
    ] in
    let are = subst (λ ts. AreRowsOf ts board c.in_ok-schedules.schedules c.in_ok-rows.rows.items) c.as_slice-2.ensures.value c.in_ok-rows.ensures in
    let board_is : IsBoard format x board text = record {
      within = c.in_ok-check_within.ensures.ok;
      clear = c.in_ok-schedules.ensures.schedules.clear;
      tiplocs = tiplocs;
      are_tiplocs = subst (AreDistinct x.tiplocs) (sym c.as_slice-tiplocs.ensures.value)
          (subst (λ ts. AreDistinct ts c.in_ok-tiplocs.tiplocs.items) c.as_slice.ensures.value c.in_ok-tiplocs.ensures);
      rows = rows;
      are_rows = subst (AreBoardRows x board) (sym c.as_slice-rows.ensures.value)
          (rows-are x board c.in_ok-schedules.schedules c.in_ok-rows.rows.items c.in_ok-schedules.ensures.schedules are);
      text_is = refl;
    } in (
      text,
      fault-answered _ _ _ _ _ c.answer.result c.answer.ensures.ok c.answer.ensures.failed c.answer.ensures.fault written,
      written-so c.answer.result _ board_is,
    )
