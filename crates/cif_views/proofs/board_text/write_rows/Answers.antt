-- One row more goes after the others (`one-added`).
use Rattle.cif_views.proofs.Names.{List, [], append-nil, ap, codes, length, refl, sym, ℕ, ◌<◌, ◌∷◌}
use Rattle.cif_records.specs.declared.tiploc.Tiploc.{Tiploc}
use Rattle.cif_views.proofs.RowNames.{Date, Format, Json, Text, Tsv, Whole, added-both, added-is, added-waits, all-added, all-written, fields_text, named}
use Rattle.cif_views.proofs.RowNames.{one-added, row-added, row_text, some-field}
use Rattle.cif_views.specs.Boards.{board_fields, hour_and_minute}
use Rattle.cif_views.specs.declared.{board.Board.Board, board.BoardRow.BoardRow}
use Rattle.cif_views.proofs.Names.{drop, yymmdd_of}
use Rattle.cif_views.proofs.board_text.write_rows.Goals as goal

some : (f : Format) (board : Board) (tiplocs : List Tiploc) (row : BoardRow) → 0 < length (fields_text f (board_fields f board tiplocs row))
some Text board tiplocs row =
    some-field Text (named (codes "time") (Whole, hour_and_minute row.key.time)) (drop 1 (board_fields Text board tiplocs row)) refl
some Tsv board tiplocs row =
    some-field Tsv (named (codes "date") (Date, yymmdd_of board.day)) (drop 1 (board_fields Tsv board tiplocs row)) refl
some Json board tiplocs row =
    some-field Json (named (codes "date") (Date, yymmdd_of board.day)) (drop 1 (board_fields Json board tiplocs row)) refl

pub loop-row-init : goal.loop-row-init
loop-row-init g c = added-waits _ _ [] _ _ _ (sym (append-nil _))

pub loop-row-preserved : goal.loop-row-preserved
loop-row-preserved g c =
    let f = g.F.RowFormat.FORMAT in
    let board = c.args.board.now in
    let tiplocs = c.args.tiplocs.now in
    let row = c.row-item.result in
    one-added _ _ (λ r. row_text f (board_fields f board tiplocs r)) c.args.board_rows.now c.loop-row.row-index _ _ _ _
    c.loop-row.invariant row _ _ c.loop-row-test.true
    (added-is _ _ _ _ _ _ _ _ (ap (λ r. row_text f (board_fields f board tiplocs r)) c.row-item.is)
    (row-added _ _ f (board_fields f board tiplocs row) _ _ _ _ _ _ _ _ (some f board tiplocs row) c.begin_row.ensures c.push_row.ensures
    c.end_row.ensures))

pub returns : goal.returns
returns g c =
    let f = g.F.RowFormat.FORMAT in
    all-written _ _ _ _ _ _ _ _ c.new-rows.ensures
    (added-both _ _ _ _ _ _ _ _ _ _ c.push_names.ensures
    (all-added _ _ (λ r. row_text f (board_fields f c.args.board.now c.args.tiplocs.now r)) c.args.board_rows.now c.loop-row.row-index _ _ _ _
    c.loop-row.invariant c.loop-row-test.false)) c.finish.ensures
