-- One line more is written (`one-line`), until none is left (`none-left`).
use Rattle.cif_views.proofs.Names.{Numbered, [], ap, append-nil, arith, flat_map, flat_map-append, is_call, kind_of_line, refl, row_of_kind}
use Rattle.cif_views.proofs.Names.{rows_of, sym, ◌++◌, ◌∙◌}
use Rattle.cif_views.proofs.RowNames.{added-both, added-is, added-waits, all-written, row_text}
use Rattle.cif_views.proofs.TableRows.{first-and-rest, next-call, no-lines, none-left, numbered-row, one-line, some-lines}
use Rattle.cif_views.proofs.tables.write_journey.Goals as goal

pub loop-lines-init : goal.loop-lines-init
loop-lines-init g c = ([], added-waits _ _ [] _ _ _ (sym (append-nil _)), refl, omega arith)

pub loop-lines-preserved : goal.loop-lines-preserved
loop-lines-preserved g c =
    let (done, added, left, few) = c.loop-lines.invariant in
    let text = row_text g.F.RowFormat.FORMAT in
    let lines = c.loop-lines.lines in
    let some = some-lines lines _ c.is_empty.ensures c.loop-lines-test.true in
    let line = c.first.result in
    let is = first-and-rest lines line c.rest-lines.result some c.first.ensures c.rest-lines.ensures in
    let numbered : Numbered = record { schedule = c.args.schedule; call = c.loop-lines.call; line = line } in
    let own = rows_of c.args.calls numbered in (
      done ++ own,
      added-is _ _ _ _ _ _ _ _ (sym (flat_map-append text done own)) (added-both _ _ _ _ _ _ _ _ _ _ added
          (added-is _ _ _ _ _ _ _ _ (ap (flat_map text)
          (ap (λ number. row_of_kind c.args.calls number c.loop-lines.call (kind_of_line line) line) c.of-number.ensures
          ∙ numbered-row c.args.calls numbered)) c.write_numbered-call.ensures.row)),
      one-line (rows_of c.args.calls) c.args.schedule _ done c.loop-lines.call _ lines line _ is c.write_numbered-call.ensures.next left,
      next-call (is_call (kind_of_line line)) c.loop-lines.call _ _ lines _ line is c.write_numbered-call.ensures.next few,
    )

pub returns : goal.returns
returns g c =
    let (done, added, left, few) = c.loop-lines.invariant in
    let lines = c.loop-lines.lines in
    let none = no-lines lines _ c.is_empty.ensures c.loop-lines-test.false in
    all-written _ _ _ _ _ _ _ _ c.new-rows.ensures
    (added-is _ _ _ _ _ _ _ _ (ap (flat_map (row_text g.F.RowFormat.FORMAT))
    (none-left (rows_of c.args.calls) c.args.schedule _ done c.loop-lines.call lines none left)) added) c.finish.ensures
