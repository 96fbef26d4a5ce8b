-- One line more is written (`one-line`), and where no line is left the rows are whole (`none-left`).
use Rattle.cif_views.proofs.Names.{ap, arith, flat_map, flat_map-append, is_call, kind_of_line, length, length-drop, refl, row_of_step, step_at}
use Rattle.cif_views.proofs.Names.{sym, ◌++◌, ◌+◌, ◌∙◌}
use Rattle.cif_views.proofs.Names.{[], None, append-nil, midnight, ◌≡◌}
use Rattle.cif_views.proofs.PublicRows.{none-left, one-line, rows_left}
use Rattle.cif_views.proofs.RowNames.{added-both, added-is, added-waits, all-written, row_text}
use Rattle.cif_views.proofs.TableRows.{first-and-rest, next-call, no-lines, some-lines}
use Rattle.cif_views.proofs.public_calls.write_public_calls.Goals as goal

pub loop-lines-init : goal.loop-lines-init
loop-lines-init g c =
    let is : c.on_date.result ≡ midnight = c.on_date.ensures ∙ ap (λ n. midnight + n) c.new.ensures in (
      [],
      added-waits _ _ [] _ _ _ (sym (append-nil _)),
      ap (λ m. rows_left c.args.schedule (record { left = None; shown = m }) 1 c.args.lines) is,
      (0, record { left = tt; late = omega (arith, is); early = omega (arith, is) }, omega arith),
      omega arith,
    )

pub loop-lines-preserved : goal.loop-lines-preserved
loop-lines-preserved g c =
    let (done, added, left, (n, by, few), calls) = c.loop-lines.invariant in
    let text = row_text g.F.RowFormat.FORMAT in
    let lines = c.loop-lines.lines in
    let line = c.first.result in
    let some = some-lines lines _ c.is_empty.ensures c.loop-lines-test.true in
    let is = first-and-rest lines line c.rest-lines.result some c.first.ensures c.rest-lines.ensures in
    let long = ap length is in
    let own = row_of_step c.of-number.result c.loop-lines.call line (step_at c.loop-lines.journey line).1 in (
      done ++ own,
      added-is _ _ _ _ _ _ _ _ (sym (flat_map-append text done own)) (added-both _ _ _ _ _ _ _ _ _ _ added c.write_step-call.ensures.row),
      one-line c.args.schedule _ done _ c.loop-lines.journey _ _ c.loop-lines.call _ lines line _ is c.of-number.ensures refl
          c.write_step-call.ensures.journey c.write_step-call.ensures.next left,
      (n + 2, c.write_step-call.ensures.by n by, omega (arith, long, few)),
      next-call (is_call (kind_of_line line)) c.loop-lines.call _ _ lines _ line is c.write_step-call.ensures.next calls,
    )

pub loop-lines-smaller : goal.loop-lines-smaller
loop-lines-smaller g c =
    let some = some-lines c.loop-lines.lines _ c.is_empty.ensures c.loop-lines-test.true in
    let behind = ap length c.rest-lines.ensures ∙ length-drop 1 c.loop-lines.lines in omega (arith, some, behind)

pub returns : goal.returns
returns g c =
    let (done, added, left, _, _) = c.loop-lines.invariant in
    let lines = c.loop-lines.lines in
    let none = no-lines lines _ c.is_empty.ensures c.loop-lines-test.false in
    all-written _ _ _ _ _ _ _ _ c.new-rows.ensures
    (added-is _ _ _ _ _ _ _ _ (ap (flat_map (row_text g.F.RowFormat.FORMAT)) (none-left c.args.schedule _ done _ _ lines none left)) added)
    c.finish.ensures
