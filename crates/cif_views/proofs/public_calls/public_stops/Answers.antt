-- One line more (`one-stop`), until none is left (`no-stop`).
use Rattle.cif_views.proofs.Names.{None, ap, arith, is_call, kind_of_line, length, length-drop, midnight, sym, ◌++◌, ◌+◌, ◌∙◌, ◌≡◌}
use Rattle.cif_views.proofs.{Stops.no-stop, Stops.one-stop, Stops.stops_left}
use Rattle.cif_views.proofs.TableRows.{first-and-rest, next-call, no-lines, some-lines}
use Rattle.cif_views.proofs.public_calls.public_stops.Goals as goal

pub loop-lines-init : goal.loop-lines-init
loop-lines-init c =
    let is : c.on_date.result ≡ midnight = c.on_date.ensures ∙ ap (λ n. midnight + n) c.new.ensures in (
      ap (λ l. l ++ stops_left (record { left = None; shown = c.on_date.result }) 1 c.args.lines) c.new-stops.ensures.items
          ∙ ap (λ m. stops_left (record { left = None; shown = m }) 1 c.args.lines) is,
      (0, record { left = tt; late = omega (arith, is); early = omega (arith, is) }, omega arith),
      omega arith,
      c.are_few.ensures,
    )

pub add_stop-requires-clause-by : goal.add_stop-requires-clause-by
add_stop-requires-clause-by c =
    let (_, (n, by, upto), _, few) = c.loop-lines.invariant in (n, omega (arith, upto, few), by)

pub add_stop-requires-clause-call : goal.add_stop-requires-clause-call
add_stop-requires-clause-call c =
    let (_, _, calls, few) = c.loop-lines.invariant in
    let some = some-lines c.loop-lines.lines _ c.is_empty.ensures c.loop-lines-test.true in omega (arith, calls, few, some)

pub loop-lines-smaller : goal.loop-lines-smaller
loop-lines-smaller c =
    let some = some-lines c.loop-lines.lines _ c.is_empty.ensures c.loop-lines-test.true in
    let behind = ap length c.rest-lines.ensures ∙ length-drop 1 c.loop-lines.lines in omega (arith, some, behind)

pub loop-lines-preserved : goal.loop-lines-preserved
loop-lines-preserved c =
    let (left, (n, by, upto), calls, few) = c.loop-lines.invariant in
    let lines = c.loop-lines.lines in
    let line = c.first.result in
    let some = some-lines lines _ c.is_empty.ensures c.loop-lines-test.true in
    let is = first-and-rest lines line c.rest-lines.result some c.first.ensures c.rest-lines.ensures in
    let long = ap length is in
    let next = c.in_ok-call.ensures.next in (
      one-stop _ _ _ c.loop-lines.journey _ c.loop-lines.call _ lines line _ is c.in_ok-call.ensures.stops c.add_stop.ensures.journey next left,
      (n + 2, c.add_stop.ensures.by n by, omega (arith, long, upto)),
      next-call (is_call (kind_of_line line)) c.loop-lines.call _ _ lines _ line is next calls,
      few,
    )

pub returns : goal.returns
returns c =
    let (left, _, _, _) = c.loop-lines.invariant in
    let none = no-lines c.loop-lines.lines _ c.is_empty.ensures c.loop-lines-test.false in
    no-stop _ _ c.loop-lines.journey c.loop-lines.call c.loop-lines.lines none left
