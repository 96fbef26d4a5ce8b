-- One place more is written (`one-place`).
use Rattle.cif_views.proofs.Names.{[], ap, append-nil, arith, difference_text, flat_map-append, head_of, is_call, length, refl, rows_of_place}
use Rattle.cif_views.proofs.Names.{rows_of_places, sym, ◌++◌}
use Rattle.cif_views.proofs.DifferingFields.{as-many, one-place, rest-places}
use Rattle.cif_views.proofs.RowNames.{added-both, added-is, added-waits}
use Rattle.cif_views.proofs.TableRows.{first-and-rest, next-call, some-lines}
use Rattle.cif_views.proofs.difference_table.write_places.Goals as goal

pub loop-lefts-init : goal.loop-lefts-init
loop-lefts-init g c = ([], added-waits _ _ [] _ _ _ (sym (append-nil _)), refl, c.requires.places, omega arith)

pub first-other-requires : goal.first-other-requires
first-other-requires g c =
    let (done, added, left, same, few) = c.loop-lefts.invariant in
    omega (arith, some-lines c.loop-lefts.lefts _ c.is_empty.ensures c.loop-lefts-test.true, as-many c.loop-lefts.lefts _ same)

pub rest-rights-requires : goal.rest-rights-requires
rest-rights-requires g c =
    let (done, added, left, same, few) = c.loop-lefts.invariant in
    omega (arith, some-lines c.loop-lefts.lefts _ c.is_empty.ensures c.loop-lefts-test.true, as-many c.loop-lefts.lefts _ same)

pub loop-lefts-preserved : goal.loop-lefts-preserved
loop-lefts-preserved g c =
    let (done, added, left, same, few) = c.loop-lefts.invariant in
    let lefts = c.loop-lefts.lefts in
    let rights = c.loop-lefts.rights in
    let some = some-lines lefts _ c.is_empty.ensures c.loop-lefts-test.true in
    let many = as-many lefts rights same in
    let one = c.first-one.result in
    let other = c.first-other.result in
    let more = c.rest-lefts.result in
    let others = c.rest-rights.result in
    let is = first-and-rest lefts one more some c.first-one.ensures c.rest-lefts.ensures in
    let is-other = first-and-rest rights other others (omega (arith, some, many)) c.first-other.ensures c.rest-rights.ensures in
    let call = c.loop-lefts.call in
    let next = c.call_after-call.result in
    let kind = c.kind_of_line.result in
    let head = head_of c.args.head.now in
    let rows = rows_of_place head call kind one other in
    let whole = rows_of_places head 1 c.args.left c.args.right in (
      done ++ rows,
      added-is _ _ _ _ _ _ _ _ (sym (flat_map-append (difference_text g.F.RowFormat.FORMAT) done rows))
          (added-both _ _ _ _ _ _ _ _ _ _ added c.write_place.ensures),
      one-place head whole done call next kind lefts rights one other more others is is-other c.kind_of_line.ensures
          c.call_after-call.ensures left,
      rest-places lefts rights more others same some c.rest-lefts.ensures c.rest-rights.ensures,
      next-call (is_call kind) call next _ lefts more one is c.call_after-call.ensures few,
    )

pub loop-lefts-smaller : goal.loop-lefts-smaller
loop-lefts-smaller g c =
    let some = some-lines c.loop-lefts.lefts _ c.is_empty.ensures c.loop-lefts-test.true in
    omega (arith, ap length (first-and-rest c.loop-lefts.lefts _ _ some c.first-one.ensures c.rest-lefts.ensures))
