-- The origin, the calls on the way and the terminus (`first-and-last`).
use Rattle.cif_views.proofs.Names.{call_text, calls_at, flat_map, origin_call, parts_in, terminus_call}
use Rattle.cif_views.proofs.CallRows.{first-and-last}
use Rattle.cif_views.proofs.RowNames.{added-both, added-is}
use Rattle.cif_views.proofs.calls.push_calls.Goals as goal

pub returns : goal.returns
returns g c fields h =
    let b = parts_in c.args.body.now in
    let text = call_text g.F.RowFormat.FORMAT fields in
    added-is _ _ _ _ _ _ _ _ (first-and-last text (origin_call b.origin) (flat_map calls_at b.calls) (terminus_call b.terminus))
    (added-both _ _ _ _ _ _ _ _ _ _ (rw (c.origin_call.ensures, c.origin.ensures) at c.push_call_of.ensures fields h)
    (added-both _ _ _ _ _ _ _ _ _ _ (rw (c.calls.ensures) at c.push_calls_between.ensures fields h)
    (rw (c.terminus_call.ensures, c.terminus.ensures) at c.push_call_of-2.ensures fields h)))
