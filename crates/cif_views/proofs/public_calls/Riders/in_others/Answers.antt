-- What two columns more say is joined (`said-next`).
use Rattle.cif_views.proofs.Riders.{said-next}
use Rattle.cif_views.proofs.public_calls.Riders.in_others.Goals as goal

pub loop-rest-preserved : goal.loop-rest-preserved
loop-rest-preserved c =
    said-next c.loop-rest.riders c.loop-rest.rest.now _ _ _ c.in-len2-up.len_at_least c.of_one.ensures c.join-riders.ensures
    c.loop-rest.invariant
