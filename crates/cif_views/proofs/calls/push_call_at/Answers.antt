-- A location on the way is one call.
use Rattle.cif_views.proofs.Names.{append-nil, call_text, sym}
use Rattle.cif_views.proofs.RowNames.{added-is}
use Rattle.cif_views.proofs.calls.push_call_at.Goals as goal

pub returns-in-At : goal.returns-in-At
returns-in-At g c fields h =
    rw c.in-At.is
    (added-is _ _ _ _ _ _ _ _ (sym (append-nil (call_text g.F.RowFormat.FORMAT fields _)))
    (rw (c.stop_call.ensures) at c.push_call_of.ensures fields h))
