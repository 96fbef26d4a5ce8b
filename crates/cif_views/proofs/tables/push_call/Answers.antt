-- With room made, the fields go after what waits.
use Rattle.cif_views.proofs.RowNames.{added-both, added-waits}
use Rattle.cif_views.proofs.tables.push_call.Goals as goal

pub returns-then-is_shown_as_it_is : goal.returns-then-is_shown_as_it_is
returns-then-is_shown_as_it_is g c = added-both _ _ _ _ _ _ _ _ _ _ c.make_room.ensures.adds (added-waits _ _ _ _ _ _ c.push_fields_of_call.ensures)
