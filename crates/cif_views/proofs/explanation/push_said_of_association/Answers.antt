-- A cancellation has its key only.
use Rattle.cif_views.proofs.RowNames.{added-after}
use Rattle.cif_views.proofs.explanation.push_said_of_association.Goals as goal

pub returns-in-Some : goal.returns-in-Some
returns-in-Some g c = rw c.in-Some.is (added-after _ _ _ _ _ _ _ _ c.make_room.ensures.adds c.push_association.ensures.text)

pub returns-in-None : goal.returns-in-None
returns-in-None g c =
    rw c.in-None.is
    (rw (
      c.write.ensures.columns,
      c.write-in-None.ensures.columns,
      c.write-in-None-2.ensures.columns,
      c.write-in-None-3.ensures.columns,
      c.write-in-None-4.ensures.columns,
    ) at c.push_fields.ensures)
