-- A cancellation has its train only.
use Rattle.cif_views.proofs.Names.{[], codes, map, ◌∷◌}
use Rattle.cif_canon.specs.Rows.{journey_names}
use Rattle.cif_rows.specs.Row.{absent}
use Rattle.cif_views.proofs.RowNames.{Whole, added-after, field-added, fields-added, named}
use Rattle.cif_views.proofs.explanation.push_said_of_train.Goals as goal

pub returns-in-Some : goal.returns-in-Some
returns-in-Some g c = rw c.in-Some.is (added-after _ _ _ _ _ _ _ _ c.make_room.ensures.adds c.push_train.ensures.text)

pub returns-in-None : goal.returns-in-None
returns-in-None g c =
    let f = g.F.RowFormat.FORMAT in
    let uid = named (codes "uid") (Whole, c.args.schedule.now.uid) in
    rw c.in-None.is
    (fields-added _ _ f (uid ∷ []) (map absent journey_names) _ _ _ _ _ _
    (field-added _ _ f uid _ _ _ _ (rw (c.write.ensures.columns) at c.push.ensures)) c.push_absent.ensures)
