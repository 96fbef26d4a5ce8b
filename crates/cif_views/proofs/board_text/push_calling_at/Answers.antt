-- Three fields, if the train has to call somewhere.
use Rattle.cif_views.proofs.Names.{[], ap, codes, sym, ◌∷◌}
use Rattle.cif_views.proofs.RowNames.{Whole, added-is, added-waits, field-added, field_text, fields-added, fields_text, named, text}
use Rattle.cif_views.specs.Boards.{date_value, fields_at}
use Rattle.cif_views.specs.Moments.{time_text}
use Rattle.cif_views.proofs.board_text.push_calling_at.Goals as goal

pub returns : goal.returns
returns g c =
    let f = g.F.RowFormat.FORMAT in
    let at = c.args.calling_at in
    let location = named (codes "calling_at") (text c.in-Some.location) in
    let date = named (codes "calling_at_date") (date_value at.date) in
    let time = named (codes "calling_at_time") (Whole, time_text at.time) in
    added-is _ _ _ _ _ _ _ _ (ap (λ o. fields_text f (fields_at o at)) (sym c.in-Some.is))
    (fields-added _ _ f (location ∷ []) (date ∷ time ∷ []) _ _ _ _ _ _ (field-added _ _ f location _ _ _ _ c.push.ensures)
    (fields-added _ _ f (date ∷ []) (time ∷ []) _ _ _ _ _ _ c.push_date.ensures
    (field-added _ _ f time _ _ _ _ (rw (c.write.ensures) at c.push-2.ensures))))
