-- The fields go one after another.
use Rattle.cif_views.proofs.Names.{List, [], ap, codes, kind_of_line, ℕ, ◌-◌, ◌∙◌, ◌∷◌, midnight, riders_of, time_text}
use Rattle.cif_views.proofs.RowNames.{Field, Number, Whole, added-is, field-added, field_text, fields-added, named, number_field, text, three-fields}
use Rattle.cif_views.specs.PublicCalls.{pick_up, platform_in, set_down, times_of}
use Rattle.cif_views.specs.Tables.{text_at}
use Rattle.cif_views.proofs.public_calls.push_public_call.Goals as goal

pub returns : goal.returns
returns g c =
    let f = g.F.RowFormat.FORMAT in
    let line = c.args.line.now in
    let shown = c.args.public.now.shown in
    let schedule : Field = named (codes "schedule") (Number, c.args.schedule.now) in
    let call : Field = number_field (codes "call") c.args.call in
    let location : Field = named (codes "location") (text_at 3 9 line) in
    let platform : Field = named (codes "platform") (platform_in (kind_of_line line) line) in
    let arrival : Field = named (codes "arrival") (Whole, time_text (shown.arrival - midnight)) in
    let departure : Field = named (codes "departure") (Whole, time_text (shown.departure - midnight)) in
    let down : Field = named (codes "set_down") (Number, set_down (riders_of line) (times_of line)) in
    let up : Field = named (codes "pick_up") (Number, pick_up (riders_of line) (times_of line)) in
    let one = three-fields _ _ f schedule call location _ _ _ _ _ _ _ _ c.push_numeral.ensures c.push_number.ensures
    (added-is _ _ _ _ _ _ _ _ (ap (λ (l : List ℕ). field_text f (named (codes "location") (text l))) c.columns_at-location.ensures.value)
    c.push.ensures) in
    let two = three-fields _ _ f platform arrival departure _ _ _ _ _ _ _ _
    (added-is _ _ _ _ _ _ _ _ (ap (λ k. field_text f (named (codes "platform") (platform_in k line))) c.kind_of_line.ensures)
    c.push_platform.ensures) c.push_to.ensures c.push_to-2.ensures in
    let three = fields-added _ _ f (down ∷ []) (up ∷ []) _ _ _ _ _ _
    (field-added _ _ f down _ _ _ _ (added-is _ _ _ _ _ _ _ _
    (ap (λ (l : List ℕ). field_text f (named (codes "set_down") (Number, l)))
    (c.answers_of-set_down.ensures.set_down ∙ (λ i. set_down (c.requires.riders i) (c.requires.times i)))) c.push-2.ensures))
    (field-added _ _ f up _ _ _ _ (added-is _ _ _ _ _ _ _ _
    (ap (λ (l : List ℕ). field_text f (named (codes "pick_up") (Number, l)))
    (c.answers_of-set_down.ensures.pick_up ∙ (λ i. pick_up (c.requires.riders i) (c.requires.times i)))) c.push-3.ensures)) in
    fields-added _ _ f (schedule ∷ call ∷ location ∷ []) (platform ∷ arrival ∷ departure ∷ down ∷ up ∷ []) _ _ _ _ _ _ one
    (fields-added _ _ f (platform ∷ arrival ∷ departure ∷ []) (down ∷ up ∷ []) _ _ _ _ _ _ two three)
