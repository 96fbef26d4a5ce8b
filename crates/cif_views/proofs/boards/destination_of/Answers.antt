-- Each call is the last until the next one, and so is each where riders may get off.
use Rattle.cif_views.proofs.Names.{List, None, Option, Some, ap, ap₂, at_drop_all, codes, drop, if◌then◌else◌, refl, sym, true, ℕ, ◌+◌, ◌∙◌, ◌∷◌}
use Rattle.std.proofs.lemmas.List.{at_drop_more}
use Rattle.std.specs.Option.{option_or}
use Rattle.std.specs.Prelude.{unwrap_or}
use Rattle.cif_views.specs.Boards.{last_location}
use Rattle.cif_views.specs.declared.public_stop.PublicStop.{PublicStop}
use Rattle.cif_views.proofs.boards.destination_of.Goals as goal

pub loop-stop-init : goal.loop-stop-init
loop-stop-init c = (refl, refl)

pub loop-stop-preserved : goal.loop-stop-preserved
loop-stop-preserved c =
    let (last, all) = c.loop-stop.invariant in
    let stops = c.args.stops.now in
    let stop = c.stop-item.result in
    let i = c.loop-stop.stop-index in
    let on = λ (s : PublicStop). s.gets_off in
    let any = λ (s : PublicStop). true in (
      ap (last_location on (drop (i + 1) stops)) (c.location_if-last_open.ensures
          ∙ ap (λ (s : PublicStop). if s.gets_off then Some s.location else c.loop-stop.last_open) c.stop-item.is)
          ∙ sym (at_drop_more (λ l. last_location on l c.loop-stop.last_open) stops i stop c.loop-stop-test.true)
          ∙ last,
      ap (λ (s : PublicStop). last_location any (drop (i + 1) stops) (Some s.location)) c.stop-item.is
          ∙ sym (at_drop_more (λ l. last_location any l c.loop-stop.last) stops i stop c.loop-stop-test.true)
          ∙ all,
    )

pub returns : goal.returns
returns c =
    let (last, all) = c.loop-stop.invariant in
    let stops = c.args.stops.now in
    let i = c.loop-stop.stop-index in
    let over = c.loop-stop-test.false in
    let on = λ (s : PublicStop). s.gets_off in
    let any = λ (s : PublicStop). true in
    c.unwrap_or.ensures
    ∙ ap (λ (o : Option (List ℕ)). unwrap_or o (codes "       ")) (c.or.ensures
    ∙ ap₂ (λ (a b : Option (List ℕ)). option_or a b) (sym (at_drop_all (λ l. last_location on l c.loop-stop.last_open) stops i over) ∙ last)
    (sym (at_drop_all (λ l. last_location any l c.loop-stop.last) stops i over) ∙ all))
