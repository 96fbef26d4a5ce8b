-- One date more goes after the others (`range-push`), and the next day is the next date's (`next-day`).
use Rattle.cif_views.proofs.Names.{List, [], ap, append-nil, arith, flat_map, flat_map-append, range_with_len, refl, state_in}
use Rattle.cif_views.proofs.Names.{subst, sym, ℕ, ◌+◌, ◌-◌, ◌<◌, ◌∙◌, ◌∷◌, ◌≡◌}
use Rattle.std.specs.Prelude.{slice_index_or}
use Rattle.cif_calendar.proofs.LaidPieces.{next-day}
use Rattle.cif_calendar.specs.declared.day_state.DayState.TheVariants as state
use Rattle.cif_views.proofs.RowNames.{Adds, added-both, added-is, added-waits, all-written, heading_text, names-added, row_text}
use Rattle.cif_views.proofs.WeekLines.{range-push}
use Rattle.cif_views.specs.DateCalendar.{date_names, date_row, dates_between}
use Rattle.cif_views.proofs.calendar_dates.write_dates.Goals as goal

pub loop-state-init : goal.loop-state-init
loop-state-init g c = (added-waits _ _ [] _ _ _ (sym (append-nil _)), λ some. omega arith)

pub loop-state-preserved : goal.loop-state-preserved
loop-state-preserved g c =
    let (added, here) = c.loop-state.invariant in
    let f = g.F.RowFormat.FORMAT in
    let uid = c.args.uid.now in
    let first = c.args.window.now.first in
    let last = c.args.window.now.last in
    let states = c.args.states.now in
    let i = c.loop-state.state-index in
    let day = c.loop-state.day in
    let many = c.requires in
    let row : ℕ → List ℕ = λ d. row_text f (date_row uid d (state_in first states d)) in
    let is : day ≡ first + i = here c.loop-state-test.true in
    let number : first + i - first ≡ i = omega arith in
    let own = added-is _ _ _ (flat_map row ((first + i) ∷ [])) _ _ _ _
    (ap (λ n. row_text f (date_row uid n (slice_index_or states i state.NoneApplies))) is
    ∙ ap (λ n. row_text f (date_row uid (first + i) (slice_index_or states n state.NoneApplies))) (sym number)
    ∙ sym (append-nil (row (first + i)))) c.push_date.ensures in (
      added-is _ _ _ _ _ _ _ _
          (sym (flat_map-append row (range_with_len first i) ((first + i) ∷ []))
          ∙ ap (flat_map row) (sym (range-push first i (first + i) refl)))
          (added-both _ _ _ _ _ _ _ _ _ _ added own),
      λ more.
          let before : day < last = omega (arith, is, many, more) in
          let next = next-day c.next_up_to.result _ (day + 1) day c.next_up_to.ensures before in
          let after = c.unwrap_or-day.ensures ∙ next in
          omega (arith, is, after),
    )

pub returns : goal.returns
returns g c =
    let (added, _) = c.loop-state.invariant in
    let f = g.F.RowFormat.FORMAT in
    let uid = c.args.uid.now in
    let first = c.args.window.now.first in
    let last = c.args.window.now.last in
    let states = c.args.states.now in
    let row : ℕ → List ℕ = λ d. row_text f (date_row uid d (state_in first states d)) in
    let over = c.loop-state-test.false in
    let upto = c.loop-state.auto.state-index-end in
    let many = c.requires in
    let all : c.loop-state.state-index ≡ last + 1 - first = omega (arith, over, upto, many) in
    let named = names-added _ _ f date_names _ _ _ _ (omega arith) c.push_names.ensures in
    all-written _ _ _ _ _ _ _ _ c.new-rows.ensures
    (added-both _ _ _ _ _ _ _ _ _ _ (subst (Adds _ _ (heading_text f date_names) _ _ _) (sym c.end_names.ensures) named)
    (added-is _ _ _ (flat_map row (dates_between first last)) _ _ _ _ (ap (λ n. flat_map row (range_with_len first n)) all) added))
    c.finish.ensures
