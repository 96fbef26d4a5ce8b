-- The names, and then one row more (`one-added`), until no run is left (`all-added`).
use Rattle.cif_feed.proofs.Names.{List, Option, PublishedSchedule, [], Some, ap, append-nil, arith, length, slice_get, subst, sym, ℕ, ◌<◌, ◌∙◌, ◌≡◌}
use Rattle.cif_weeks.specs.Permanent.{Permanent}
use Rattle.std.proofs.lemmas.List.Folds.{flat_map-map}
use Rattle.cif_calendar.proofs.Names.{slice_get-get_or}
use Rattle.cif_rows.proofs.AddedTexts.{added-both, added-is, added-waits, all-added, all-written, names-added, one-added}
use Rattle.cif_rows.specs.{Adds.Adds, Row.heading_text, Row.row_text}
use Rattle.cif_weeks.specs.declared.form.Run.{Run}
use Rattle.cif_feed.specs.{Steps.Deciding.as_record, Steps.Deciding.row_of, Winners.winner_names, Winners.winner_row, Winners.winner_row_of}
use Rattle.cif_feed.proofs.winners.write_rows.Goals as goal

pub loop-run-init : goal.loop-run-init
loop-run-init g c = added-waits _ _ [] _ _ _ (sym (append-nil _))

pub loop-run-preserved : goal.loop-run-preserved
loop-run-preserved g c =
    let f = g.F.RowFormat.FORMAT in
    let schedules = c.args.schedules.now in
    let run = c.run-item.result in
    let s = c.index-schedules-run.result in
    let below : run.source < length schedules =
    subst (λ (r : Run). r.source < length schedules) (sym c.run-item.is) (c.requires c.loop-run.run-index run c.loop-run-test.true) in
    let at : Some s ≡ slice_get schedules run.source =
    ap Some c.index-schedules-run.is ∙ sym (slice_get-get_or schedules run.source s below) in
    one-added _ _ (λ (r : Run). row_text f (winner_row schedules (row_of schedules r))) c.args.runs.now c.loop-run.run-index _ _ _ _
    c.loop-run.invariant run _ _ c.loop-run-test.true
    (added-is _ _ _ _ _ _ _ _ (ap (λ (o : Option PublishedSchedule). row_text f (winner_row_of o (as_record run))) at
    ∙ ap (λ (r : Run). row_text f (winner_row schedules (row_of schedules r))) c.run-item.is) c.push_winner.ensures)

pub returns : goal.returns
unfolding Rattle.cif_feed.specs.Winners.winners_table
returns g c =
    let f = g.F.RowFormat.FORMAT in
    let schedules = c.args.schedules.now in
    let named = names-added _ _ f winner_names _ _ _ _ (omega arith) c.push_names.ensures in
    rw (flat_map-map (λ (row : List ℕ × Permanent ℕ). row_text f (winner_row schedules row)) (row_of schedules) c.args.runs.now)
    (all-written _ _ _ _ _ _ _ _ c.new-rows.ensures
    (added-both _ _ _ _ _ _ _ _ _ _ (subst (Adds _ _ (heading_text f winner_names) _ _ _) (sym c.end_names.ensures) named)
    (all-added _ _ (λ (run : Run). row_text f (winner_row schedules (row_of schedules run))) c.args.runs.now c.loop-run.run-index _ _ _ _
    c.loop-run.invariant c.loop-run-test.false)) c.finish.ensures)
