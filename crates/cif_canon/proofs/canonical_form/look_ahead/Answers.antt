-- Each run has a record, and so the schedule at its source has a body (`has-body`).
use Rattle.cif_canon.proofs.Names.{HasRecord, Schedule, ap, false≢true, schedule_entries, schedule_entry, subst, sym, ◌∙◌}
use Rattle.cif_canon.proofs.{RunTexts.has-body, RunTexts.record-within, canonical_form.look_ahead.Goals.in_default-via-in_default}
use Rattle.cif_canon.proofs.{canonical_form.look_ahead.Goals.in_default-via-in-Some+else-prefetch}
use Rattle.cif_canon.proofs.canonical_form.look_ahead.Goals as goal

pub body_of-requires : goal.body_of-requires
body_of-requires c =
    subst (HasRecord (schedule_entries c.args.schedules.now)) (sym c.run-item.is)
    (c.requires c.loop-run.run-index c.run-item.result c.loop-run-test.true)

pub bounds-schedules-run : goal.bounds-schedules-run
bounds-schedules-run c =
    record-within schedule_entry c.args.schedules.now c.run-item-in-loop-run-2.result
    (subst (HasRecord (schedule_entries c.args.schedules.now)) (sym c.run-item-in-loop-run-2.is)
    (c.requires c.loop-run-2.run-index c.run-item-in-loop-run-2.result c.loop-run-2-test.true))

pub unreachable-requires : goal.unreachable-requires
unreachable-requires c =
    let run = c.run-item-in-loop-run-2.result in
    let here = subst (HasRecord (schedule_entries c.args.schedules.now)) (sym c.run-item-in-loop-run-2.is)
    (c.requires c.loop-run-2.run-index run c.loop-run-2-test.true) in
    elim c.in_default.branch [
      | in_default-via-in-Some+else-prefetch w ↦ false≢true (sym w.if-prefetch.false ∙ w.prefetch.ensures)
      | in_default-via-in_default w ↦ has-body schedule_entry c.args.schedules.now run c.index-schedules-run.result here
          c.index-schedules-run.is (ap (λ (s : Schedule). s.body) c.index-schedules-run.is ∙ w.in_default.is)
    ]
