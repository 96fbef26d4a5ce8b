-- The text is a fold over runs: one more goes behind it (`one-more`). Each run has a record, and its text is that of the writer's body
-- (`schedule-text`).
use Rattle.cif_canon.proofs.Names.{HasRecord, Schedule, Some, ap, arith, length, record_of, schedule_entries, schedule_entry}
use Rattle.cif_canon.proofs.Names.{schedule_run_text, schedule_text, subst, sym, ◌<◌, ◌∙◌, ◌≡◌}
use Rattle.cif_canon.proofs.AppendedTexts.{all-items, appended, nothing, one-more, text-is}
use Rattle.cif_canon.proofs.{RunTexts.record-within, RunTexts.schedule-text, canonical_form.write_schedules.Given.Over}
use Rattle.cif_canon.{proofs.canonical_form.write_schedules.Goals.After-index-runs-at, specs.Steps.Texts.body_at}
use Rattle.cif_canon.proofs.canonical_form.write_schedules.Goals as goal

has : (g : Over) (c : After-index-runs-at g) → HasRecord (schedule_entries c.args.schedules.now) c.index-runs-at.result
has g c =
    subst (HasRecord (schedule_entries c.args.schedules.now)) (sym c.index-runs-at.is)
    (c.requires c.loop-at.at c.index-runs-at.result c.loop-at-test.true)

within : (g : Over) (c : After-index-runs-at g) → c.index-runs-at.result.source < length c.args.schedules.now
within g c = record-within schedule_entry c.args.schedules.now c.index-runs-at.result (has g c)

pub loop-at-preserved : goal.loop-at-preserved
loop-at-preserved g c =
    let schedules = c.args.schedules.now in
    let run = c.index-runs-at.result in
    let body = c.set_body.ensures.body in
    let here = subst (λ n. body_at schedules n ≡ Some c.set_body.new.writer) c.set_body.ensures.source body in
    let uid = ap (λ (s : Schedule). schedule_text (s.uid, record_of run c.set_body.new.writer)) (sym c.index-schedules-run.is) in
    let text = schedule-text schedule_text schedules run c.index-schedules-run.result c.set_body.new.writer
    (has g (goal.at.loop-at-preserved g c).After-index-runs-at) c.index-schedules-run.is here in (
      one-more _ _ (schedule_run_text (schedule_entries schedules)) c.args.runs.now c.loop-at.at _ _ c.loop-at.invariant.0 run _
          c.loop-at-test.true c.index-runs-at.is (text-is _ _ _ _ _ _ (uid ∙ sym text)
          (appended _ _ _ _ _ c.write.result c.write.ensures.writes)),
      body ∙ ap Some (sym c.write.ensures.body),
    )

pub returns : goal.returns
returns g c =
    all-items _ _ (schedule_run_text (schedule_entries c.args.schedules.now)) c.args.runs.now c.loop-at.at _ _ c.loop-at.invariant.0
    c.loop-at-test.false

pub set_body-requires-clause-record : goal.set_body-requires-clause-record
set_body-requires-clause-record g c = has g (goal.at.set_body-requires-clause-record g c).After-index-runs-at

pub bounds-schedules-run : goal.bounds-schedules-run
bounds-schedules-run g c = within g (goal.at.bounds-schedules-run g c).After-index-runs-at

pub offset_bounds-schedules-run : goal.offset_bounds-schedules-run
offset_bounds-schedules-run g c =
    let below = within g (goal.at.offset_bounds-schedules-run g c).After-index-runs-at in omega (arith, below)

pub loop-at-init : goal.loop-at-init
loop-at-init g c = (nothing _ _ _, c.body_of.ensures ∙ ap Some (sym c.of-writer.ensures))
