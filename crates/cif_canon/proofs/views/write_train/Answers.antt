-- The text has to be named: heading and one train's records; `train-listed` says it is the listing.
use Rattle.cif_canon.proofs.Names.{List, TrainTexts, extract_parts, flat_map, header_window, listed_of, nat_cmp, refl, run_text}
use Rattle.cif_canon.proofs.Names.{schedule_entries, schedule_entry, slice_cmp, ℕ, ◌++◌}
use Rattle.cif_canon.proofs.AppendedTexts.{both, fault-answered, text-is}
use Rattle.cif_canon.proofs.ViewTexts.{have-lines, sliced, train-listed, written-so}
use Rattle.cif_canon.proofs.views.write_train.Goals as goal

pub write_runs-requires : goal.write_runs-requires
write_runs-requires g c κs = (
  (refl, tt),
  have-lines (slice_cmp nat_cmp) c.args.form (header_window c.args.extract.now.header) schedule_entry
      c.as_slice.result.now _ c.as_slice-2.result.now _ c.as_slice.ensures.value c.as_slice-2.ensures.value
      c.in_ok-runs.ensures.schedules,
)

pub returns-clause-view : goal.returns-clause-view
returns-clause-view g c =
    let x = extract_parts c.args.extract.now in
    let uid = c.args.uid.now in
    let runs = c.in_ok-runs.runs in
    let listed : TrainTexts =
    record { heading = g.L.TrainLines.heading c.args.lines.now; schedule = g.L.TrainLines.schedule c.args.lines.now } in
    let text : List ℕ = flat_map (run_text (listed_of listed.schedule uid) (schedule_entries x.schedules)) runs.schedules.items in (
      listed.heading ++ text,
      fault-answered _ _ _ _ _ c.answer.result c.answer.ensures.ok c.answer.ensures.failed c.answer.ensures.fault
          (both _ _ listed.heading text _ _ _ c.write_heading.ensures
          (text-is _ _ _ _ _ _ (sliced (listed_of listed.schedule uid) schedule_entry c.as_slice.result.now x.schedules
          c.as_slice-2.result.now runs.schedules.items c.as_slice.ensures.value c.as_slice-2.ensures.value) c.write_runs.ensures)),
      written-so c.answer.result _ (train-listed listed x uid c.args.form runs.associations.items runs.schedules.items
          c.in_ok-runs.ensures.associations c.in_ok-runs.ensures.schedules),
    )
