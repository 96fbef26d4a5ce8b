-- The text has to be named: heading, associations, trains; `day-listed` says it is the listing.
use Rattle.cif_canon.proofs.Names.{DayTexts, Two, association_entry, extract_parts, header_window, key_cmp, listed_on, nat_cmp, refl}
use Rattle.cif_canon.proofs.Names.{schedule_entry, slice_cmp, ◌++◌}
use Rattle.cif_canon.proofs.AppendedTexts.{both, fault-answered, text-is}
use Rattle.cif_canon.proofs.ViewTexts.{associations-text, day-listed, have-lines, sliced, trains-text, written-so}
use Rattle.cif_canon.proofs.views.write_day.Goals as goal

pub write_runs-requires : goal.write_runs-requires
write_runs-requires g c κs = (
  (refl, tt),
  have-lines key_cmp Two (header_window c.args.extract.now.header) association_entry c.as_slice.result.now _
      c.as_slice-2.result.now _ c.as_slice.ensures.value c.as_slice-2.ensures.value c.in_ok-runs.ensures.associations,
)

pub write_runs-requires-2 : goal.write_runs-requires-2
write_runs-requires-2 g c κs = (
  (refl, tt),
  have-lines (slice_cmp nat_cmp) Two (header_window c.args.extract.now.header) schedule_entry c.as_slice-3.result.now _
      c.as_slice-4.result.now _ c.as_slice-3.ensures.value c.as_slice-4.ensures.value c.in_ok-runs.ensures.schedules,
)

pub returns-clause-view : goal.returns-clause-view
returns-clause-view g c =
    let x = extract_parts c.args.extract.now in
    let runs = c.in_ok-runs.runs in
    let listed : DayTexts = record {
      heading = g.L.DayLines.heading c.args.lines.now;
      association = g.L.DayLines.association c.args.lines.now;
      train = g.L.DayLines.train c.args.lines.now;
    } in
    let one = associations-text listed.association x c.args.day runs.associations.items in
    let other = trains-text listed.train x c.args.day runs.schedules.items in (
      listed.heading ++ (one ++ other),
      fault-answered _ _ _ _ _ c.answer.result c.answer.ensures.ok c.answer.ensures.failed c.answer.ensures.fault
          (both _ _ listed.heading (one ++ other) _ _ _ c.write_heading.ensures
          (both _ _ one other _ _ _
          (text-is _ _ _ _ _ _ (sliced (listed_on listed.association c.args.day) association_entry c.as_slice.result.now _
          c.as_slice-2.result.now _ c.as_slice.ensures.value c.as_slice-2.ensures.value) c.write_runs.ensures)
          (text-is _ _ _ _ _ _ (sliced (listed_on listed.train c.args.day) schedule_entry c.as_slice-3.result.now _
          c.as_slice-4.result.now _ c.as_slice-3.ensures.value c.as_slice-4.ensures.value) c.write_runs-2.ensures))),
      written-so c.answer.result _ (day-listed listed x c.args.day c.in_ok-check_within.ensures.ok Two runs.associations.items
          runs.schedules.items c.in_ok-runs.ensures.associations c.in_ok-runs.ensures.schedules),
    )
