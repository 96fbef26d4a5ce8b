-- What is written is the text of the runs so far, and the writer has the body of the schedule at `source`.
use Rattle.cif_canon.proofs.Names.{IsAppended, Some, flat_map, schedule_entries, schedule_run_text, take, ◌≡◌}
use Rattle.cif_canon.specs.Steps.Texts.{body_at}
use Rattle.cif_canon.proofs.canonical_form.write_schedules.Given as goal

abbrev pub invariant-loop-at : goal.invariant-loop-at
invariant-loop-at g l =
    IsAppended g.W.Write.contents g.W.WriteDevice.write_errors
    (flat_map (schedule_run_text (schedule_entries l.schedules)) (take l.at l.runs)) l.initial.sink l.sink
    × (body_at l.schedules l.source ≡ Some l.writer)
