-- What is written is the text of the schedules so far, with their numbers.
use Rattle.cif_canon.proofs.Names.{IsAppended, enumerate_from, flat_map, numbered_text, schedule_entries, take}
use Rattle.cif_canon.proofs.canon_lines.list_runs.Given as goal

abbrev pub invariant-loop-at : goal.invariant-loop-at
invariant-loop-at g l =
    IsAppended g.W.Write.contents g.W.WriteDevice.write_errors
    (flat_map (numbered_text (g.L.CanonListing.schedule_text l.listing) (schedule_entries l.schedules))
    (take l.at (enumerate_from 1 l.runs)))
    l.initial.sink l.sink
