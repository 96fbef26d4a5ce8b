-- The runs so far have their names.
use Rattle.cif_weeks.proofs.Names.{drop, map, named, take, ◌++◌, ◌≡◌}
use Rattle.cif_weeks.proofs.calendar_runs.name_sources.Given as goal

abbrev pub invariant-loop-place : goal.invariant-loop-place
invariant-loop-place l = l.runs ≡ map (named l.calendar) (take l.place l.fn.runs) ++ drop l.place l.fn.runs
