-- The runs so far have the positions of schedules.
use Rattle.cif_feed.proofs.Names.{drop, map, take, ◌++◌, ◌≡◌}
use Rattle.cif_feed.specs.Steps.Deciding.{sourced}
use Rattle.cif_feed.proofs.deciding.name_sources.Given as goal

abbrev pub invariant-loop-place : goal.invariant-loop-place
invariant-loop-place l = l.runs ≡ map (sourced l.entries) (take l.place l.fn.runs) ++ drop l.place l.fn.runs
