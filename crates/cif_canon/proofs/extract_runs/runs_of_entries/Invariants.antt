-- The runs are those of all keys but the ones with entries at `rest`, and these are greater.
use Rattle.cif_canon.proofs.Names.{All, keyed, length, window_days, ◌<◌}
use Rattle.cif_canon.proofs.MadeRecords.{IsMade}
use Rattle.cif_canon.proofs.extract_runs.runs_of_entries.Given as goal

abbrev pub invariant-loop-rest : goal.invariant-loop-rest
invariant-loop-rest g l = record {
  within : All (λ i. i < length l.entries) l.rest;
  made : IsMade g.E.Key.Ord.cmp l.form (window_days l.window) (keyed g.E.Entry.key g.E.Entry.terms l.entries) l.all.items l.rest;
}

abbrev pub decreases-loop-rest : goal.decreases-loop-rest
decreases-loop-rest g l = length l.rest
