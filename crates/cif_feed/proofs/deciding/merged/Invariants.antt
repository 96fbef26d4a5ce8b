-- The dates of the runs so far, of the one list and then of the other.
use Rattle.cif_feed.proofs.Names.{false, map, take, true, ◌++◌, ◌≡◌}
use Rattle.cif_feed.specs.Steps.Deciding.{dates_with}
use Rattle.cif_feed.proofs.deciding.merged.Given as goal

abbrev pub invariant-loop-run : goal.invariant-loop-run
invariant-loop-run l = l.entries.items ≡ map (dates_with true) (take l.run-index l.before)

abbrev pub invariant-loop-run-2 : goal.invariant-loop-run-2
invariant-loop-run-2 l = l.entries.items ≡ map (dates_with true) l.before ++ map (dates_with false) (take l.run-index l.after)
