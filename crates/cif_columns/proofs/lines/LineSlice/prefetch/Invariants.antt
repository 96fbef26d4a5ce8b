-- No byte so far is as great as 128.
use Rattle.cif_columns.proofs.Names.{length, ◌-◌, ◌<◌}
use Rattle.cif_columns.proofs.lines.LineSlice.prefetch.Given as goal

abbrev pub invariant-loop-at : goal.invariant-loop-at
invariant-loop-at l = l.bits < 128

abbrev pub decreases-loop-at : goal.decreases-loop-at
decreases-loop-at l = length l.self-inside.kept.now - l.at
