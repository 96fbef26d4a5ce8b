-- The calls so far and those of the rest are all.
use Rattle.cif_views.proofs.Names.{count_of_calls, length, ◌+◌, ◌≡◌, ◌≤◌}
use Rattle.cif_views.proofs.difference_table.count_of_calls.Given as goal

abbrev pub invariant-loop-rest : goal.invariant-loop-rest
invariant-loop-rest l = record {
  total : count_of_calls l.lines ≡ l.count + count_of_calls l.rest;
  few : l.count + length l.rest ≤ length l.lines;
}

abbrev pub decreases-loop-rest : goal.decreases-loop-rest
decreases-loop-rest l = length l.rest
