-- On the weekdays before `weekday` the run can go on up to `reach`.
use Rattle.cif_weeks.proofs.Reach.{IsReachBefore}
use Rattle.cif_weeks.proofs.fewest.reach.Given as goal

abbrev pub invariant-loop-weekday : goal.invariant-loop-weekday
invariant-loop-weekday l = IsReachBefore l.run l.next l.weekday l.reach
