-- The part has the run's days of the weekdays before `weekday`.
use Rattle.cif_weeks.proofs.Parts.{IsPartBefore}
use Rattle.cif_weeks.proofs.fewest.part.Given as goal

abbrev pub invariant-loop-weekday : goal.invariant-loop-weekday
invariant-loop-weekday l = IsPartBefore l.run l.first l.last l.weekday l.days l.start l.end
