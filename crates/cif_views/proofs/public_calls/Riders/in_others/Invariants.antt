-- What was said so far, and what the activities in `rest` say, is what those in all columns say.
use Rattle.cif_views.{proofs.Names.codes_in, proofs.Names.length, proofs.Names.said_by, proofs.Names.◌≡◌, specs.Steps.PublicRows.joined}
use Rattle.cif_views.proofs.public_calls.Riders.in_others.Given as goal

abbrev pub invariant-loop-rest : goal.invariant-loop-rest
invariant-loop-rest l = joined l.riders (said_by (codes_in l.rest)) ≡ said_by (codes_in l.fn.columns)

abbrev pub decreases-loop-rest : goal.decreases-loop-rest
decreases-loop-rest l = length l.rest
