-- The two say the same.
use Rattle.cif_laws.proofs.CanonicalAnswers.{both-accepted, train-alike}
use Rattle.cif_laws.proofs.canonical_answers.trains_of_canonical_extracts.Goals as goal

pub returns-clause-answered : goal.returns-clause-answered
returns-clause-answered c = λ form input canonical text job status is. train-alike form input canonical text job status is

pub returns-clause-accepted : goal.returns-clause-accepted
returns-clause-accepted c = λ form asked input canonical is. both-accepted form input canonical asked is
