-- The two say the same.
use Rattle.cif_laws.proofs.CanonicalAnswers.{day-alike, outside-alike}
use Rattle.cif_laws.proofs.canonical_answers.days_of_canonical_extracts.Goals as goal

pub returns-clause-answered : goal.returns-clause-answered
returns-clause-answered c = λ form input canonical text job status is. day-alike form input canonical text job status is

pub returns-clause-refused : goal.returns-clause-refused
returns-clause-refused c = λ form input canonical d is. outside-alike form input canonical d is
