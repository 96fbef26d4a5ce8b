-- The two of each side say the same.
use Rattle.cif_laws.proofs.CanonicalAnswers.{compared-alike, listed-alike}
use Rattle.cif_laws.proofs.canonical_answers.comparisons_of_canonical_extracts.Goals as goal

pub returns-clause-compared : goal.returns-clause-compared
returns-clause-compared c = λ form other_form left right left_canonical right_canonical text job status no c d.
    compared-alike form other_form left right left_canonical right_canonical job no c d text status

pub returns-clause-listed : goal.returns-clause-listed
returns-clause-listed c = λ form other_form left right left_canonical right_canonical text format job status no c d.
    listed-alike form other_form left right left_canonical right_canonical job no c d format text status
