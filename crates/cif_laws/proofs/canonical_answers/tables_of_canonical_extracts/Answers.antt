-- The two have one canonical form.
use Rattle.cif_laws.proofs.CanonicalAnswers.{table-alike}
use Rattle.cif_laws.proofs.canonical_answers.tables_of_canonical_extracts.Goals as goal

pub returns : goal.returns
returns c = λ form input canonical text output job status is. table-alike form input canonical text output job status is
