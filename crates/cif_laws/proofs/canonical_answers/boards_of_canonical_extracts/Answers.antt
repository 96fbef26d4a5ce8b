-- The two say the same.
use Rattle.cif_laws.proofs.CanonicalAnswers.{board-alike}
use Rattle.cif_laws.proofs.canonical_answers.boards_of_canonical_extracts.Goals as goal

pub returns : goal.returns
returns c = λ form input canonical text job status is. board-alike form input canonical text job status is
