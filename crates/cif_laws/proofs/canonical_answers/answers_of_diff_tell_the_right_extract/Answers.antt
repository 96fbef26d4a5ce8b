-- The text is that of marked lines, and the differences turn the left extract into the right one (`right-told`).
use Rattle.cif_laws.proofs.TurnedAlike.{right-told}
use Rattle.cif_laws.proofs.canonical_answers.answers_of_diff_tell_the_right_extract.Goals as goal

pub returns : goal.returns
returns c = λ left right other text job status other_status no a b columns.
    right-told job no left right other text status other_status a b columns
