-- Row by row.
use Rattle.cif_rows.proofs.ToldRows.{cells-told, same-texts}
use Rattle.cif_rows.proofs.laws.texts_tell_their_rows.Goals as goal

pub returns-clause-cells : goal.returns-clause-cells
returns-clause-cells c = λ format not names some one other. cells-told format not names some one other

pub returns-clause-texts : goal.returns-clause-texts
returns-clause-texts c = λ format not names one other. same-texts format not names one other
