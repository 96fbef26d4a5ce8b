-- There is a time if the train has to call somewhere.
use Rattle.cif_views.proofs.Names.{[], append-nil, sym}
use Rattle.cif_views.proofs.RowNames.{added-waits}
use Rattle.cif_views.proofs.board_text.push_calling_time.Goals as goal

pub returns-in-Some : goal.returns-in-Some
returns-in-Some g c = rw c.in-Some.is c.push_minute.ensures

pub returns-in-None : goal.returns-in-None
returns-in-None g c = rw c.in-None.is (added-waits _ _ [] _ _ _ (sym (append-nil _)))
