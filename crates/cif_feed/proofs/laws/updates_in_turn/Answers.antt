-- What the first run writes is read as what it came to.
use Rattle.cif_feed.proofs.UpdatesInTurn.{in_turn, not_refused, one_written, refused_in_turn}
use Rattle.cif_feed.proofs.laws.updates_in_turn.Goals as goal

pub returns-clause-written : goal.returns-clause-written
returns-clause-written c = λ how max full first second between waived written within.
    in_turn how max full first between waived written within second

pub returns-clause-refused : goal.returns-clause-refused
returns-clause-refused c = λ how max full first second between waived written within.
    refused_in_turn how max full first between waived written within second

pub returns-clause-one : goal.returns-clause-one
returns-clause-one c = one_written

pub returns-clause-either : goal.returns-clause-either
returns-clause-either c = not_refused
