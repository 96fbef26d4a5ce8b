-- By the kind of the line.
use Rattle.cif_views.proofs.tables.push_journey.Goals as goal

pub returns-in-true-Origin : goal.returns-in-true-Origin
returns-in-true-Origin g c = rw (c.in-true-Origin.is-0, c.in-true-Origin.is-1) c.push_call.ensures

pub returns-in-true-Stop : goal.returns-in-true-Stop
returns-in-true-Stop g c = rw (c.in-true-Stop.is-0, c.in-true-Stop.is-1) c.push_call-in-true-Stop.ensures

pub returns-in-true-Terminus : goal.returns-in-true-Terminus
returns-in-true-Terminus g c = rw (c.in-true-Terminus.is-0, c.in-true-Terminus.is-1) c.push_call-in-true-Terminus.ensures

pub returns-in-true-default : goal.returns-in-true-default
returns-in-true-default g c = rw (c.in-true-default.is-0) c.push_each.ensures

pub returns-in-false-default : goal.returns-in-false-default
returns-in-false-default g c = rw (c.in-false-default.is-0) c.push_each-in-false-default.ensures
