-- Each kind of records is changed by itself.
use Rattle.cif_feed.proofs.ChangeLaws.{have_last_word}
use Rattle.cif_feed.proofs.laws.updates_leave_the_last_word.Goals as goal

pub returns-clause-locations : goal.returns-clause-locations
returns-clause-locations c = λ max bytes u old new key s is. have_last_word _ old.tiplocs u.tiplocs new.tiplocs is.tiplocs key

pub returns-clause-associations : goal.returns-clause-associations
returns-clause-associations c = λ max bytes u old new key s is.
    have_last_word _ old.associations u.associations new.associations is.associations key

pub returns-clause-schedules : goal.returns-clause-schedules
returns-clause-schedules c = λ max bytes u old new key s is. have_last_word _ old.schedules u.schedules new.schedules is.schedules key
