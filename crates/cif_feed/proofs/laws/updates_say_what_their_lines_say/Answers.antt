-- Each line has its record and its mark, of which its change is made.
use Rattle.cif_feed.proofs.{Names.contents_of, SameDeletions.one_association_deletion, SameDeletions.one_schedule_deletion}
use Rattle.cif_feed.proofs.SaidLines.{associations_said, schedules_said, tiplocs_said}
use Rattle.cif_feed.proofs.laws.updates_say_what_their_lines_say.Goals as goal

pub returns-clause-locations : goal.returns-clause-locations
returns-clause-locations c = λ max bytes u s. tiplocs_said (contents_of bytes) u s.spell

pub returns-clause-associations : goal.returns-clause-associations
returns-clause-associations c = λ max bytes u s. associations_said (contents_of bytes) u s.spell

pub returns-clause-schedules : goal.returns-clause-schedules
returns-clause-schedules c = λ max bytes u s. schedules_said (contents_of bytes) u s.spell

pub returns-clause-same_association : goal.returns-clause-same_association
returns-clause-same_association c one other x y s t deletes front middle back =
    one_association_deletion one.1 other.1 front middle back x.action y.action s.stands t.stands deletes

pub returns-clause-same_schedule : goal.returns-clause-same_schedule
returns-clause-same_schedule c one other x y s t deletes front back =
    one_schedule_deletion one.1 other.1 front back x.action y.action s.stands t.stands deletes
