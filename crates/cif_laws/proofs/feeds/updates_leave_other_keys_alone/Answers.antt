-- The records of a key that no change is of are the same (`key-alone`).
use Rattle.cif_feed.specs.{PublishedParts.published_association_terms, PublishedParts.published_schedule_terms}
use Rattle.cif_feed.specs.{Updated.published_association_key, Updated.published_schedule_key}
use Rattle.cif_laws.proofs.OtherKeys.{key-alone}
use Rattle.cif_laws.proofs.feeds.updates_leave_other_keys_alone.Goals as goal

pub returns-clause-associations : goal.returns-clause-associations
returns-clause-associations c = λ u old new h drops k d o is none.
    key-alone published_association_key (λ v. v.0) published_association_terms old.associations u.associations new.associations
    is.associations k none h drops d o

pub returns-clause-trains : goal.returns-clause-trains
returns-clause-trains c = λ u old new h drops uid d o is none.
    key-alone published_schedule_key (λ v. v.0) published_schedule_terms old.schedules u.schedules new.schedules is.schedules uid none h
    drops d o
