-- It is the one that was made.
use Rattle.cif_feed.proofs.{Names.refl, PartLists.pushed-is}
use Rattle.cif_feed.proofs.prepared_record.push.Goals as goal

pub returns : goal.returns
returns g c = pushed-is _ _ _ _ _ _ c.in_ok-push.ensures.items refl refl refl
