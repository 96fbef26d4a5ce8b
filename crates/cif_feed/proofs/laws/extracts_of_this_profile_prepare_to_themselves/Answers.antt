-- Each line spells its record in a published extract too, and each record is its own part.
use Rattle.cif_feed.proofs.{OwnParts.only_itself, PublishedLines.own_published}
use Rattle.cif_feed.proofs.laws.extracts_of_this_profile_prepare_to_themselves.Goals as goal

pub returns-clause-published : goal.returns-clause-published
returns-clause-published c = own_published

pub returns-clause-prepared : goal.returns-clause-prepared
returns-clause-prepared c = only_itself
