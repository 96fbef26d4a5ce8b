-- The lines of a feed say one extract, and leave out what they leave out.
use Rattle.cif_feed.proofs.SpelledFeeds.{one_published, one_update}
use Rattle.cif_feed.proofs.laws.contents_spell_one_feed.Goals as goal

pub returns-clause-published : goal.returns-clause-published
returns-clause-published c = one_published

pub returns-clause-update : goal.returns-clause-update
returns-clause-update c = one_update
