-- What is meant says what the feed says, and what is made of it says the same.
use Rattle.cif_laws.proofs.CanonicalFeeds.{made-columns, made-says}
use Rattle.cif_laws.proofs.feeds.canonical_extracts_say_what_feeds_say.Goals as goal

pub returns-clause-header : goal.returns-clause-header
returns-clause-header c = λ h drops limit bytes text canonical dropped form asked a n. made-columns a form asked canonical n

pub returns-clause-says : goal.returns-clause-says
returns-clause-says c = λ h drops limit bytes text canonical dropped form asked a n. made-says a form asked canonical n
