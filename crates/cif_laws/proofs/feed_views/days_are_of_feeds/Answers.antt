-- What is prepared says on each date what the feed says (`day-of-feed`).
use Rattle.cif_laws.proofs.FeedViews.{day-of-feed}
use Rattle.cif_laws.proofs.feed_views.days_are_of_feeds.Goals as goal

pub returns : goal.returns
returns c = λ h drops limit max bytes text shown dropped listed x d a spelled view. day-of-feed a max x spelled listed d shown view
