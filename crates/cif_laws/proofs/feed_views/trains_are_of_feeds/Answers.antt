-- What is prepared says on each date what the feed says (`train-of-feed`).
use Rattle.cif_laws.proofs.FeedViews.{train-of-feed}
use Rattle.cif_laws.proofs.feed_views.trains_are_of_feeds.Goals as goal

pub returns : goal.returns
returns c = λ h drops limit max bytes text shown uid dropped listed form asked x a spelled view.
    train-of-feed a max asked x spelled listed form uid shown view
