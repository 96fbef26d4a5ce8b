-- What is prepared says on each date what the feed says (`state-of-feed`).
use Rattle.cif_laws.proofs.FeedViews.{state-of-feed}
use Rattle.cif_laws.proofs.feed_views.calendars_are_of_feeds.Goals as goal

pub returns : goal.returns
returns c = λ h drops limit max bytes text uid dropped asked x d state a spelled from upto is.
    state-of-feed a max asked x spelled uid d state from upto is
