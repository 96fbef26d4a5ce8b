-- What is prepared says on each date what the feed says (`whole-of-feed`).
use Rattle.cif_laws.proofs.FeedViews.{row-of-feed, whole-of-feed}
use Rattle.cif_laws.proofs.feed_views.boards_are_of_feeds.Goals as goal

pub returns-clause-shown : goal.returns-clause-shown
returns-clause-shown c = λ h drops limit max bytes text shown dropped format board x row a spelled view has.
    row-of-feed a max x spelled board row ((view.are_rows.are row).0 has)

pub returns-clause-runs : goal.returns-clause-runs
returns-clause-runs c = λ h drops limit max bytes text dropped x a spelled. whole-of-feed a max x spelled
