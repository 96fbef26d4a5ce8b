-- What is prepared is clear where the feed is (`accepted-feed`), and there is a header with each window in its own (`feed-accepted`).
use Rattle.cif_laws.proofs.PreparedInputs.{accepted-feed, feed-accepted}
use Rattle.cif_laws.proofs.feeds.prepared_feeds_are_accepted.Goals as goal

pub returns : goal.returns
returns c = λ h drops max limit bytes text dropped asked a. (
  λ accepted. accepted-feed a asked max accepted.0 accepted.1,
  λ feed. feed-accepted a asked max feed,
)
