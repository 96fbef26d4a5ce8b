-- Of both inputs what is narrowed says what the feed says, in one window.
use Rattle.cif_laws.proofs.PairsOfFeeds.{compared-pair, different-pair}
use Rattle.cif_laws.proofs.feeds.comparisons_are_of_feeds.Goals as goal

pub returns-clause-compared : goal.returns-clause-compared
returns-clause-compared c = λ h i drops other_drops limit other_limit bytes text other_bytes other_text dropped other_dropped asked common
    x y comparison a b pair are. compared-pair a b asked common x y pair comparison are

pub returns-clause-differences : goal.returns-clause-differences
returns-clause-differences c = λ h i drops other_drops limit other_limit bytes text other_bytes other_text dropped other_dropped asked
    common x y d a b pair are. different-pair a b asked common x y pair d are
