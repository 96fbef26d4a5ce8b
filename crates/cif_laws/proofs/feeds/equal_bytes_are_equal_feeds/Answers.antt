-- Canonical bytes are unique (`normal-unique` of cif_canon), and what they are made of says what the feeds say.
use Rattle.cif_laws.proofs.CanonicalFeeds.{feeds-after_header, feeds-unique}
use Rattle.cif_laws.proofs.feeds.equal_bytes_are_equal_feeds.Goals as goal

pub returns-clause-whole : goal.returns-clause-whole
returns-clause-whole c = λ h i drops other_drops limit other_limit bytes text canonical other_bytes other_text other dropped other_dropped
    form asked other_asked a b n m. feeds-unique a b form asked other_asked canonical other n m

pub returns-clause-after_header : goal.returns-clause-after_header
returns-clause-after_header c = λ h i drops other_drops limit other_limit bytes text canonical other_bytes other_text other dropped
    other_dropped form asked other_asked a b n m windows. feeds-after_header a b form asked other_asked canonical other n m windows
