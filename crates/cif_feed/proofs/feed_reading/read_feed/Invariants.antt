-- There are contents so far, none of them refused: the reading is what they have come to, and the source was read on.
use Rattle.cif_feed.proofs.Names.{HasReadOn, HasTakenFeed, IsFeedContent, IsReadingContents, List, NoneOfFeedRefused, ℕ, ◌-◌}
use Rattle.cif_columns.specs.LineReader.{given, limit}
use Rattle.cif_feed.proofs.feed_reading.read_feed.Given as goal

abbrev pub invariant-loop-columns : goal.invariant-loop-columns
invariant-loop-columns g l = (cs : List (List ℕ))
    × IsReadingContents IsFeedContent g.R.Read.remaining (g.R.Read.remaining l.fn.source.reader) l.max_lines l.lines l.source cs
    × HasTakenFeed l.feed l.allowed cs l.reading × NoneOfFeedRefused l.feed l.allowed l.max_lines cs
    × HasReadOn g.R.ReadDevice.read_errors l.fn.source l.source

abbrev pub decreases-loop-columns : goal.decreases-loop-columns
decreases-loop-columns g l = limit l.lines - given l.lines
