-- What is made so far, the last first, is of the last records and marks.
use Rattle.cif_feed.proofs.Names.{ArePairs, AreTriples, List, RecordMark, length, reverse, ◌++◌, ◌≡◌}
use Rattle.cif_feed.proofs.published_extract.from_lines.Given as goal

abbrev pub invariant-loop-entry : goal.invariant-loop-entry
invariant-loop-entry g l = ArePairs g.T.FromLine.may l.entries.items l.marks.items
    × (entries : List g.row.T-Record.Denot) × (marks : List RecordMark) × (l.initial.entries.items ≡ l.entries.items ++ entries)
    × (l.initial.marks.items ≡ l.marks.items ++ marks) × AreTriples g.T.FromLine.is_of entries marks (reverse l.made.items)

abbrev pub decreases-loop-entry : goal.decreases-loop-entry
decreases-loop-entry g l = length l.entries.items
