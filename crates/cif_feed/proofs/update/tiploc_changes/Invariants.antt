-- What is pushed so far, the last first, is of the last locations and marks.
use Rattle.cif_feed.proofs.Names.{List, Tiploc, TiplocMark, length, reverse, tiploc_changes, ◌++◌, ◌≡◌}
use Rattle.cif_feed.proofs.update.tiploc_changes.Given as goal

abbrev pub invariant-loop-tiploc : goal.invariant-loop-tiploc
invariant-loop-tiploc l = (length l.marks.items ≡ length l.tiplocs.items)
    × (tiplocs : List Tiploc) × (marks : List TiplocMark) × (l.initial.tiplocs.items ≡ l.tiplocs.items ++ tiplocs)
    × (l.initial.marks.items ≡ l.marks.items ++ marks) × (reverse l.changes.items ≡ tiploc_changes tiplocs marks)

abbrev pub decreases-loop-tiploc : goal.decreases-loop-tiploc
decreases-loop-tiploc l = length l.tiplocs.items
