-- The last line of all is that of those from `last` on, and `rest` are those behind the first of them.
use Rattle.cif_columns.proofs.Names.{[], drop, get_or, length, ◌-◌, ◌<◌, ◌≡◌}
use Rattle.cif_columns.proofs.lines.LineSlice.last.Given as goal

abbrev pub invariant-loop-last : goal.invariant-loop-last
invariant-loop-last l =
    (0 < length l.last) × (l.rest ≡ drop 1 l.last) × (get_or l.last (length l.last - 1) [] ≡ get_or l.self (length l.self - 1) [])

abbrev pub decreases-loop-last : goal.decreases-loop-last
decreases-loop-last l = length l.rest
