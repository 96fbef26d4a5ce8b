-- The public calls so far, and those of the lines that are left, are all; the journey has two moments a line at most.
use Rattle.cif_views.proofs.Names.{IsJourneyBy, at_first, length, map, numbered_from, public_from, ℕ, ◌*◌, ◌++◌, ◌+◌, ◌<◌}
use Rattle.cif_views.proofs.Names.{◌≡◌, ◌≤◌}
use Rattle.cif_views.specs.Boards.{stop_of}
use Rattle.cif_views.proofs.public_calls.public_stops.Given as goal

abbrev pub invariant-loop-lines : goal.invariant-loop-lines
invariant-loop-lines l =
    (l.stops.items ++ map stop_of (public_from l.journey (numbered_from 1 l.call l.lines))
    ≡ map stop_of (public_from at_first (numbered_from 1 1 l.initial.lines)))
    × ((n : ℕ) × IsJourneyBy n l.journey × (n + 2 * length l.lines ≤ 2 * length l.initial.lines))
    × (l.call + length l.lines ≤ 1 + length l.initial.lines)
    × (length l.initial.lines < 9223372036854775808)

abbrev pub decreases-loop-lines : goal.decreases-loop-lines
decreases-loop-lines l = length l.lines
