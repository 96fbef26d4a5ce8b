-- The entries so far are ranked.
use Rattle.cif_calendar.proofs.Names.{AreRanked, keyed}
use Rattle.cif_calendar.proofs.by_key.ranked_positions.Given as goal

abbrev pub invariant-loop-position : goal.invariant-loop-position
invariant-loop-position g l = AreRanked g.E.RankedEntry.stands_for (keyed g.E.Entry.key g.E.Entry.terms l.entries) l.position l.ranked.items
