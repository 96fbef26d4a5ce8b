-- The spans of the pieces so far; the next piece begins where they end.
use Rattle.cif_weeks.proofs.Names.{AreSpansBefore, Tiles, drop, map, ℕ, ◌+◌}
use Rattle.cif_weeks.proofs.calendar_runs.runs.Given as goal

abbrev pub invariant-loop-number : goal.invariant-loop-number
invariant-loop-number g l = record {
  limit : ℕ;
  tiles : Tiles (drop l.number l.calendar.pieces) limit (l.calendar.last + 1);
  before : AreSpansBefore (map g.E.Entry.terms l.entries) l.calendar limit l.spans.items;
}
