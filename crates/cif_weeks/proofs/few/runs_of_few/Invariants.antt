-- The spans are those of the members so far.
use Rattle.cif_weeks.proofs.Names.{AreSpansOf, length, map, take, window_days, ◌≤◌}
use Rattle.cif_weeks.proofs.few.runs_of_few.Given as goal

abbrev pub invariant-loop-position : goal.invariant-loop-position
invariant-loop-position g l = record {
  are : AreSpansOf (map g.E.Entry.terms l.entries) (take l.position-index l.members) (window_days l.window) l.spans.items;
  few : length l.spans.items ≤ l.position-index;
}
