-- The pieces so far cover the days before `first`, and have what is left of them; what is left of the window gets shorter.
use Rattle.cif_canon.proofs.{Names.map, Names.◌-◌, Names.◌≤◌, OnlyDays.AreOnlyPieces}
use Rattle.cif_canon.proofs.only_days.only_calendar.Given as goal

abbrev pub invariant-loop-pieces : goal.invariant-loop-pieces
invariant-loop-pieces g l = record {
  from : l.one.first ≤ l.first;
  upto : l.first ≤ l.one.last;
  only : AreOnlyPieces (map g.E.Entry.terms l.entries) l.one (map g.E.Entry.terms l.others) l.other l.first l.pieces.items;
}

abbrev pub decreases-loop-pieces : goal.decreases-loop-pieces
decreases-loop-pieces g l = l.one.last - l.first
