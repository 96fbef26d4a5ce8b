-- The positions so far are those of the key.
use Rattle.cif_calendar.proofs.{KeyMembers.ArePositionsBefore, Names.All, Names.keyed, Names.length, Names.◌<◌}
use Rattle.cif_calendar.proofs.by_key.positions_of_key.Given as goal

abbrev pub invariant-loop-position : goal.invariant-loop-position
invariant-loop-position g l = record {
  within : All (λ i. i < length l.entries) l.positions.items;
  before : ArePositionsBefore (keyed g.E.Entry.key g.E.Entry.terms l.entries) l.key l.position l.positions.items;
}
