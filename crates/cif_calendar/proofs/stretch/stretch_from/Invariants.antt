-- So far it is the stretch of the members that were looked at.
use Rattle.cif_calendar.proofs.Names.{AreAlike, IsStretch, take, ◌+◌}
use Rattle.cif_calendar.proofs.stretch.stretch_from.Given as goal

abbrev pub invariant-loop-index : goal.invariant-loop-index
invariant-loop-index g l = record {
  alike : AreAlike l.members.terms l.members.positions l.alike;
  stretch : IsStretch l.members.terms l.members.positions (take l.index l.part) (l.fn.last + 1) l.first
      (record { last = l.end; standings = l.standings });
}
