-- The members of the pair have one body exactly if the two that are asked about have.
use Rattle.cif_calendar.proofs.Names.{AreAlike, HaveOneBody, ◌↔◌}
use Rattle.cif_calendar.proofs.standing.have_one_body.Given as goal

abbrev pub invariant-loop : goal.invariant-loop
invariant-loop g l = record {
  alike : AreAlike l.members.terms l.members.positions l.alike;
  both : HaveOneBody l.members.terms l.members.positions l.pair.0 l.pair.1 ↔ HaveOneBody l.members.terms l.members.positions l.one l.other;
}
