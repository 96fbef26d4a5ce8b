-- The weekdays before `weekday` are looked at; the others are as they were.
use Rattle.cif_calendar.proofs.{Names.AreAlike, Names.LooksAt, Names.length, Standings.AreStepped}
use Rattle.cif_calendar.proofs.standing.look_at.Given as goal

abbrev pub invariant-loop-weekday : goal.invariant-loop-weekday
invariant-loop-weekday g l = record {
  alike : AreAlike l.members.terms l.members.positions l.alike;
  stepped : AreStepped (LooksAt l.members.terms l.members.positions l.days l.others)
      (length l.members.positions) l.initial.standings
      l.weekday l.standings;
}
