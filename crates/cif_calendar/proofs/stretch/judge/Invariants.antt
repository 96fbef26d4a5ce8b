-- The winners so far are those of the days before `day`, which are clear; `day` is as many days behind the first as the loop went round.
use Rattle.cif_calendar.proofs.{Names.length, Names.◌+◌, Names.◌≡◌, Names.◌≤◌, UnbrokenStretches.IsWeekFrom}
use Rattle.cif_calendar.proofs.stretch.judge.Given as goal

abbrev pub invariant-loop : goal.invariant-loop
invariant-loop g l = record {
  seven : length l.winners ≡ 7;
  day_is : l.day ≡ l.first + l.counter;
  upto : l.day ≤ l.stretch.last;
  week : IsWeekFrom l.members.terms l.members.positions l.first l.day l.winners;
}
