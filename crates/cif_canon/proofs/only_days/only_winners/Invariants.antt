-- The winners so far are what is left of the days before `day`, which is as many days behind the first as the loop went round.
use Rattle.cif_canon.proofs.Names.{length, map, ◌+◌, ◌≡◌, ◌≤◌}
use Rattle.cif_canon.proofs.OnlyDays.{OnlyUpTo}
use Rattle.cif_canon.proofs.only_days.only_winners.Given as goal

abbrev pub invariant-loop : goal.invariant-loop
invariant-loop g l = record {
  seven : length l.winners ≡ 7;
  day_is : l.day ≡ l.fn.first + l.counter;
  upto : l.day ≤ l.last;
  only : OnlyUpTo (map g.E.Entry.terms l.entries) (map g.E.Entry.terms l.others) l.piece l.peer l.fn.first l.day l.winners;
}
