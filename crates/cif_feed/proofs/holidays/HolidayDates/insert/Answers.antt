-- An insertion adds the day (`dates-inserted`).
use Rattle.cif_feed.proofs.{GrownHolidays.dates-inserted, GrownHolidays.dates-there, GrownHolidays.rising-inserted, Names.refl}
use Rattle.std.proofs.Common.{is_ok}
use Rattle.cif_feed.proofs.holidays.HolidayDates.insert.Goals as goal

pub returns-clause-days : goal.returns-clause-days
returns-clause-days c = dates-inserted _ _ _ _ (c.in_ok-insert.ensures.items)

pub returns-then-contains-clause-days : goal.returns-then-contains-clause-days
returns-then-contains-clause-days c = dates-there _ _ (c.if-contains.ensures.0 refl)

pub invariant_of-self-2 : goal.invariant_of-self-2
invariant_of-self-2 c = record {
  rising = rising-inserted _ _ _ _ (is_ok c.insert.result) c.insert.ensures.items c.args.self.now.rising c.count_before-at.ensures.within
      c.count_before-at.ensures.before c.count_before-at.ensures.from;
}
