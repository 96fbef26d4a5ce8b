-- The clash dates before `day` are found, and what is left of the stretch gets shorter.
use Rattle.cif_calendar.proofs.Names.{AreClashDates, IsChosen, ℕ, ◌-◌, ◌≤◌}
use Rattle.cif_calendar.proofs.clashing_dates.add_dates.Given as goal

abbrev pub invariant-loop-next : goal.invariant-loop-next
invariant-loop-next g l = record {
  from : l.fn.first ≤ l.day;
  upto : l.day ≤ l.stretch.last;
  so_far : (from : ℕ) → from ≤ l.fn.first
      → AreClashDates (IsChosen l._members.terms l._members.positions) from l.fn.first
      l.initial.days.items
      → AreClashDates (IsChosen l._members.terms l._members.positions) from l.day l.days.items;
}

abbrev pub decreases-loop-next : goal.decreases-loop-next
decreases-loop-next g l = l.stretch.last - l.day
