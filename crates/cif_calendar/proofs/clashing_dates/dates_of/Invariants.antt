-- The clash dates of the stretches so far are found.
use Rattle.cif_calendar.proofs.Names.{AreClashDates, IsChosen, List, drop, ℕ, ◌≤◌}
use Rattle.cif_calendar.proofs.DayStates.{IsMadeOf}
use Rattle.cif_calendar.proofs.clashing_dates.dates_of.Given as goal

abbrev pub invariant-loop-stretch : goal.invariant-loop-stretch
invariant-loop-stretch g l =
    let xs = l.members.terms in
    let members = l.members.positions in
    IsMadeOf (λ (n : ℕ) (days : List ℕ). (l.window.first ≤ n) × AreClashDates (IsChosen xs members) l.window.first n days)
    xs members l.window.last l.first (drop l.stretch-index l.stretches) l.days.items
