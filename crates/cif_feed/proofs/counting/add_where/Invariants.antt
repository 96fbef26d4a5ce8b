-- Of the dates so far those that are wanted are there.
use Rattle.cif_feed.proofs.Names.{IsHoliday, IsTrue, take, ℕ, ◌↔◌}
use Rattle.cif_feed.proofs.CountedClashes.{AreAlso}
use Rattle.cif_feed.proofs.counting.add_where.Given as goal

abbrev pub invariant-loop-day : goal.invariant-loop-day
invariant-loop-day l =
    AreAlso (λ (d : ℕ). IsHoliday l.holidays l.code d ↔ IsTrue l.wanted) l.initial.days.items (take l.day-index l.dates) l.days.items
