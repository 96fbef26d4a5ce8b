-- The entry is cut up to `first` (`IsCutUpTo`), and of each list the dates from then on are left.
use Rattle.cif_feed.proofs.Names.{Contains, ended, records_on, ℕ, ◌+◌, ◌-◌, ◌⊎◌}
use Rattle.cif_feed.proofs.PartLists.{IsCutUpTo, IsRestOf}
use Rattle.cif_feed.proofs.prepared_record.add_parts.Given as goal

abbrev pub invariant-loop-cut : goal.invariant-loop-cut
invariant-loop-cut g l = record {
  cut : IsCutUpTo (λ (d : ℕ). Contains l.holidays d ⊎ Contains l.clash_dates d) (g.E.Entry.key l.entry)
      (ended l.last (g.E.Entry.terms l.entry))
      (records_on g.E.Entry.key g.E.Entry.terms l.initial.prepared.items) (records_on g.E.Entry.key g.E.Entry.terms l.prepared.items)
      l.first;
  holidays : IsRestOf l.holidays (g.E.Entry.terms l.entry).days l.first l.last l.holidays_left;
  clashes : IsRestOf l.clash_dates (g.E.Entry.terms l.entry).days l.first l.last l.clashes_left;
}

abbrev pub decreases-loop-cut : goal.decreases-loop-cut
decreases-loop-cut g l = l.last + 1 - l.first
