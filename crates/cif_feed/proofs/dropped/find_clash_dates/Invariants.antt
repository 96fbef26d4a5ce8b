-- The keys of all entries but those at `rest`, which are greater, are reported with their clash dates.
use Rattle.cif_feed.proofs.Names.{All, AreClashDays, get, keyed, length, published_by, ◌+◌, ◌<◌}
use Rattle.cif_feed.proofs.FoundKeys.{AreFoundUpTo}
use Rattle.cif_feed.proofs.dropped.find_clash_dates.Given as goal

abbrev pub invariant-loop-rest : goal.invariant-loop-rest
invariant-loop-rest g l = record {
  within : All (λ i. i < length l.entries) l.rest;
  found : AreFoundUpTo g.E.Key.Ord.cmp (keyed g.E.Entry.key g.E.Entry.terms l.entries)
      (AreClashDays l.holidays (published_by g.E.Entry.key g.E.PublishedEntry.published l.entries) l.window.first (l.window.last + 1))
      g.E.NamedEntry.clash_of g.E.RankedEntry.stands_for l.initial.reported.items l.reported.items (get g.E.Rank.Ord.cmp l.dates) l.rest;
}

abbrev pub decreases-loop-rest : goal.decreases-loop-rest
decreases-loop-rest g l = length l.rest
