-- So many of the schedules so far are cut.
use Rattle.cif_feed.proofs.Names.{HasCut, IsCountOf, PublishedSchedule, published_schedule_terms, take, ◌≤◌}
use Rattle.cif_feed.proofs.published_extract.PublishedExtract.count_cut.Given as goal

abbrev pub invariant-loop-one : goal.invariant-loop-one
invariant-loop-one l = (l.count ≤ l.one-index)
    × IsCountOf (λ (s : PublishedSchedule). HasCut l.holidays l.self.header.last (published_schedule_terms s))
    (take l.one-index l.schedules) l.count
