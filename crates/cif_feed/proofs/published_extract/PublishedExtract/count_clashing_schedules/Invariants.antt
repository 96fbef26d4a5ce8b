-- So many of the schedules so far apply on a clash date of their key.
use Rattle.cif_feed.proofs.Names.{AppliesOnAny, Contains, IsCountOf, List, PublishedSchedule, ReadsTrains, get, nat_cmp}
use Rattle.cif_feed.proofs.Names.{published_schedule_terms, take, ℕ, ◌≤◌}
use Rattle.cif_feed.proofs.published_extract.PublishedExtract.count_clashing_schedules.Given as goal

abbrev pub invariant-loop-one : goal.invariant-loop-one
invariant-loop-one l = (l.count ≤ l.one-index) × ((days : List ℕ → List ℕ) → ReadsTrains days (get nat_cmp l.clash_dates)
    → IsCountOf (λ (x : PublishedSchedule). AppliesOnAny (Contains (days x.schedule.uid)) l.holidays
    l.self.header.last (published_schedule_terms x))
    (take l.one-index l.schedules) l.count)
