-- The schedules so far are cut.
use Rattle.cif_feed.proofs.Names.{ArePrepared, IsStopAmong, List, ReadsTrains, get, map, nat_cmp, published_schedules, schedule_entries}
use Rattle.cif_feed.proofs.Names.{schedule_on, take, ℕ}
use Rattle.cif_feed.proofs.prepare.cut_schedules.Given as goal

abbrev pub invariant-loop-one : goal.invariant-loop-one
invariant-loop-one l = (days : List ℕ → List ℕ) → ReadsTrains days (get nat_cmp l.clash_dates)
    → ArePrepared (IsStopAmong l.holidays days) l.window_last (published_schedules (take l.one-index l.schedules))
    (schedule_entries (map schedule_on l.prepared.items))
