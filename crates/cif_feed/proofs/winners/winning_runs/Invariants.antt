-- The positions that are left are in the order of their keys, and each run has a schedule.
use Rattle.cif_feed.proofs.Names.{All, IsRising, List, PublishedSchedule, ReadsTrains, get, keyed, length, nat_cmp, schedule_terms, slice_cmp, ℕ, ◌<◌}
use Rattle.cif_weeks.specs.Window.{window_days}
use Rattle.cif_feed.specs.Steps.Deciding.{AppliesAt, rows_of}
use Rattle.cif_feed.proofs.TrainRows.{AreMade}
use Rattle.cif_feed.proofs.winners.winning_runs.Given as goal

abbrev pub invariant-loop-schedules : goal.invariant-loop-schedules
invariant-loop-schedules l = record {
  within : All (λ i. i < length l.schedules) l.rest;
  rising : IsRising (slice_cmp nat_cmp)
      (keyed (λ (s : PublishedSchedule). s.schedule.uid) (λ (s : PublishedSchedule). schedule_terms s.schedule) l.schedules) l.rest;
  bounded : All (λ run. run.source < length l.schedules) l.all.items;
  whole : (days : List ℕ → List ℕ) → ReadsTrains days (get nat_cmp l.deciders.clash_dates.now)
      → AreMade (window_days l.deciders.window.now) (AppliesAt l.deciders.holidays.now days l.deciders.window.now.last l.schedules)
      l.schedules (rows_of l.schedules l.all.items) l.rest;
}

abbrev pub decreases-loop-schedules : goal.decreases-loop-schedules
decreases-loop-schedules l = length l.rest
