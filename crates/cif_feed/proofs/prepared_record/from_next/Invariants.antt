-- The dates so far are passed.
use Rattle.cif_feed.proofs.Names.{RunsOn, get_or, weekday_of, ℕ, ◌<◌, ◌⊎◌}
use Rattle.cif_feed.proofs.prepared_record.from_next.Given as goal

abbrev pub invariant-loop-count : goal.invariant-loop-count
invariant-loop-count l = (k : ℕ) → k < l.count → (get_or l.dates k 0 < l.from) ⊎ (¬ RunsOn l.days (weekday_of (get_or l.dates k 0)))
