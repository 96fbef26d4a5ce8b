-- The weekdays so far whose winners have the body.
use Rattle.cif_weeks.proofs.Names.{HasBodyOn, RunsOn, map, ℕ, ◌<◌, ◌↔◌}
use Rattle.cif_weeks.proofs.calendar_runs.days_of.Given as goal

abbrev pub invariant-loop-weekday : goal.invariant-loop-weekday
invariant-loop-weekday g l = (w : ℕ) → RunsOn l.days w ↔ ((w < l.weekday) × HasBodyOn (map g.E.Entry.terms l.entries) l.piece l.source w)
