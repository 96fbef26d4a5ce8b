-- It applies on none of the dates so far.
use Rattle.cif_feed.proofs.Names.{AppliesAsPublished, ended, get_or, ℕ, ◌<◌}
use Rattle.cif_feed.proofs.cut_count.applies_on_any.Given as goal

abbrev pub invariant-loop-day : goal.invariant-loop-day
invariant-loop-day g l = (k : ℕ) → k < l.day-index
    → ¬ AppliesAsPublished l.holidays l.code (ended l.last (g.E.Entry.terms l.entry)) (get_or l.later k 0)
