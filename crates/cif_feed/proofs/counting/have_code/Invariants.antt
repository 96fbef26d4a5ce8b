-- None of the positions so far has the code.
use Rattle.cif_feed.proofs.Names.{HasCodeAt, get_or, published_schedule_terms, ℕ, ◌<◌}
use Rattle.cif_feed.proofs.counting.have_code.Given as goal

abbrev pub invariant-loop-position : goal.invariant-loop-position
invariant-loop-position l = (k : ℕ) → k < l.position-index → ¬ HasCodeAt published_schedule_terms l.schedules l.code (get_or l.members k 0)
