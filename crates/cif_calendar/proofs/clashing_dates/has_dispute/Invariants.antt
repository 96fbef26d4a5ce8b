-- No standing so far is disputed.
use Rattle.cif_calendar.proofs.Names.{Disputed, Nobody, get_or, ℕ, ◌<◌, ◌≡◌}
use Rattle.cif_calendar.proofs.clashing_dates.has_dispute.Given as goal

abbrev pub invariant-loop-standing : goal.invariant-loop-standing
invariant-loop-standing l = (k w : ℕ) → w < l.standing-index → ¬ (get_or l.standings w Nobody ≡ Disputed k)
