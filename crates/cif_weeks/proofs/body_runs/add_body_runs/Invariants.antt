-- The runs of the body in the weeks before `week` are made, and where it is shown in these weeks the spans agree. The spans that
-- aren't left have ended.
use Rattle.cif_weeks.proofs.Names.{AreGrownTo, IsAgreed, Shows, length, week_of, window_days, ℕ, ◌+◌, ◌-◌, ◌<◌}
use Rattle.cif_weeks.proofs.ActiveSpans.{AreLeft}
use Rattle.cif_weeks.proofs.body_runs.add_body_runs.Given as goal

abbrev pub invariant-loop-left : goal.invariant-loop-left
invariant-loop-left l = record {
  grown : AreGrownTo l.joining.form (window_days l.joining.window) (Shows l.spans l.source) l.source l.week
      l.initial.runs.items l.runs.items;
  agreed : (n : ℕ) → week_of n < l.week → Shows l.spans l.source n → IsAgreed l.spans n;
  left : AreLeft l.spans l.left l.week l.last;
}

abbrev pub decreases-loop-left : goal.decreases-loop-left
decreases-loop-left l = length l.left + (65536 - l.week)
