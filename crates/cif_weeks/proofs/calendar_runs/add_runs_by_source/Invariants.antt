-- The runs of the sources that no span that is left has. What is left has all spans of its sources.
use Rattle.cif_weeks.proofs.Names.{AreBySource, Contains, Span, length, window_days, ◌≡◌, ◌≢◌}
use Rattle.cif_weeks.proofs.SpanRuns.{AreRunsOf}
use Rattle.cif_weeks.proofs.calendar_runs.add_runs_by_source.Given as goal

abbrev pub invariant-loop-left : goal.invariant-loop-left
invariant-loop-left l = record {
  runs : AreRunsOf l.joining.form (window_days l.joining.window) l.spans (λ i. (s : Span) → Contains l.left s → s.source ≢ i) l.runs.items;
  left : (s : Span) → Contains l.left s → Contains l.spans s;
  whole : (s t : Span) → Contains l.spans s → Contains l.left t → s.source ≡ t.source → Contains l.left s;
  order : AreBySource l.left;
}

abbrev pub decreases-loop-left : goal.decreases-loop-left
decreases-loop-left l = length l.left
