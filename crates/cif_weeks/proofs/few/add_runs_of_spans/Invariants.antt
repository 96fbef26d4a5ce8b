-- The runs of the spans so far.
use Rattle.cif_weeks.proofs.{Names.HasSource, Names.take, Names.window_days, SpanRuns.AreRunsOf}
use Rattle.cif_weeks.proofs.few.add_runs_of_spans.Given as goal

abbrev pub invariant-loop-number : goal.invariant-loop-number
invariant-loop-number l = AreRunsOf l.joining.form (window_days l.joining.window) l.spans (HasSource (take l.number l.spans)) l.runs.items
