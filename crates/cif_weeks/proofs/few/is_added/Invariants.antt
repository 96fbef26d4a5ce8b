-- None of the spans so far has the body.
use Rattle.cif_weeks.{proofs.Names.AllWithin, proofs.Names.◌≢◌, specs.Steps.BodyRuns.HasBody}
use Rattle.cif_weeks.proofs.few.is_added.Given as goal

abbrev pub invariant-loop-other : goal.invariant-loop-other
invariant-loop-other l = record {
  has_body : HasBody l.span;
  none : AllWithin (λ s. HasBody s → s.source ≢ l.span.source) l.before 0 l.other-index;
}
