-- None of the spans from `place` on has a source with the body.
use Rattle.cif_weeks.proofs.Names.{Some, Span, body_at, get_or, length, map, ℕ, ◌<◌, ◌≡◌, ◌≢◌, ◌≤◌}
use Rattle.cif_weeks.proofs.body_runs.source_of.Given as goal

abbrev pub invariant-loop-place : goal.invariant-loop-place
invariant-loop-place g l = let xs = map g.E.Entry.terms l.entries in record {
  within : l.place ≤ length l.spans;
  none : (k : ℕ) (s : Span) → l.place ≤ k → k < length l.spans → get_or l.spans k s ≡ s →
      body_at xs (Some s.source) ≢ body_at xs (Some l.position);
}

abbrev pub decreases-loop-place : goal.decreases-loop-place
decreases-loop-place g l = l.place
