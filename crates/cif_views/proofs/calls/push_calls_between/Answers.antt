-- One call more goes behind the text (`more-of`).
use Rattle.cif_views.proofs.Names.{[], append-nil, call_text, calls_at, refl, sym}
use Rattle.cif_views.proofs.{CallRows.more-of, CallRows.one-done}
use Rattle.cif_views.proofs.RowNames.{added-both, added-is, added-waits}
use Rattle.cif_views.proofs.calls.push_calls_between.Goals as goal

pub loop-call-init : goal.loop-call-init
loop-call-init g c = (λ fields h. added-waits _ _ [] _ _ _ (sym (append-nil _)), refl)

pub loop-call-preserved : goal.loop-call-preserved
loop-call-preserved g c =
    let (added, split) = c.loop-call.invariant in (
      λ fields h. added-is _ _ _ _ _ _ _ _ (more-of (call_text g.F.RowFormat.FORMAT fields) calls_at c.loop-call.yielded c.in-Some.call)
          (added-both _ _ _ _ _ _ _ _ _ _ (added fields h) (c.push_call_at.ensures fields h)),
      one-done _ _ _ split c.in-Some.call _ c.in-Some.ensures.steps,
    )
