-- One span more: if it has this source, the weeks reach to its own.
use Rattle.cif_weeks.proofs.{Names.arith, Names.take_all, Names.⊎_elim, Spans.old_or_new, Spans.take_next}
use Rattle.cif_weeks.proofs.{body_runs.weeks_of.Goals.else-span-source, body_runs.weeks_of.Goals.then-span-source}
use Rattle.cif_weeks.proofs.body_runs.weeks_of.Goals as goal

pub loop-span-preserved : goal.loop-span-preserved
loop-span-preserved c =
    let l = c.loop-span.invariant in
    let t = c.span-item.result in
    let next = take_next c.args.spans.now c.loop-span.span-index t c.loop-span-test.true c.span-item.is in
    elim c.if-span-source.branch [
      | then-span-source w ↦ record {
        weeks = rw next (λ n h. ⊎_elim
            (λ old. let k = l.weeks n old in (omega arith, omega arith))
            (λ new. let has = new.1 in (omega arith, omega arith))
            (old_or_new t n h));
        in_range = omega arith;
      }
      | else-span-source w ↦ record {
        weeks = rw (next, w.first-is, w.last-is) (λ n h. ⊎_elim
            (λ old. l.weeks n old)
            (λ new. absurd (w.if-span-source.false new.0))
            (old_or_new t n h));
        in_range = omega arith;
      }
    ]

pub returns-clause-weeks : goal.returns-clause-weeks
returns-clause-weeks c n s = rw (take_all c.loop-span.span-index c.args.spans.now c.loop-span-test.false) at c.loop-span.invariant.weeks n
    (record { it = s.it; listed = s.listed; is = s.is; on = s.on.has })
