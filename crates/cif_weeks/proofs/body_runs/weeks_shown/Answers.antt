-- A span alone leads wherever it is (`alone-weeks`); else each span with this source is one more that may lead.
use Rattle.cif_weeks.{proofs.Names.arith, proofs.Spans.take_next, proofs.body_runs.weeks_shown.Goals.then-span-source-2+in_ok-weeks}
use Rattle.cif_weeks.proofs.Spans.{AreLater, agree-more, alone-weeks, later-none, later-rest, some-agreed, some-all, some-more, some-same}
use Rattle.cif_weeks.proofs.body_runs.weeks_shown.Goals as goal
use Rattle.cif_weeks.proofs.body_runs.weeks_shown.Goals.{else-loop-span-test, else-span-source-2, then-loop-span-test+then-last-span}

pub returns-then-span-source-clause-weeks : goal.returns-then-span-source-clause-weeks
returns-then-span-source-clause-weeks c = alone-weeks c.args.spans.now c.span-item.result
    (omega (arith, c.in-len1.len_at_least, c.in-len1.len_below)) c.span-item.is c.if-span-source.true c.weeks_from.ensures

pub loop-span-preserved : goal.loop-span-preserved
loop-span-preserved c =
    let l = c.loop-span.invariant in
    let t = c.span-item-in-loop-span.result in
    let next = take_next c.args.spans.now c.loop-span.span-index t c.loop-span-test.true c.span-item-in-loop-span.is in
    elim c.if-span-source-2.branch [
      | then-span-source-2+in_ok-weeks w ↦
          let e = w.in_ok-weeks.ensures in
          let u = w.union-days.ensures in
          rw (next, w.days-is, w.last-is) (record {
            weeks = some-more t l.weeks w.if-span-source-2.true e.weeks u.width u.runs;
            agreed = agree-more t l.agreed e.weeks.upto (λ _. e.agreed.agreed);
          })
      | else-span-source-2 w ↦
          rw (next, w.days-is, w.last-is) (record {
            weeks = some-same t l.weeks (λ same. omega arith) l.weeks.from (omega arith);
            agreed = agree-more t l.agreed (omega arith) (λ same. absurd (omega arith));
          })
    ]

pub returns : goal.returns
returns c =
    let spans = c.args.spans.now in
    let index = c.loop-span.span-index in
    let last = c.loop-span.last in
    let later : AreLater spans index last = elim c.loop-span-test.branch [
      | else-loop-span-test w ↦ later-none spans index last (omega (arith, w.loop-span-test.false))
      | then-loop-span-test+then-last-span w ↦ later-rest spans index last w.span-item-in-loop-span.result c.requires.order
          w.loop-span-test.true w.span-item-in-loop-span.is w.if-last-span.true
    ] in
    record {
      weeks = some-all (λ s n leads. leads.has) spans index last later c.loop-span.invariant.weeks;
      agreed = some-agreed (λ s n leads. leads.has) spans index last later c.loop-span.invariant.agreed;
      disputed = tt;
    }
