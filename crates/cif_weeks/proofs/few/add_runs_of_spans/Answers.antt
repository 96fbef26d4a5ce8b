-- The runs of one span more (`runs-skipped`, `runs-added`), and those of all after the sort.
use Rattle.cif_weeks.proofs.Names.{take_all, take_more}
use Rattle.cif_weeks.proofs.SpanRuns.{runs-added, runs-of_body, runs-permuted, runs-skipped, runs-sorted}
use Rattle.cif_weeks.proofs.few.add_runs_of_spans.Goals as goal

pub add_body_runs-requires-clause-inside : goal.add_body_runs-requires-clause-inside
add_body_runs-requires-clause-inside c n shows = c.requires.inside _ n shows

pub loop-number-preserved-then-is_added : goal.loop-number-preserved-then-is_added
loop-number-preserved-then-is_added c =
    rw (take_more c.args.spans.now c.loop-number.number c.index-spans-number.result c.loop-number-test.true, ← c.index-spans-number.is)
    (runs-skipped _ _ _ _ _ c.loop-number.invariant c.if-is_added.ensures)

pub loop-number-preserved : goal.loop-number-preserved
loop-number-preserved c =
    let (added, are, runs) = rw c.if-not-branch.false at c.in_ok-add_body_runs.ensures in
    rw (take_more c.args.spans.now c.loop-number.number c.index-spans-number.result c.loop-number-test.true, ← c.index-spans-number.is, are)
    (runs-added _ _ _ _ _ c.loop-number.invariant c.if-is_added.ensures.0 c.if-is_added.ensures.1
    (runs-of_body _ _ _ _ (c.requires.inside _) added runs))

pub returns : goal.returns
returns c =
    runs-sorted _ _ _ c.sort_by_first.ensures.order (runs-permuted _ _ _ c.sort_by_first.ensures.permutation
    (rw (take_all c.loop-number.number c.args.spans.now c.loop-number-test.false) at c.loop-number.invariant))
