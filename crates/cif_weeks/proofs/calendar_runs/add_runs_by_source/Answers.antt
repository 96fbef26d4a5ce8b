-- The runs of one source more (`runs-more`), and those of all after the sort.
use Rattle.cif_weeks.proofs.Names.{AreRunsOfBody, IsDisputed, IsPartitionPoint-from_clause, IsPartitionedBy-leb, Shows, Span, arith, leb}
use Rattle.cif_weeks.proofs.Names.{rules, subst, window_days}
use Rattle.cif_weeks.proofs.SourceRuns.{EndsSource, count-some, other, own-order, rest-order, runs-all, runs-more, runs-none, shows-all}
use Rattle.cif_weeks.{proofs.SourceRuns.undisputed, proofs.SourceRuns.whole-rest, proofs.SpanRuns.runs-permuted}
use Rattle.cif_weeks.{proofs.SpanRuns.runs-sorted, proofs.calendar_runs.add_runs_by_source.Goals.After-partition_point-count}
use Rattle.cif_weeks.proofs.calendar_runs.add_runs_by_source.Goals as goal

point : (c : After-partition_point-count) → EndsSource c.span-item.result.source c.loop-left.left.now c.partition_point-count.result
point c = IsPartitionPoint-from_clause (λ (s : Span). leb s.source c.span-item.result.source) _ _
    c.partition_point-count.ensures.partitioned
    (IsPartitionedBy-leb (λ (s : Span). s.source) _ c.span-item.result.source c.loop-left.invariant.order.sources) (λ a r q k. search rules)

pub loop-left-init : goal.loop-left-init
loop-left-init c = record {
  runs = rw c.requires.none (runs-none c.args.joining.now.form (window_days c.args.joining.now.window) c.args.spans.now);
  left = λ s listed. listed;
  whole = λ s t listed _ _. listed;
  order = c.requires.order;
}

pub add_body_runs-requires : goal.add_body_runs-requires
add_body_runs-requires c =
    let l = c.loop-left.invariant in
    let here = (goal.at.add_body_runs-requires c).After-partition_point-count in
    record {
      inside = λ n shows. c.requires.inside c.span-item.result.source n
          (shows-all c.loop-left.left.now c.span-item.result c.partition_point-count.result l.order c.span-item.is
          c.in-len1-up.len_at_least (point here) c.args.spans.now l.left l.whole c.requires.level n
          (subst (λ ss. Shows ss c.span-item.result.source n) c.split_at.ensures.front shows));
      order = rw c.split_at.ensures.front (own-order c.loop-left.left.now c.span-item.result c.partition_point-count.result
          l.order c.span-item.is c.in-len1-up.len_at_least (point here));
    }

pub unreachable-requires : goal.unreachable-requires
unreachable-requires c =
    let (n, d) = rw c.if-not-branch.true at c.in_ok-add_body_runs.ensures in
    let here = (goal.at.unreachable-requires c).After-partition_point-count in
    undisputed c.loop-left.left.now c.span-item.result c.partition_point-count.result c.loop-left.invariant.order c.span-item.is
    c.in-len1-up.len_at_least (point here) n (subst (λ ss. IsDisputed ss n) c.split_at.ensures.front d)

pub loop-left-smaller : goal.loop-left-smaller
loop-left-smaller c =
    let here = (goal.at.loop-left-smaller c).After-partition_point-count in
    let some = count-some c.loop-left.left.now c.span-item.result c.partition_point-count.result c.loop-left.invariant.order
    c.span-item.is c.in-len1-up.len_at_least (point here) in
    omega (arith, some, c.split_at.ensures.back_len)

pub loop-left-preserved : goal.loop-left-preserved
loop-left-preserved c =
    let (added, are, runs) = rw c.if-not-branch.false at c.in_ok-add_body_runs.ensures in
    let here = (goal.at.loop-left-preserved c).After-partition_point-count in
    let l = c.loop-left.invariant in
    let left = c.loop-left.left.now in
    let span = c.span-item.result in
    let count = c.partition_point-count.result in
    let window = window_days c.args.joining.now.window in
    rw (c.split_at.ensures.back, are) (record {
      runs = runs-more left span count l.order c.span-item.is c.in-len1-up.len_at_least (point here) c.args.spans.now l.left l.whole
          c.requires.level c.args.joining.now.form window c.loop-left.runs.items added (c.requires.inside span.source)
          c.requires.agreed l.runs
          (subst (λ ss. AreRunsOfBody c.args.joining.now.form window ss span.source added) c.split_at.ensures.front runs);
      left = λ s listed. l.left s (other left span count l.order c.span-item.is c.in-len1-up.len_at_least (point here) s listed).0;
      whole = whole-rest left span count l.order c.span-item.is c.in-len1-up.len_at_least (point here) c.args.spans.now l.left l.whole
          c.requires.level;
      order = rest-order left span count l.order c.span-item.is c.in-len1-up.len_at_least (point here);
    })

pub returns : goal.returns
returns c = runs-sorted _ _ _ c.sort_by_first.ensures.order (runs-permuted _ _ _ c.sort_by_first.ensures.permutation
    (runs-all _ _ _ c.loop-left.left.now _ c.requires.bodied c.in_default.len_below c.loop-left.invariant.runs))
