-- One schedule more, cut or not.
use Rattle.cif_feed.proofs.Names.{HasCut, IsCountOf, List, PublishedSchedule, published_schedule_terms, subst, take_all, ◌∙◌}
use Rattle.cif_feed.proofs.CutCounts.{count-more, within-more}
use Rattle.cif_feed.proofs.published_extract.PublishedExtract.count_cut.Goals as goal

pub loop-one-preserved : goal.loop-one-preserved
loop-one-preserved c =
    let (few, count) = c.loop-one.invariant in
    rw c.plus_if-count.ensures (
      within-more c.loop-one.count c.loop-one.one-index c.has_cut.result few,
      count-more _ c.as_slice-schedules.result.now c.loop-one.one-index c.one-item.result c.loop-one.count c.loop-one-test.true
          c.one-item.is count c.has_cut.result c.has_cut.ensures,
    )

pub returns : goal.returns
returns c =
    let P = λ (s : PublishedSchedule). HasCut c.args.holidays.now c.args.self.now.header.last (published_schedule_terms s) in
    subst (λ (l : List PublishedSchedule). IsCountOf P l c.loop-one.count)
    (take_all c.loop-one.one-index c.as_slice-schedules.result.now c.loop-one-test.false ∙ c.as_slice-schedules.ensures.value)
    c.loop-one.invariant.1
