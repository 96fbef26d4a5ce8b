-- One association more, which applies on a clash date or not.
use Rattle.cif_feed.proofs.Names.{AppliesOnAny, Contains, IsCountOf, List, None, PublishedAssociation, published_association_terms, subst}
use Rattle.cif_feed.proofs.{CutCounts.count-more, CutCounts.on-any, CutCounts.within-more, Names.take_all, Names.◌∙◌}
use Rattle.cif_feed.proofs.published_extract.PublishedExtract.count_clashing_associations.Goals as goal

pub loop-one-preserved : goal.loop-one-preserved
loop-one-preserved c =
    let (few, count) = c.loop-one.invariant in
    let r = published_association_terms c.one-item.result in
    let decided = on-any c.args.holidays.now c.args.self.now.header.last r c.prepared_last-last.result
    (c.prepared_last-last.ensures.last None) c.dates_of-dates.result.now c.applies_on_any.result c.applies_on_any.ensures in
    rw c.plus_if-count.ensures (
      within-more c.loop-one.count c.loop-one.one-index c.applies_on_any.result few,
      λ days reads. count-more _ c.as_slice-associations.result.now c.loop-one.one-index c.one-item.result c.loop-one.count
          c.loop-one-test.true c.one-item.is (count days reads) c.applies_on_any.result
          (decided (days c.one-item.result.association.key) (c.dates_of-dates.ensures.reads days reads)),
    )

pub returns-clause-count : goal.returns-clause-count
returns-clause-count c = λ days reads.
    let P = λ (x : PublishedAssociation). AppliesOnAny (Contains (days x.association.key)) c.args.holidays.now
    c.args.self.now.header.last (published_association_terms x) in
    subst (λ (l : List PublishedAssociation). IsCountOf P l c.loop-one.count)
    (take_all c.loop-one.one-index c.as_slice-associations.result.now c.loop-one-test.false ∙ c.as_slice-associations.ensures.value)
    (c.loop-one.invariant.1 days reads)
