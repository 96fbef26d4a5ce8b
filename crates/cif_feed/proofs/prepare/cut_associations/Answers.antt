-- One association more is cut at the clash dates of its key (`added-more`).
use Rattle.cif_feed.proofs.Names.{ArePrepared, Association, Contains, IsStopAmong, List, None, PublishedAssociation, []}
use Rattle.cif_feed.proofs.Names.{association_entries, association_on, association_terms, ended, map, published_association_terms}
use Rattle.cif_feed.proofs.Names.{published_associations, refl, subst, take_all, ℕ, ◌⊎◌}
use Rattle.cif_feed.proofs.PreparedLists.{added-as, added-more, prepared-associations}
use Rattle.cif_feed.proofs.prepare.cut_associations.Goals as goal

pub loop-one-preserved : goal.loop-one-preserved
loop-one-preserved c = λ h days reads.
    let a = c.one-item.result.association in
    let last = c.prepared_last-last.result in
    let added = added-as (λ (x : Association). x.key) association_terms (λ l. association_entries (map association_on l))
    prepared-associations (λ (d : ℕ). Contains [] d ⊎ Contains c.dates_of-dates.result.now d) a.key (ended last (association_terms a))
    c.loop-one.prepared.items c.add_parts.new.prepared.items c.in_ok-add_parts.ensures in
    added-more (λ (x : PublishedAssociation). (x.association.key, published_association_terms x)) h days c.args.window_last
    c.args.associations.now c.loop-one.one-index c.one-item.result (association_entries (map association_on c.loop-one.prepared.items))
    (association_entries (map association_on c.add_parts.new.prepared.items)) last [] c.dates_of-dates.result.now
    c.loop-one-test.true c.one-item.is (c.prepared_last-last.ensures.last None) refl (c.dates_of-dates.ensures.reads days reads) added
    (c.loop-one.invariant h days reads)

pub returns : goal.returns
returns c = λ h days reads.
    subst (λ (l : List PublishedAssociation). ArePrepared (IsStopAmong h days) c.args.window_last (published_associations l)
    (association_entries (map association_on c.loop-one.prepared.items)))
    (take_all c.loop-one.one-index c.args.associations.now c.loop-one-test.false) (c.loop-one.invariant h days reads)
