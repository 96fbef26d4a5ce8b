-- The dates rise, so the search finds the place.
use Rattle.cif_feed.proofs.Names.{IsPartitionPoint, IsPartitionPoint-from_clause, IsPartitionedBy-ltb, List, arith, false, ltb, ltb-false}
use Rattle.cif_feed.proofs.Names.{ltb-true, rules, subst, true, ℕ, ◌≡◌}
use Rattle.cif_feed.proofs.holidays.HolidayDates.count_before.Goals as goal

point : (c : goal.After-partition_point) → IsPartitionPoint (λ (d : ℕ). ltb d c.args.day ≡ true) (λ (d : ℕ). ltb d c.args.day ≡ false)
    c.args.self.now.days.items c.partition_point.result
point c =
    let items = c.as_slice.ensures.value in
    subst (λ (l : List ℕ). IsPartitionPoint (λ (d : ℕ). ltb d c.args.day ≡ true)
    (λ (d : ℕ). ltb d c.args.day ≡ false) l c.partition_point.result)
    items
    (IsPartitionPoint-from_clause (λ (d : ℕ). ltb d c.args.day) _ _ c.partition_point.ensures.partitioned
    (rw items (IsPartitionedBy-ltb (λ (d : ℕ). d) c.args.self.now.days.items c.args.day c.args.self.now.rising)) (λ a r q k. search rules))

pub returns-clause-before : goal.returns-clause-before
returns-clause-before c = λ k below. ltb-true _ c.args.day ((point c).0 k 0 (omega arith) below)

pub returns-clause-from : goal.returns-clause-from
returns-clause-from c = λ k from below. ltb-false _ c.args.day ((point c).1 k 0 from below)
