-- The dates don't fall, so the search finds the place.
use Rattle.cif_feed.proofs.Names.{IsPartitionPoint, IsPartitionPoint-from_clause, IsPartitionedBy-ltb, arith, false, ltb, ltb-false}
use Rattle.cif_feed.proofs.Names.{ltb-true, rules, take_rest, true, ℕ, ◌≡◌}
use Rattle.cif_feed.proofs.prepared_record.from_day.Goals as goal

point : (c : goal.After-result-1) → IsPartitionPoint (λ (d : ℕ). ltb d c.args.day ≡ true) (λ (d : ℕ). ltb d c.args.day ≡ false)
    c.args.dates.now c.partition_point.result
point c =
    IsPartitionPoint-from_clause (λ (d : ℕ). ltb d c.args.day) _ _ c.partition_point.ensures.partitioned
    (IsPartitionedBy-ltb (λ (d : ℕ). d) c.args.dates.now c.args.day c.requires) (λ a r q k. search rules)

pub returns : goal.returns
returns c = record {
  place = c.partition_point.result;
  before = λ k below. ltb-true _ c.args.day ((point c).0 k 0 (omega arith) below);
  behind = λ k from below. ltb-false _ c.args.day ((point c).1 k 0 from below);
  is = take_rest c.args.dates.now c.partition_point.result;
}
