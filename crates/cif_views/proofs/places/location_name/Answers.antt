-- The first location that isn't before this TIPLOC is the first with it, or there is none (`found-at`, `none-at`, `none-after`).
use Rattle.cif_views.proofs.Names.{List, Tiploc, ap, columns, false, is_lt, is_some, length, ltb-false, ltb-true, nat_eq, pointwise, rules}
use Rattle.cif_views.proofs.Names.{sym, true, ℕ, ◌<◌, ◌∙◌, ◌≡◌, ◌≤◌}
use Rattle.std.proofs.lemmas.List.Sorted.{IsPartitionPoint-from_clause}
use Rattle.std.specs.List.Sorted.{IsPartitionPoint}
use Rattle.cif_views.proofs.Searched.{found-at, none-after, none-at, parted, standing}
use Rattle.cif_views.proofs.places.location_name.Goals as goal
use Rattle.cif_views.proofs.places.location_name.Goals.{After-partition_point-position}

point : (c : After-partition_point-position) → IsPartitionPoint (λ t. is_lt (standing c.args.tiplocs.now c.requires c.args.location.now t) ≡ true)
    (λ t. is_lt (standing c.args.tiplocs.now c.requires c.args.location.now t) ≡ false) c.args.tiplocs.now c.partition_point-position.result
point c =
    IsPartitionPoint-from_clause (λ t. is_lt (standing c.args.tiplocs.now c.requires c.args.location.now t)) _ _
    c.partition_point-position.ensures.partitioned (parted c.args.tiplocs.now c.requires c.args.location.now) (λ a r q k. search rules)

pub returns-in-Some : goal.returns-in-Some
returns-in-Some c =
    let ts = c.args.tiplocs.now in
    let i = c.partition_point-position.result in
    let t = c.in-Some.tiploc.now in
    let found = c.in-Some.ensures.lookup in
    let within : i < length ts = ltb-true i (length ts) (sym found.0) in
    let has = ap (λ (l : List ℕ). pointwise nat_eq l c.args.location.now) (sym c.tiploc_of.ensures) ∙ sym c.if-eq.ensures in
    c.columns_at.ensures.value ∙ ap (columns 19 44) c.write.ensures.plain
    ∙ sym (found-at ts c.requires c.args.location.now i (point (goal.at.returns-in-Some c).After-partition_point-position) t within found.1 has)

pub returns-in_default : goal.returns-in_default
returns-in_default c =
    let ts = c.args.tiplocs.now in
    let i = c.partition_point-position.result in
    let t = c.in-Some.tiploc.now in
    let found = c.in-Some.ensures.lookup in
    let within : i < length ts = ltb-true i (length ts) (sym found.0) in
    let has = ap (λ (l : List ℕ). pointwise nat_eq l c.args.location.now) (sym c.tiploc_of.ensures) ∙ sym c.if-eq.ensures in
    sym (none-at ts c.requires c.args.location.now i (point (goal.at.returns-in_default c).After-partition_point-position) t within found.1 has)

pub returns-in_default-2 : goal.returns-in_default-2
returns-in_default-2 c =
    let ts = c.args.tiplocs.now in
    let i = c.partition_point-position.result in
    let found = c.get.ensures.lookup.0 in
    let over : length ts ≤ i = ltb-false i (length ts) (sym found ∙ ap is_some c.in_default.is) in
    sym (none-after ts c.requires c.args.location.now i (point (goal.at.returns-in_default-2 c).After-partition_point-position) over)
