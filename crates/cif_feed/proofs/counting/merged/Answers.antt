-- What was added is sorted, and nothing stands twice in it (`merged-days`).
use Rattle.cif_feed.proofs.{CountedClashes.merged-days, Names.IsHoliday}
use Rattle.std.proofs.lemmas.List.Filters.{dedup_is}
use Rattle.cif_feed.proofs.counting.merged.Goals as goal

pub returns : goal.returns
returns c =
    merged-days (IsHoliday c.args.holidays.now c.args.code) c.args.dates.now c.args.on_holidays.now c.in_ok-days.days.items
    c.add_where.new.days.items c.add_where-2.new.days.items c.sort.new.self.items c.dedup.new.self.items c.in_ok-days.ensures.items
    c.in_ok-add_where.ensures c.in_ok-add_where-2.ensures c.in_ok-sort.ensures.permutation c.in_ok-sort.ensures.sorted
    (dedup_is _ _ _ c.dedup.ensures.filtered)
