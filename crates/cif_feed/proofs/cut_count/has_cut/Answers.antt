-- A schedule with a code has a cut exactly if a first one is found (`cut-decided`).
use Rattle.cif_feed.proofs.Names.{Bool, HasCut, IsTrue, published_schedule_terms, subst, sym, ◌↔◌}
use Rattle.cif_feed.proofs.CutCounts.{cut-decided}
use Rattle.cif_feed.proofs.cut_count.has_cut.Goals as goal

pub returns : goal.returns
returns c =
    let one = c.args.one.now in
    let r = published_schedule_terms one in
    subst (λ (b : Bool). IsTrue b ↔ HasCut c.args.holidays.now c.args.window_last r) (sym c.is_some.ensures)
    (cut-decided c.args.holidays.now c.args.window_last r c.in-Some.code c.in-Some.is c.prepared_last-last.result
    (c.prepared_last-last.ensures.last one.code) c.next_holiday.result c.next_holiday.ensures)
