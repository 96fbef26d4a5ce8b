-- One call more (`next-rows`), until none is left (`last-rows`).
use Rattle.cif_views.proofs.Names.{refl}
use Rattle.cif_views.proofs.{Stops.last-rows, Stops.next-rows}
use Rattle.cif_views.proofs.boards.Wanted.add_each.Goals as goal

pub loop-rest-init : goal.loop-rest-init
loop-rest-init c = refl

pub loop-rest-preserved : goal.loop-rest-preserved
loop-rest-preserved c =
    next-rows c.args.self.now c.args.schedule.now c.args.train.now c.loop-rest.rest.now c.stop-item.result c.row_of.result c.loop-rest.rows.items
    c.add_row.new.rows.items _ c.in-len1-up.len_at_least c.stop-item.is c.row_of.ensures c.in_ok-add_row.ensures c.loop-rest.invariant

pub returns : goal.returns
returns c =
    last-rows c.args.self.now c.args.schedule.now c.args.train.now c.loop-rest.rest.now c.loop-rest.rows.items _ c.in_default.len_below
    c.loop-rest.invariant
