-- No source, or one and then the others: `none-done`, `stops-there` or `goes-further`.
use Rattle.cif_feed.proofs.Names.{[], append-nil, nil_from_length, sym, ◌∷◌}
use Rattle.cif_extract.proofs.ReadCalls.{at-fault}
use Rattle.cif_feed.proofs.UpdatesRead.{goes-further, listed-further, none-done, stops-there}
use Rattle.cif_feed.proofs.updates_in_turn.+do_updates.Goals as goal

pub returns-in-None : goal.returns-in-None
returns-in-None g t c =
    ([], none-done _ _ _ _ c.args.updates.now (nil_from_length _ c.in-None.ensures.cases), sym (append-nil c.args.done.now.items))

pub returns-in_err-do_update-in-Some : goal.returns-in_err-do_update-in-Some
returns-in_err-do_update-in-Some g n c =
    let f = c.in_err-do_update-in-Some.field-0.0 in
    let is = at-fault c.from_residual.result f c.from_residual.ensures.1 in (
      [],
      stops-there _ _ _ _ _ c.args.updates.now c.in-Some.update.now c.do_update.new.update c.in-Some.others.now c.in-Some.ensures.cases.0
          c.from_residual.result f is c.in_err-do_update-in-Some.ensures,
      rw is tt,
    )

pub returns-in_ok-do_update-in-Some : goal.returns-in_ok-do_update-in-Some
returns-in_ok-do_update-in-Some g n c =
    let first = c.in_ok-do_update-in-Some.ensures in
    let others = c.do_updates.ensures in (
      first.0 ∷ others.0,
      goes-further _ _ _ _ _ c.args.updates.now c.in-Some.update.now c.do_update.new.update c.in-Some.others.now c.in-Some.ensures.cases.0
          first.0 _ _ _ _ first.2 first.3 others.1,
      listed-further c.args.done.now.items c.do_update.new.done.items c.do_updates.new.done.items first.0 others.0 c.do_updates.result
          first.1 others.2,
    )
