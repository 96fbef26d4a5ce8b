-- What the update did is listed, unless memory runs out (`none-listed`).
use Rattle.cif_feed.proofs.{Names.refl, UpdatesRead.none-listed, updates_in_turn.do_update.Goals.in-Err}
use Rattle.cif_feed.proofs.{updates_in_turn.do_update.Goals.in-Ok}
use Rattle.cif_feed.proofs.updates_in_turn.do_update.Goals as goal

pub returns : goal.returns
returns g c = elim c.match-push.branch [
  | in-Ok w ↦ rw w.result-is (
    record { header = c.update_from.new.self.header; outcome = c.in_ok-outcome.outcome },
    w.in-Ok.ensures.items,
    refl,
    c.in_ok-outcome.ensures.reads,
  )
  | in-Err w ↦ rw w.result-is (none-listed _ _ _ _ _ _ _ c.in_ok-outcome.outcome c.in_ok-outcome.ensures.reads)
]
