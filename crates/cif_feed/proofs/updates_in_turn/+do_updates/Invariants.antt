use Rattle.cif_feed.proofs.Names.{length}
use Rattle.cif_feed.proofs.updates_in_turn.+do_updates.Given as goal

abbrev pub decreases-do_updates : goal.decreases-do_updates
decreases-do_updates g l = length l.updates.now
