-- Each time there are fewer schedules.
use Rattle.cif_feed.proofs.Names.{length}
use Rattle.cif_feed.proofs.deciding.+decided.Given as goal

abbrev pub decreases-decided : goal.decreases-decided
decreases-decided l = length l.ranked.now
