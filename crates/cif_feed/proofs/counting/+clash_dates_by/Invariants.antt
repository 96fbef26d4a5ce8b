-- Each time there is a code less.
use Rattle.cif_feed.proofs.Names.{length}
use Rattle.cif_feed.proofs.counting.+clash_dates_by.Given as goal

abbrev pub decreases-clash_dates_by : goal.decreases-clash_dates_by
decreases-clash_dates_by l = length l.codes.now
