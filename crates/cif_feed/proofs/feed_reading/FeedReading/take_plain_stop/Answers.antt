-- What `Reading` says of the line is said of the contents (`stop_taken`).
use Rattle.std.proofs.lemmas.Result.{on_ok_weaker}
use Rattle.cif_feed.proofs.{FeedSteps.stop_taken, Names.refl}
use Rattle.cif_feed.proofs.feed_reading.FeedReading.take_plain_stop.Goals as goal

pub returns : goal.returns
returns c = λ feed allowed cs so_far.
    on_ok_weaker c.take_plain_stop.result
    (λ taken. stop_taken feed allowed cs c.args.columns.now c.args.self.now _ so_far c.requires taken refl) c.take_plain_stop.ensures
