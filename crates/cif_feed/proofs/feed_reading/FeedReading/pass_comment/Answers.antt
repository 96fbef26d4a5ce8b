-- A comment is counted (`comment_step`).
use Rattle.cif_feed.proofs.{FeedSteps.comment_step, Names.refl}
use Rattle.cif_feed.proofs.feed_reading.FeedReading.pass_comment.Goals as goal

pub returns : goal.returns
returns c = λ feed allowed cs comment so_far is. comment_step feed allowed cs comment is c.args.self.now _ so_far refl
