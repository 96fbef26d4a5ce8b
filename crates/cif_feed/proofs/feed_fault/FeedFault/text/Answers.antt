-- Which fault it is gives its text.
use Rattle.cif_feed.specs.FeedTexts.{fault_text}
use Rattle.cif_feed.proofs.feed_fault.FeedFault.text.Goals as goal

pub returns-in-BadTransaction : goal.returns-in-BadTransaction
unfolding fault_text
returns-in-BadTransaction c = rw c.in-BadTransaction.is c.line_text-in-BadTransaction.ensures

pub returns-in-OutOfSequence : goal.returns-in-OutOfSequence
unfolding fault_text
returns-in-OutOfSequence c = rw c.in-OutOfSequence.is c.line_text-in-OutOfSequence.ensures
