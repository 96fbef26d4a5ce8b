-- Nothing was read, and there is no mark.
use Rattle.cif_feed.proofs.Names.{HasTaken, [], feed_layouts, refl, subst, sym, taken_none}
use Rattle.cif_feed.proofs.feed_reading.FeedReading.new.Goals as goal

pub returns : goal.returns
returns c = λ feed allowed. record {
  taken = subst (HasTaken (feed_layouts feed allowed) []) (sym c.new.ensures) (taken_none (feed_layouts feed allowed));
  marks = c.new-2.ensures allowed;
  basic = refl;
  trailer = refl;
}
