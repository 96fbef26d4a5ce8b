-- Two prepared inputs, narrowed to what is asked for of both.
use Rattle.std.proofs.Common.{Bool, List, subst, sym, ℕ, ◌≡◌}
use Rattle.cif_canon.specs.{Asked.IsNarrowed, Asked.header_window, Comparison.AreCompared, Differences.AreDifferences}
use Rattle.cif_canon.specs.{Differences.DifferencesParts, Pair.SpellPair, Pair.asked_of_both}
use Rattle.cif_canon.specs.declared.{asked.Asked.Asked, comparison.Comparison.Comparison}
use Rattle.cif_extract.specs.{ExtractParts.ExtractParts, SpellsExtract.BytesSpell}
use Rattle.cif_feed.specs.{WrittenPrepared.IsPreparedText, declared.dropped.Dropped.Dropped, declared.holidays.Holidays.Holidays}
use Rattle.cif_laws.proofs.ComparedFeeds.{compared-feeds, different-feeds}
use Rattle.cif_laws.proofs.PreparedInputs.{says, tiplocs-of, window-of}
use Rattle.cif_laws.specs.{FeedDifferences.AreFeedDifferences, FeedDifferences.IsFeedComparison, Feeds.SaysWhatFeedSays}
use Rattle.cif_laws.specs.{PublishedFeed.feed_of}

module _ {h : Holidays} {drops : Bool} {limit : ℕ} {bytes text : List ℕ} {dropped : Dropped}
    (a : IsPreparedText h drops limit bytes text dropped) (asked : Asked) (whole x : ExtractParts) (spelled : BytesSpell text whole)
    (n : IsNarrowed asked whole x) where
  -- in its own window it says what the feed says
  own-says : SaysWhatFeedSays (header_window x.header) x (feed_of a)
  own-says = subst (λ w. SaysWhatFeedSays w x (feed_of a)) (sym (window-of a asked whole x spelled n)) (says a asked whole x spelled n)

module _ {h i : Holidays} {drops other_drops : Bool} {limit other_limit : ℕ} {bytes text other_bytes other_text : List ℕ}
    {dropped other_dropped : Dropped} (a : IsPreparedText h drops limit bytes text dropped)
    (b : IsPreparedText i other_drops other_limit other_bytes other_text other_dropped) (asked : Asked) (common : Bool)
    (x y : ExtractParts) (pair : SpellPair asked common text other_text x y) where
  abbrev both : Asked
  both = asked_of_both common asked pair.left_whole pair.right_whole

  left-says : SaysWhatFeedSays (header_window x.header) x (feed_of a)
  left-says = own-says a both pair.left_whole x pair.left_spelled.spell pair.narrowed.left

  right-says : header_window x.header ≡ header_window y.header → SaysWhatFeedSays (header_window x.header) y (feed_of b)
  right-says same = subst (λ w. SaysWhatFeedSays w y (feed_of b)) (sym same)
      (own-says b both pair.right_whole y pair.right_spelled.spell pair.narrowed.right)

  pub compared-pair : (comparison : Comparison) → AreCompared x y comparison
      → IsFeedComparison (header_window x.header) (feed_of a) (feed_of b) comparison
  compared-pair comparison are =
      compared-feeds x y (feed_of a) (feed_of b) left-says (right-says are.window)
      (tiplocs-of a both pair.left_whole x pair.left_spelled.spell pair.narrowed.left)
      (tiplocs-of b both pair.right_whole y pair.right_spelled.spell pair.narrowed.right) comparison are.compared

  pub different-pair : (d : DifferencesParts) → AreDifferences x y d
      → AreFeedDifferences (header_window x.header) (feed_of a) (feed_of b) d
  different-pair d are =
      different-feeds x y (feed_of a) (feed_of b) left-says (right-says are.window)
      (tiplocs-of a both pair.left_whole x pair.left_spelled.spell pair.narrowed.left)
      (tiplocs-of b both pair.right_whole y pair.right_spelled.spell pair.narrowed.right) d are
