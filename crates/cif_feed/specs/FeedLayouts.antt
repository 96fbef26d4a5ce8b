-- The layouts of a feed.
use Rattle.cif_extract.specs.Layouts.{Layouts}
use Rattle.cif_records.specs.Kind.{kind_in}
use Rattle.cif_feed.specs.{FeedLine.SpellsInFeed, FeedLine.cancels_in_feed, LayoutRefusals.feed_refusal_as, LayoutRefusals.kind_read_as}
use Rattle.cif_feed.specs.declared.{feed_line.Feed.Feed, holidays.HolidayCodes.HolidayCodes}

-- how its lines spell records, where these holiday codes may stand
abbrev pub feed_layouts : Feed → HolidayCodes → Layouts
feed_layouts feed allowed = record {
  kind = λ line. kind_read_as feed (kind_in line);
  cancels = cancels_in_feed feed;
  refusal = λ line. feed_refusal_as feed allowed (kind_in line) line;
  spells = SpellsInFeed feed allowed;
}
