-- When bytes spell what a feed says, line by line.
use Rattle.std.specs.Prelude.{◌≡◌, ℕ, ◌<◌, ◌≤◌, true, List, [], All, length, slice_index_or, take}
use Rattle.cif_columns.specs.Contents.{contents_of}
use Rattle.cif_extract.specs.{ExtractParts.ExtractParts, ExtractParts.extract_parts, SpellsExtract.SpellExtractBy}
use Rattle.cif_feed.specs.{FeedLine.SpellsInFeed, FeedRefusal.IsFeedContent, Marks.MarkParts, Marks.mark_parts, Marks.marks_in}
use Rattle.cif_feed.specs.{RecordLines.is_note, RecordLines.notes_may_stand, RecordLines.record_lines, declared.feed_line.Feed.Feed}
use Rattle.cif_feed.specs.{declared.feed_reading.FeedExtract.FeedExtract, declared.holidays.HolidayCodes.HolidayCodes}

-- what the lines of a feed say: the extract of their records, and what they say beyond these
pub record FeedParts : Type 0 where
  pub extract : ExtractParts
  pub marks : MarkParts

-- its parts, without the capacities of its vectors
abbrev pub feed_parts : FeedExtract → FeedParts
feed_parts x = record { extract = extract_parts x.extract; marks = mark_parts x.marks }

-- The contents say these parts, line by line.
pub record SayFeed (feed : Feed) (allowed : HolidayCodes) (contents : List (List ℕ)) (x : FeedParts) : Type 0 where
  pub extract : SpellExtractBy (SpellsInFeed feed allowed) (record_lines contents) x.extract
  pub marks : x.marks ≡ marks_in allowed contents

-- The contents spell these parts: comments may stand anywhere, notes behind a BS and before ZZ, and the others say them.
pub record SpellFeed (feed : Feed) (allowed : HolidayCodes) (contents : List (List ℕ)) (x : FeedParts) : Type 0 where
  pub are_contents : All IsFeedContent contents
  pub notes_stand : (k : ℕ) → k < length contents → is_note (slice_index_or contents k []) ≡ true
      → notes_may_stand (take k contents) ≡ true
  pub says : SayFeed feed allowed contents x

-- the bytes spell them, in at most max contents
pub record BytesSpellFeed (feed : Feed) (allowed : HolidayCodes) (max : ℕ) (bytes : List ℕ) (x : FeedParts) : Type 0 where
  pub spell : SpellFeed feed allowed (contents_of bytes) x
  pub within : length (contents_of bytes) ≤ max
