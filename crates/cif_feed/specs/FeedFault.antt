-- Why bytes are no published extract, or no update, or can't be read.
use Rattle.std.specs.Prelude.{◌≡◌, ℕ, Bool, false, List, IsSomeAnd, Result, Ok, Err}
use Rattle.cif_columns.specs.{Contents.contents_of, GivenLines.IsDecidedWithinOrLast, Source.Unread, declared.ahead.Most.TheVariants.InFeed}
use Rattle.cif_extract.specs.{ReadCall.ReadCall, ReadCall.reading, ReadFault.IsLineNumber, ReadFault.is_read}
use Rattle.cif_extract.specs.declared.fault.Fault.TheVariants.{Refused, Read, Memory}
use Rattle.cif_feed.specs.FeedRefusal.{IsFeedContent, IsFeedCut, IsFirstOfFeed}
use Rattle.cif_feed.specs.SpellsFeed.{BytesSpellFeed, feed_parts}
use Rattle.cif_feed.specs.declared.{feed_fault.FeedFault.FeedFault, feed_line.Feed.Feed, feed_reading.FeedExtract.FeedExtract}
use Rattle.cif_feed.specs.declared.{holiday_text.HolidayFault.HolidayFault, holidays.HolidayCodes.HolidayCodes}
use Rattle.cif_feed.specs.declared.feed_fault.FeedFault.TheVariants.{BadHoliday, BadTransaction, Extract, NotUpdate}
use Rattle.cif_feed.specs.declared.holiday_text.HolidayFault.TheVariants as holiday

-- Why these bytes are none, or can't be read, where `after` is left then: their first refusal, of a content that is decided, or a failure
-- of the source before one was. No contract foretells that memory runs out.
abbrev pub IsFeedFault : Feed → HolidayCodes → ℕ → List ℕ → Unread → FeedFault → Type 0
IsFeedFault feed allowed max bytes after (Extract (Refused line why)) =
    IsFirstOfFeed feed allowed max (contents_of bytes) (Extract (Refused line why)) ×
    IsDecidedWithinOrLast IsFeedContent InFeed max bytes after line
IsFeedFault feed allowed max bytes after (Extract Read) = IsSomeAnd after.bytes (IsFeedCut feed allowed max bytes)
IsFeedFault feed allowed max bytes after (Extract Memory) = Unit {0}
IsFeedFault feed allowed max bytes after (Extract _) = ⊥
IsFeedFault feed allowed max bytes after (NotUpdate line) =
    IsFirstOfFeed feed allowed max (contents_of bytes) (NotUpdate line) × IsDecidedWithinOrLast IsFeedContent InFeed max bytes after line
IsFeedFault feed allowed max bytes after (BadTransaction line) =
    IsFirstOfFeed feed allowed max (contents_of bytes) (BadTransaction line)
    × IsDecidedWithinOrLast IsFeedContent InFeed max bytes after line
IsFeedFault feed allowed max bytes after _ = ⊥

-- the faults of reading at most max contents, for any source
abbrev pub IsOfFeed : ℕ → FeedFault → Type 0
IsOfFeed max (Extract (Refused line why)) = IsLineNumber max line
IsOfFeed max (Extract Read) = Unit {0}
IsOfFeed max (Extract Memory) = Unit {0}
IsOfFeed max (Extract _) = ⊥
IsOfFeed max (NotUpdate line) = IsLineNumber max line
IsOfFeed max (BadTransaction line) = IsLineNumber max line
IsOfFeed max _ = ⊥

-- the source fails, or memory runs out
abbrev pub IsFailure : FeedFault → Type 0
IsFailure (Extract Read) = Unit {0}
IsFailure (Extract Memory) = Unit {0}
IsFailure fault = ⊥

-- what is answered where the bytes spell these parts: them, unless the source fails or memory runs out
abbrev pub IsReadAs : {A B : Type 0} → (A → B) → B → Result A FeedFault → Type 0
IsReadAs parts x (Ok read) = parts read ≡ x
IsReadAs parts x (Err fault) = IsFailure fault

-- whether the fault says that the source failed
abbrev pub is_feed_read : FeedFault → Bool
is_feed_read (Extract fault) = is_read fault
is_feed_read _ = false

-- reading what the lines of a feed say
abbrev pub reading_feed : Feed → HolidayCodes → ℕ → ReadCall FeedExtract FeedFault
reading_feed feed allowed max =
    reading is_feed_read (λ bytes lines. BytesSpellFeed feed allowed max bytes (feed_parts lines)) (IsFeedFault feed allowed max)
    (IsOfFeed max)

-- a fault of holidays
abbrev pub of_holiday_fault : HolidayFault → FeedFault
of_holiday_fault (holiday.BadHoliday line) = BadHoliday line
of_holiday_fault holiday.Read = Extract Read
of_holiday_fault holiday.Memory = Extract Memory
