-- The first refused content of a published extract, or of an update, and its reason.
use Rattle.std.specs.Prelude.{All, List, None, Option, Some, [], if◌then◌else◌, length, nat_lt, slice_index_or, take, true, ℕ, ◌++◌, ◌+◌}
use Rattle.std.specs.Prelude.{◌<◌, ◌==◌, ◌∷◌, ◌≡◌, ◌≢◌, ◌⊎◌}
use Rattle.std.specs.List.{list_all}
use Rattle.cif_columns.specs.{Comment.is_comment, FirstLine.is_printable, GivenLines.AreContentsToCut, Line.IsLine}
use Rattle.cif_columns.specs.declared.{ahead.Most.TheVariants.InFeed, refusal.Refusal.Refusal}
use Rattle.cif_columns.specs.declared.refusal.Refusal.TheVariants.{BadLength, BadByte, NotFull, OutOfOrder, Truncated, TooManyLines}
use Rattle.cif_extract.specs.Taken.{refusal_behind}
use Rattle.cif_extract.specs.declared.{fault.Fault.TheVariants.Memory, fault.Fault.TheVariants.Refused, reading.TakeFault.TakeFault}
use Rattle.cif_extract.specs.declared.reading.TakeFault.TheVariants as untaken
use Rattle.cif_records.specs.{Checks.first_of, Checks.unless, Kind.kind_in}
use Rattle.cif_records.specs.declared.{record.Kind.Kind, record.Kind.TheVariants.Hd, record.Kind.TheVariants.Zz}
use Rattle.cif_feed.specs.{FeedLayouts.feed_layouts, RecordLines.is_note, RecordLines.notes_may_stand, RecordLines.record_lines}
use Rattle.cif_feed.specs.declared.{feed_fault.FeedFault.FeedFault, feed_line.Feed.Feed, feed_line.Feed.TheVariants.Full}
use Rattle.cif_feed.specs.declared.{feed_line.Feed.TheVariants.Update, holidays.HolidayCodes.HolidayCodes}
use Rattle.cif_feed.specs.declared.feed_fault.FeedFault.TheVariants.{Extract, NotUpdate, BadTransaction}

-- a content that says something or is refused: a comment, or a line
abbrev pub IsFeedContent : List ℕ → Type 0
IsFeedContent content = IsLine content ⊎ (is_comment content ≡ true)

-- The first reason to refuse a line that comes after these contents: a note where none may stand, or that of a record behind theirs.
abbrev pub line_refusal : Feed → HolidayCodes → List (List ℕ) → List ℕ → Option Refusal
line_refusal feed allowed before line =
    if is_note line then unless (notes_may_stand before) OutOfOrder
    else refusal_behind (feed_layouts feed allowed) (record_lines before) line

-- The first reason to refuse a content that comes after these, where max may come: it is one too many; or it is no comment, and isn't
-- eighty bytes, or one of them may stand in no line, or it is refused as a line.
unfoldable pub feed_refusal : Feed → HolidayCodes → ℕ → List (List ℕ) → List ℕ → Option Refusal
feed_refusal feed allowed max before content = first_of (
    unless (nat_lt (length before) max) TooManyLines
    ∷ (if is_comment content then None else first_of (
    unless (length content == 80) BadLength
    ∷ unless (list_all is_printable content) BadByte
    ∷ line_refusal feed allowed before content
    ∷ []))
    ∷ [])

-- there is no reason to refuse any of these contents, each after those before it
pub record NoneOfFeedRefused (feed : Feed) (allowed : HolidayCodes) (max : ℕ) (contents : List (List ℕ)) : Type 0 where
  pub fine : (k : ℕ) → k < length contents → feed_refusal feed allowed max (take k contents) (slice_index_or contents k []) ≡ None

-- what NotFull is called, by the kind of the line that is refused for it
abbrev pub not_full : Feed → ℕ → Option Kind → FeedFault
not_full Full number kind = Extract (Refused number NotFull)
not_full Update number (Some Hd) = NotUpdate number
not_full Update number kind = BadTransaction number

-- The fault for this reason, of the content of this number, whose columns 1 and 2 name this kind. What a full extract has as NotFull is
-- NotUpdate of the header of an update, and BadTransaction of its other lines.
abbrev pub fault_for : Feed → ℕ → Option Kind → Refusal → FeedFault
fault_for feed number kind NotFull = not_full feed number kind
fault_for feed number kind why = Extract (Refused number why)

-- the fault of a line that isn't taken
abbrev pub untaken_fault : Feed → ℕ → Option Kind → TakeFault → FeedFault
untaken_fault feed number kind (untaken.Refused why) = fault_for feed number kind why
untaken_fault feed number kind untaken.Memory = Extract Memory

-- the first of the contents that is refused, and its fault
pub record IsRefusedContent (feed : Feed) (allowed : HolidayCodes) (max : ℕ) (contents : List (List ℕ)) (fault : FeedFault) : Type 0 where
  pub before : List (List ℕ)
  pub content : List ℕ
  pub after : List (List ℕ)
  pub parts : contents ≡ before ++ content ∷ after
  pub fine : NoneOfFeedRefused feed allowed max before
  pub why : Refusal
  pub reason : feed_refusal feed allowed max before content ≡ Some why
  pub is : fault ≡ fault_for feed (length before + 1) (kind_in content) why

-- no content is refused and none is a trailer: the line after the last is missing
pub record IsFeedTruncated (feed : Feed) (allowed : HolidayCodes) (max : ℕ) (contents : List (List ℕ)) (fault : FeedFault) : Type 0 where
  pub fine : NoneOfFeedRefused feed allowed max contents
  pub no_trailer : All (λ content. kind_in content ≢ Some Zz) contents
  pub is : fault ≡ Extract (Refused (length contents + 1) Truncated)

-- the first refusal of contents, as a fault
abbrev pub IsFirstOfFeed : Feed → HolidayCodes → ℕ → List (List ℕ) → FeedFault → Type 0
IsFirstOfFeed feed allowed max contents fault = IsRefusedContent feed allowed max contents fault ⊎
    IsFeedTruncated feed allowed max contents fault

-- A source failed before a refused content was decided: of these bytes it gave all but those unread. What it gave are whole contents,
-- none of them refused, and then a rest, which decides no content.
pub record IsFeedCut (feed : Feed) (allowed : HolidayCodes) (max : ℕ) (bytes unread : List ℕ) : Type 0 where
  pub contents : List (List ℕ)
  pub given : AreContentsToCut IsFeedContent InFeed max bytes unread contents
  pub fine : NoneOfFeedRefused feed allowed max contents
