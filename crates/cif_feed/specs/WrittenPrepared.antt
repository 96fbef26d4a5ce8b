-- What comes of preparing what a source gives, and writing it.
use Rattle.std.specs.Prelude.{Bool, Err, IsSomeAnd, List, Ok, Option, Result, [], false, true, ℕ, ⊤, ◌≡◌}
use Rattle.cif_columns.specs.{Sink.HasFailed, Sink.HasWritten, Source.Unread, declared.sink.Sink.Sink}
use Rattle.cif_extract.specs.{ExtractParts.ExtractParts, ReadCall.ReadCall, ReadCall.reading, SpellsExtract.BytesSpell, Texts.extract_text}
use Rattle.cif_extract.specs.declared.fault.Fault.TheVariants.{Memory, Write}
use Rattle.cif_feed.specs.{Dropped.AreDropped, PreparedParts.IsPrepared, declared.published_extract.PublishedExtract.PublishedExtract}
use Rattle.cif_feed.specs.FeedFault.{IsFailure, IsFeedFault, IsOfFeed, is_feed_read}
use Rattle.cif_feed.specs.PublishedParts.{BytesSpellPublished, IsPublishedOf, PublishedParts}
use Rattle.cif_feed.specs.declared.{dropped.Dropped.Dropped, feed_fault.FeedFault.FeedFault, feed_fault.FeedFault.TheVariants.Extract}
use Rattle.cif_feed.specs.declared.{feed_line.Feed.TheVariants.Full, holidays.HolidayCodes.HolidayCodes, holidays.Holidays.Holidays}

-- the codes that the holidays name, which may stand in the published extract
abbrev pub codes_named : Holidays → HolidayCodes
codes_named h = record { bank = h.bank.is_named; edinburgh = h.edinburgh.is_named; glasgow = h.glasgow.is_named }

-- what is reported of the keys that clash, if that is asked for; else nothing
abbrev pub AreDroppedIf : Bool → Holidays → PublishedParts → Dropped → Type 0
AreDroppedIf true h p dropped = AreDropped h p dropped
AreDroppedIf false h p dropped = (dropped.keys.items ≡ []) × (dropped.records ≡ 0)

-- the extract is the prepared one of a published extract, with these holidays, and this is reported of the keys that clash
pub record IsPreparedAs (h : Holidays) (drops : Bool) (p : PublishedParts) (x : ExtractParts) (dropped : Dropped) : Type 0 where
  pub prepared : IsPrepared h drops p x
  pub reported : AreDroppedIf drops h p dropped

-- what a call that prepares this published extract owes its sink: the text of the prepared one at Ok, a prefix of it at Write, and nothing
-- where memory runs out
abbrev pub WritesPrepared : {W : Type 0} → (W → Option (List ℕ)) → (W → Option ℕ) → Holidays → Bool → PublishedParts → Sink W → Sink W
    → Result Dropped FeedFault → Type 0
WritesPrepared contents errors h drops p old new (Ok dropped) =
    (x : ExtractParts) × IsPreparedAs h drops p x dropped × HasWritten contents errors (extract_text x) old new
WritesPrepared contents errors h drops p old new (Err (Extract Write)) =
    (x : ExtractParts) × (dropped : Dropped) × IsPreparedAs h drops p x dropped × HasFailed contents errors (extract_text x) old new
WritesPrepared contents errors h drops p old new (Err (Extract Memory)) = new ≡ old
WritesPrepared contents errors h drops p old new (Err fault) = ⊥

-- The bytes spell a published extract whose holiday codes the holidays name, in at most max contents. This is the text of its prepared
-- extract, which spells that as an extract of this profile; and this is reported of the keys that clash.
pub record IsPreparedText (h : Holidays) (drops : Bool) (max : ℕ) (bytes text : List ℕ) (dropped : Dropped) : Type 0 where
  pub published : PublishedParts
  pub spelled : BytesSpellPublished (codes_named h) max bytes published
  pub prepared : ExtractParts
  pub is : IsPreparedAs h drops published prepared dropped
  pub text_is : text ≡ extract_text prepared
  pub spells : BytesSpell text prepared

-- what a text is to an input, where it was written, or a prefix of it was
abbrev pub Prepares : Holidays → Bool → ℕ → List ℕ → List ℕ → Result Dropped FeedFault → Type 0
Prepares h drops max bytes text (Ok dropped) = IsPreparedText h drops max bytes text dropped
Prepares h drops max bytes text (Err (Extract Write)) = (dropped : Dropped) × IsPreparedText h drops max bytes text dropped
Prepares h drops max bytes text (Err fault) = ⊤

-- what a call that may answer such a fault owes its sink: the whole text at Ok, a prefix of it at Write, and nothing at any other fault
abbrev pub FeedWrites : {W A : Type 0} → (W → Option (List ℕ)) → (W → Option ℕ) → List ℕ → Sink W → Sink W → Result A FeedFault → Type 0
FeedWrites contents errors text old new (Ok done) = HasWritten contents errors text old new
FeedWrites contents errors text old new (Err (Extract Write)) = HasFailed contents errors text old new
FeedWrites contents errors text old new (Err fault) = new ≡ old

-- why nothing was written, or not all of it: what the bytes can't be read for, where `after` is left of them then; or it can't be written
abbrev pub IsPrepareFault : Holidays → ℕ → List ℕ → Unread → FeedFault → Type 0
IsPrepareFault h max bytes after (Extract Write) = Unit {0}
IsPrepareFault h max bytes after fault = IsFeedFault Full (codes_named h) max bytes after fault

-- a device fails, or memory runs out
abbrev pub IsDeviceOrMemory : FeedFault → Type 0
IsDeviceOrMemory (Extract Write) = Unit {0}
IsDeviceOrMemory fault = IsFailure fault

-- the faults of preparing at most max contents, for any devices
abbrev pub IsOfPrepare : ℕ → FeedFault → Type 0
IsOfPrepare max (Extract Write) = Unit {0}
IsOfPrepare max fault = IsOfFeed max fault

-- reading a published extract, which is kept, and writing what is prepared of it
abbrev pub preparing : Holidays → ℕ → Option PublishedExtract → ReadCall Dropped FeedFault
preparing h max kept =
    reading is_feed_read (λ bytes dropped. IsSomeAnd kept (IsPublishedOf (codes_named h) max bytes)) (IsPrepareFault h max)
    (IsOfPrepare max)
