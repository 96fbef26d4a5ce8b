-- What comes of writing which published record decides on each day, of what a source gives.
use Rattle.std.specs.Prelude.{Bool, Err, IsSomeAnd, List, Ok, Option, Result, false, ℕ, ⊤, ◌≡◌}
use Rattle.cif_columns.specs.{Sink.HasFailed, Sink.HasWritten, Source.Unread, declared.sink.Sink.Sink}
use Rattle.cif_extract.specs.{ReadCall.ReadCall, ReadCall.reading, declared.fault.Clash.Clash}
use Rattle.cif_extract.specs.declared.fault.Fault.TheVariants.{Ambiguous, Memory, Write}
use Rattle.cif_rows.specs.declared.format.Format.{Format}
use Rattle.cif_weeks.specs.Permanent.{Permanent}
use Rattle.cif_feed.specs.FeedFault.{is_feed_read}
use Rattle.cif_feed.specs.PublishedParts.{BytesSpellPublished, IsPublishedOf, PublishedParts}
use Rattle.cif_feed.specs.Winners.{AreWinners, HasNoClash, IsFirstPublishedClash, winners_table}
use Rattle.cif_feed.specs.WrittenPrepared.{AreDroppedIf, IsOfPrepare, IsPrepareFault, codes_named}
use Rattle.cif_feed.specs.declared.{dropped.Dropped.Dropped, feed_fault.FeedFault.FeedFault, feed_fault.FeedFault.TheVariants.Extract}
use Rattle.cif_feed.specs.declared.{holidays.Holidays.Holidays, published_extract.PublishedExtract.PublishedExtract}

-- The rows are the winners of a published extract, with these holidays. It has no clash, unless clashes are dropped, and this is reported
-- of the keys that have one.
pub record AreWinnersAs (h : Holidays) (drops : Bool) (p : PublishedParts) (rows : List (List ℕ × Permanent ℕ)) (dropped : Dropped)
    : Type 0 where
  pub winners : AreWinners h drops p rows
  pub clear : drops ≡ false → HasNoClash h p
  pub reported : AreDroppedIf drops h p dropped

-- why a published extract has no winners: its first clash, unless clashes are dropped; or memory runs out
abbrev pub HasNoWinners : Holidays → Bool → PublishedParts → FeedFault → Type 0
HasNoWinners h drops p (Extract (Ambiguous clash)) = (drops ≡ false) × IsFirstPublishedClash h p clash
HasNoWinners h drops p (Extract Memory) = ⊤
HasNoWinners h drops p fault = ⊥

-- what a call that writes the winners of this published extract owes its sink: their table at Ok, a prefix of it at Write, and nothing
-- where there are none
abbrev pub WritesWinners : {W : Type 0} → (W → Option (List ℕ)) → (W → Option ℕ) → Holidays → Bool → Format → PublishedParts → Sink W
    → Sink W → Result Dropped FeedFault → Type 0
WritesWinners contents errors h drops format p old new (Ok dropped) = (rows : List (List ℕ × Permanent ℕ))
    × AreWinnersAs h drops p rows dropped × HasWritten contents errors (winners_table format p.schedules rows) old new
WritesWinners contents errors h drops format p old new (Err (Extract Write)) = (rows : List (List ℕ × Permanent ℕ)) × (dropped : Dropped)
    × AreWinnersAs h drops p rows dropped × HasFailed contents errors (winners_table format p.schedules rows) old new
WritesWinners contents errors h drops format p old new (Err fault) = (new ≡ old) × HasNoWinners h drops p fault

-- The bytes spell a published extract whose holiday codes the holidays name, in at most max contents. This is the table of its winners in
-- this format, and this is reported of the keys that clash.
pub record IsWinnersText (h : Holidays) (drops : Bool) (format : Format) (max : ℕ) (bytes text : List ℕ) (dropped : Dropped)
    : Type 0 where
  pub published : PublishedParts
  pub spelled : BytesSpellPublished (codes_named h) max bytes published
  pub rows : List (List ℕ × Permanent ℕ)
  pub are : AreWinnersAs h drops published rows dropped
  pub text_is : text ≡ winners_table format published.schedules rows

-- what a text is to an input, where it was written, or a prefix of it was
abbrev pub ShowsWinners : Holidays → Bool → Format → ℕ → List ℕ → List ℕ → Result Dropped FeedFault → Type 0
ShowsWinners h drops format max bytes text (Ok dropped) = IsWinnersText h drops format max bytes text dropped
ShowsWinners h drops format max bytes text (Err (Extract Write)) =
    (dropped : Dropped) × IsWinnersText h drops format max bytes text dropped
ShowsWinners h drops format max bytes text (Err fault) = ⊤

-- The bytes spell a published extract whose first clash is this, and clashes aren't dropped.
pub record SpellsPublishedClash (h : Holidays) (drops : Bool) (max : ℕ) (bytes : List ℕ) (clash : Clash) : Type 0 where
  pub stays : drops ≡ false
  pub published : PublishedParts
  pub spelled : BytesSpellPublished (codes_named h) max bytes published
  pub first : IsFirstPublishedClash h published clash

-- why nothing was written, or not all of it: what the bytes aren't prepared for, or their first clash, unless clashes are dropped
abbrev pub IsWinnersFault : Holidays → Bool → ℕ → List ℕ → Unread → FeedFault → Type 0
IsWinnersFault h drops max bytes after (Extract (Ambiguous clash)) = SpellsPublishedClash h drops max bytes clash
IsWinnersFault h drops max bytes after fault = IsPrepareFault h max bytes after fault

-- the faults for at most max contents, for any devices
abbrev pub IsOfWinners : Bool → ℕ → FeedFault → Type 0
IsOfWinners drops max (Extract (Ambiguous clash)) = drops ≡ false
IsOfWinners drops max fault = IsOfPrepare max fault

-- reading a published extract, which is kept, and writing its winners
abbrev pub winning : Holidays → Bool → ℕ → Option PublishedExtract → ReadCall Dropped FeedFault
winning h drops max kept =
    reading is_feed_read (λ bytes dropped. IsSomeAnd kept (IsPublishedOf (codes_named h) max bytes)) (IsWinnersFault h drops max)
    (IsOfWinners drops max)
